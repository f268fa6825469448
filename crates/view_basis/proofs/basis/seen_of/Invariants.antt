use Rattle.std.proofs.Common.{◌≡◌, map}
use Rattle.view_basis.specs.Sources.{shown}
use Rattle.view_basis.proofs.basis.seen_of.Given as goal

abbrev pub invariant-sources : goal.invariant-sources
invariant-sources l = l.seen ≡ map (λ source. source.seen) (map shown l.yielded)
