use Rattle.std.proofs.Common.{◌≡◌, ◌++◌, length}
use Rattle.derivations.specs.Reading.{both, parts, each}
use Rattle.derivations.specs.Found.{now}
use Rattle.derivations.proofs.reading.each.each.Given as goal

-- the items so far, before those of the rest, are all
abbrev pub invariant-items : goal.invariant-items
invariant-items g l = both (λ xs ys. xs ++ ys) (now l.found) (each g.T.Written.meaning (parts l.byte l.rest)) ≡ each g.T.Written.meaning (parts l.byte l.text)

abbrev pub decreases-items : goal.decreases-items
decreases-items g l = length l.rest
