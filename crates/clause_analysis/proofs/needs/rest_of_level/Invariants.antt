use Rattle.std.proofs.Common.{◌≡◌, ◌+◌, drop}
use Rattle.clause_analysis.specs.Needs.{needed_of}
use Rattle.clause_analysis.proofs.needs.rest_of_level.Given as goal

abbrev pub invariant-loop-older : goal.invariant-loop-older
invariant-loop-older l = needed_of l.needs.needed.items (drop (l.depth + 1) l.trail.entries) ≡ needed_of l.needs.needed.items (drop l.older l.trail.entries)
