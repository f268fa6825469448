use Rattle.std.proofs.Common.{take}
use Rattle.std.specs.List.{AllByRecursion}
use Rattle.clause_trail.specs.Trails.{literals, IsKnown}
use Rattle.clause_trail.proofs.members.find_unknown.Given as goal

abbrev pub invariant-loop-member : goal.invariant-loop-member
invariant-loop-member l = AllByRecursion (λ v. IsKnown (literals l.trail.entries) v) (take l.member-index l.members)
