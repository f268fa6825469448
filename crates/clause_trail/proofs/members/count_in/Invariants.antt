use Rattle.std.proofs.Common.{◌≡◌, ◌≤◌, take}
use Rattle.std.specs.List.{count_by}
use Rattle.derivations.specs.Clauses.{positive, is_in}
use Rattle.clause_trail.specs.Trails.{literals}
use Rattle.clause_trail.proofs.members.count_in.Given as goal

abbrev pub invariant-loop-member : goal.invariant-loop-member
invariant-loop-member l =
    (l.count ≡ count_by (λ v. is_in (literals l.trail.entries) (positive v)) (take l.member-index l.members)) × (l.count ≤ l.member-index)
