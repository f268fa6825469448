use Rattle.std.proofs.Common.{◌≡◌, map, take}
use Rattle.derivations.specs.Clauses.{negative}
use Rattle.clause_trail.proofs.members.not_all.Given as goal

abbrev pub invariant-loop-member : goal.invariant-loop-member
invariant-loop-member l = l.lits.items ≡ map negative (take l.member-index l.member-items)
