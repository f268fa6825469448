use Rattle.std.proofs.Common.{◌≡◌}
use Rattle.certificate_cases.proofs.walks.follow.Given as goal

abbrev pub invariant-loop-i : goal.invariant-loop-i
invariant-loop-i l = l.walk.problem ≡ l.initial.walk.problem
