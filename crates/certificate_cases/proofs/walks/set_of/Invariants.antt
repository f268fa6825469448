use Rattle.std.proofs.Common.{◌≡◌, length}
use Rattle.certificate_cases.proofs.walks.set_of.Given as goal

abbrev pub invariant-loop-var : goal.invariant-loop-var
invariant-loop-var l = length l.set ≡ length l.problem
