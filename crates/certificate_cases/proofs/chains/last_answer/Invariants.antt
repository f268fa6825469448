use Rattle.std.proofs.Common.{◌≡◌}
use Rattle.certificate_cases.proofs.chains.last_answer.Given as goal

-- no round changes the checker
abbrev pub invariant-rounds : goal.invariant-rounds
invariant-rounds l = l.checker ≡ l.initial.checker
