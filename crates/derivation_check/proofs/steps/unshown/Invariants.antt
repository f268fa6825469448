use Rattle.std.proofs.Common.{◌≡◌, drop, length}
use Rattle.derivation_check.specs.Faults.{steps_fault}
use Rattle.derivation_check.proofs.steps.unshown.Given as goal

abbrev pub invariant-loop-step : goal.invariant-loop-step
invariant-loop-step l = record {
  rest : steps_fault l.problem l.lemmas l.steps ≡ steps_fault l.problem l.lemmas (drop l.step-index l.steps);
  size : length l.marks ≡ length l.initial.marks;
  listed : length l.listed ≡ length l.initial.listed;
}
