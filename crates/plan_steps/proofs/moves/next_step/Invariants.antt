use Rattle.std.proofs.Common.{◌≡◌, drop}
use Rattle.lawful_history.specs.Installing.{next_step}
use Rattle.plan_steps.proofs.moves.next_step.Given as goal

abbrev pub invariant-loop-index : goal.invariant-loop-index
invariant-loop-index l = next_step l.index (drop l.index l.steps) ≡ next_step 0 l.steps
