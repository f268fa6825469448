use Rattle.std.proofs.Common.{◌≡◌, ◌++◌, drop}
use Rattle.std.specs.List.{AllByRecursion}
use Rattle.derivations.specs.Fits.{StepFits}
use Rattle.derivations.specs.Text.{joined, step_line}
use Rattle.derivations.proofs.text.put_steps.Given as goal

-- what is written so far, and that its numbers fit where those of the rest do
abbrev pub invariant-loop-step : goal.invariant-loop-step
invariant-loop-step l =
    record {
      text : l.initial.out.items ++ joined step_line l.steps ≡ l.out.items ++ joined step_line (drop l.step-index l.steps);
      fits : AllByRecursion StepFits (drop l.step-index l.steps) → AllByRecursion StepFits l.steps;
    }
