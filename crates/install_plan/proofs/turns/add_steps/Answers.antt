use Rattle.std.proofs.Common.{◌++◌, ◌∷◌, [], List, ap, ◌∙◌}
use Rattle.install_plan.specs.declared.turns.Turned.{Turned}
use Rattle.install_plan.proofs.Adding.{manifest_turns, read_more}
use Rattle.install_plan.proofs.turns.add_steps.Goals as goal

pub steps-preserved : goal.steps-preserved
steps-preserved c =
    c.in_ok-add_step.ensures
    ∙ ap (λ (turned : List Turned). turned ++ manifest_turns (c.in-Some.found ∷ [])) c.steps.invariant
    ∙ read_more c.args.turned.now.items c.steps.yielded c.in-Some.found
