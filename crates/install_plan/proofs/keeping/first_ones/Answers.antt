use Rattle.std.proofs.Common.{◌++◌, ◌∷◌, [], List, if◌then◌else◌, map, sym, ap, ◌∙◌}
use Rattle.std.specs.List.{list_any}
use Rattle.std.proofs.lemmas.List.{map-append}
use Rattle.cluster_objects.specs.declared.plans.Step.{Step}
use Rattle.install_plan.specs.Plans.{first_ones, is_same_step}
use Rattle.install_plan.specs.declared.turns.Turned.{Turned}
use Rattle.install_plan.proofs.Kept.{first_ones_more}
use Rattle.install_plan.proofs.keeping.first_ones.Goals as goal

pub steps-preserved : goal.steps-preserved
steps-preserved c =
    let step = c.in-Some.one.step in
    c.in_ok-keep.ensures
    ∙ ap (λ (kept : List Step). if list_any (is_same_step step) kept then kept else kept ++ step ∷ []) c.steps.invariant
    ∙ sym (first_ones_more (map (λ (one : Turned). one.step) c.steps.yielded) step)
    ∙ ap first_ones (sym (map-append (λ (one : Turned). one.step) c.steps.yielded (c.in-Some.one ∷ [])))
