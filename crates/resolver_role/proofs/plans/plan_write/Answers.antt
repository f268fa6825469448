use Rattle.std.proofs.Common.{sym, ◌∙◌}
use Rattle.controller_rules.specs.Resolving as spec
use Rattle.resolver_role.proofs.plans.plan_write.Goals as goal

pub returns-then-not-has_no_plan : goal.returns-then-not-has_no_plan
returns-then-not-has_no_plan c =
    spec.IsDone c.args.found.now c.requires.stands (sym c.has_no_plan.ensures ∙ c.if-not-has_no_plan.true)

pub returns : goal.returns
returns c =
    spec.Plans c.requires.awake c.args.found.now c.requires.stands (sym c.has_no_plan.ensures ∙ c.if-not-has_no_plan.false)
    c.in_ok-new_plan_write.ensures
