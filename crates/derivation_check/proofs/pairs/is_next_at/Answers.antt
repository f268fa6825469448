use Rattle.std.proofs.Common.{◌∙◌}
use Rattle.derivation_check.proofs.PairLemmas.{next_is}
use Rattle.derivation_check.proofs.pairs.is_next_at.Goals as goal

pub returns-then-at-steps-clause-next : goal.returns-then-at-steps-clause-next
returns-then-at-steps-clause-next c =
    c.is_step.ensures ∙ next_is c.args.steps.now c.args.at c.index-steps-at.result (c.args.choice, c.args.candidate) c.if-at-steps.true c.index-steps-at.is
