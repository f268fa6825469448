use Rattle.std.proofs.Common.{[], ap, ◌∙◌}
use Rattle.derivations.specs.Follows.{log_fault}
use Rattle.derivation_check.specs.Checking.{Checking}
use Rattle.derivation_check.specs.Faults.{unless}
use Rattle.derivation_check.proofs.AnswerLemmas.{log_held}
use Rattle.derivation_check.proofs.checker.Checker.check_log.Goals as goal

pub returns-clause-holds : goal.returns-clause-holds
returns-clause-holds c =
    log_held c.args.self.now.problem c.args.log.now.lemmas c.log_answer.result
    (c.log_answer.ensures.answer
    ∙ (ap (λ (v : Checking). unless {T = Unit {0}} (log_fault v.problem [] c.as_slice.result.now) tt) c.self.view_is
    ∙ ap (λ lemmas. unless {T = Unit {0}} (log_fault c.args.self.now.problem [] lemmas) tt) c.as_slice.ensures))
