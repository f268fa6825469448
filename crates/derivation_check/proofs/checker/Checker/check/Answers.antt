use Rattle.std.proofs.Common.{ap, ◌∙◌}
use Rattle.derivation_check.specs.Checking.{Checking}
use Rattle.derivation_check.specs.Faults.{unless, first_fault, verdict_of}
use Rattle.derivation_check.proofs.AnswerLemmas.{accepted_iff, right_if}
use Rattle.derivation_check.proofs.checker.Checker.check.Goals as goal

pub returns-clause-accepted : goal.returns-clause-accepted
returns-clause-accepted c =
    let verdict = verdict_of c.args.certificate.now c.args.certificate.now.finding in
    accepted_iff c.args.self.now.problem c.args.certificate.now verdict c.certificate_answer.result
    (c.certificate_answer.ensures.answer ∙ ap (λ (v : Checking). unless (first_fault v.problem c.args.certificate.now) verdict) c.self.view_is)

pub returns-clause-right : goal.returns-clause-right
returns-clause-right c =
    let verdict = verdict_of c.args.certificate.now c.args.certificate.now.finding in
    right_if c.args.self.now.problem c.args.certificate.now verdict c.certificate_answer.result
    (c.certificate_answer.ensures.answer ∙ ap (λ (v : Checking). unless (first_fault v.problem c.args.certificate.now) verdict) c.self.view_is)
