use Rattle.std.proofs.Common.{◌≡◌, ◌∙◌, sym, ap, subst, Ok}
use Rattle.derivations.specs.declared.Certificate.{Certificate}
use Rattle.derivations.specs.Reading.{certificate_of as read_of}
use Rattle.derivations.specs.Text.{certificate_text}
use Rattle.answer_lines.specs.Answers as spec
use Rattle.answer_lines.proofs.Again.{told-again}
use Rattle.answer_lines.proofs.answers.answer_text.Goals as goal

pub returns-clause-again : goal.returns-clause-again
returns-clause-again c =
    let own : c.certificate_of.result.now ≡ spec.certificate_of c.args.decision.now = c.certificate_of.ensures in
    let read : read_of (certificate_text c.certificate_of.result.now) ≡ Ok c.certificate_of.result.now =
    ap read_of (sym c.in_ok-certificate.ensures.text) ∙ c.in_ok-certificate.ensures.read in
    let P : Certificate → Type 0 = λ k. read_of (certificate_text k) ≡ Ok k in
    λ problem budget is. told-again problem budget c.args.decision.now (certificate_text (spec.certificate_of c.args.decision.now)) c.no_fault_is_accepted.ensures (subst P own read) is
