-- What is printed for a catalog is accepted for it.
use Rattle.std.proofs.Common.{◌≡◌, ℕ, Bool, true, List, ◌++◌, refl, sym, ap, ◌∙◌, subst}
use Rattle.std.specs.Prelude.{IsTrue}
use Rattle.op_constraints.specs.declared.Constraint.{Constraint}
use Rattle.derivations.specs.Text.{certificate_text}
use Rattle.answer_lines.specs.Answers.{certificate_of, lines_if_chosen, word_line}
use Rattle.answer_lines.specs.Verdicts.{verified}
use Rattle.catalog_choice.specs.Deciding.{picked_by}
use Rattle.catalog_choice.specs.Laws.{AnswersAreAccepted, ThereIsOneQuestion}

pub answers_are_accepted : ThereIsOneQuestion → AnswersAreAccepted
answers_are_accepted one body owner channel budget answer (question, decision, asked, decided, told) =
    let certificate = certificate_text (certificate_of decision) in (
      word_line decision ++ lines_if_chosen (picked_by question decision) decision,
      certificate,
      told.text,
      λ checked (other, asked', judged).
          let same = one body owner channel question other asked asked' in
          let e : checked.accepted ≡ true = ap (λ (p : List ℕ × Bool). p.1) (judged.line
          ∙ (ap (λ (p : List (List Constraint)). verified p certificate) (sym same.0) ∙ told.accepted)) in
          subst IsTrue (sym e) refl,
    )
