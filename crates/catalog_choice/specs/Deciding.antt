-- What is printed of a question, and of a text that is to be a certificate of its problem.
use Rattle.std.specs.Prelude.{◌≡◌, ◌↔◌, ℕ, true, List, [], IsTrue, Result, Ok, Err}
use Rattle.derivations.specs.Text.{certificate_text}
use Rattle.problem_build.specs.declared.building.BuildFault.{BuildFault}
use Rattle.preference_search.specs.Decided.{IsDecision}
use Rattle.preference_search.specs.declared.Decision.{Decision}
use Rattle.preference_search.specs.declared.Decision.TheVariants as decisions
use Rattle.answer_lines.specs.Answers.{answer_text, certificate_of, shown}
use Rattle.answer_lines.specs.Verdicts.{IsProof, accepted_line, verdict_text, verified}
use Rattle.answer_lines.specs.declared.Pick.{Pick}
use Rattle.answer_lines.specs.declared.verdicts.Checked.{Checked}
use Rattle.catalog_choice.specs.Asking.{IsAsked}
use Rattle.catalog_choice.specs.Picked.{picked}
use Rattle.catalog_choice.specs.declared.asking.Question.{Question}
use Rattle.catalog_choice.specs.declared.deciding.Answer.{Answer}
use Rattle.catalog_choice.specs.declared.deciding.Decided.{Decided}
use Rattle.catalog_choice.specs.declared.deciding.Decided.TheVariants.{Chosen, Refused, Undecided}

abbrev pub decided_of : Decision → Decided
decided_of (decisions.Chosen numbers set certificate) = Chosen
decided_of (decisions.Refused certificate) = Refused
decided_of (decisions.Undecided certificate) = Undecided

-- What the best walk picks, where there is one.
abbrev pub picked_by : Question → Decision → List Pick
picked_by question (decisions.Chosen numbers set certificate) = picked question.names question.problem numbers
picked_by question (decisions.Refused certificate) = []
picked_by question (decisions.Undecided certificate) = []

-- This is told of a question where it is decided like this within the budget, and the certificate that is printed is accepted.
pub record IsTold (question : Question) (budget : ℕ) (decision : Decision) (answer : Answer) : Type 0 where
  pub text : answer.text.items ≡ answer_text (picked_by question decision) decision
  pub decided : answer.decided ≡ decided_of decision
  pub accepted : verified question.problem (certificate_text (certificate_of decision)) ≡ (accepted_line (verdict_text (shown budget decision)), true)

-- A decision within the budget of a question is told. Where nothing can be asked, that is the fault.
abbrev pub IsAnsweredBy : (Result Question BuildFault → Type 0) → ℕ → Result Answer BuildFault → Type 0
IsAnsweredBy Asks budget (Ok answer) =
    (question : Question) × (decision : Decision) × Asks (Ok question)
    × IsDecision question.problem budget decision × IsTold question budget decision answer
IsAnsweredBy Asks budget (Err fault) = Asks (Err fault)

-- The same of what a catalog of this body is asked by a package and a channel.
abbrev pub IsAnswered : List ℕ → List ℕ → List ℕ → ℕ → Result Answer BuildFault → Type 0
IsAnswered body owner channel budget answer = IsAnsweredBy (IsAsked body owner channel) budget answer

-- The line of a text over a problem, and whether the text shows what is right of it.
pub record IsJudged (question : Question) (certificate : List ℕ) (checked : Checked) : Type 0 where
  pub line : (checked.line.items, checked.accepted) ≡ verified question.problem certificate
  pub accepted : IsTrue checked.accepted ↔ IsProof question.problem certificate

-- The text is judged over the problem of what is asked.
abbrev pub IsVerified : List ℕ → List ℕ → List ℕ → List ℕ → Result Checked BuildFault → Type 0
IsVerified body owner channel certificate (Ok checked) =
    (question : Question) × IsAsked body owner channel (Ok question) × IsJudged question certificate checked
IsVerified body owner channel certificate (Err fault) = IsAsked body owner channel (Err fault)
