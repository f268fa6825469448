-- What is so of everything that is asked.
use Rattle.std.specs.Prelude.{◌≡◌, ℕ, List, ◌++◌, length, IsTrue, Ok}
use Rattle.cluster_history.specs.Views.{View}
use Rattle.op_constraints.specs.Walks.{picks}
use Rattle.answer_lines.specs.declared.verdicts.Checked.{Checked}
use Rattle.catalog_choice.specs.Asking.{IsAsked, IsOfView}
use Rattle.catalog_choice.specs.Deciding.{IsAnswered, IsVerified}
use Rattle.catalog_choice.specs.Picked.{picked}
use Rattle.catalog_choice.specs.declared.asking.Question.{Question}
use Rattle.catalog_choice.specs.declared.deciding.Answer.{Answer}

-- A catalog, a package and a channel ask one question.
abbrev pub ThereIsOneQuestion : Type 0
ThereIsOneQuestion =
    (body owner channel : List ℕ) (question other : Question)
    → IsAsked body owner channel (Ok question) → IsAsked body owner channel (Ok other)
    → (question.problem ≡ other.problem) × (question.names ≡ other.names)

-- A view asks one question.
abbrev pub ViewsAskOnce : Type 0
ViewsAskOnce =
    (view : View) (question other : Question) → IsOfView view (Ok question) → IsOfView view (Ok other)
    → (question.problem ≡ other.problem) × (question.names ≡ other.names)

-- Each variable that a walk picks is printed: there is one line for each.
abbrev pub PicksArePrinted : Type 0
PicksArePrinted =
    (body owner channel : List ℕ) (question : Question) (numbers : List ℕ) → IsAsked body owner channel (Ok question)
    → length (picked question.names question.problem numbers) ≡ length (picks question.problem numbers)

-- The same of what a view asks.
abbrev pub PicksOfViewsArePrinted : Type 0
PicksOfViewsArePrinted =
    (view : View) (question : Question) (numbers : List ℕ) → IsOfView view (Ok question)
    → length (picked question.names question.problem numbers) ≡ length (picks question.problem numbers)

-- What is printed ends with a certificate. Where that is verified for the same catalog, package and channel, it is accepted.
abbrev pub AnswersAreAccepted : Type 0
AnswersAreAccepted =
    (body owner channel : List ℕ) (budget : ℕ) (answer : Answer) → IsAnswered body owner channel budget (Ok answer)
    → (front certificate : List ℕ) × (answer.text.items ≡ front ++ certificate)
    × ((checked : Checked) → IsVerified body owner channel certificate (Ok checked) → IsTrue checked.accepted)
