-- There is one question.
use Rattle.std.proofs.Common.{◌≡◌, ℕ, List, sym, ◌∙◌, Option, Some, None, Ok}
use Rattle.view_basis.specs.Basis.{basis}
use Rattle.view_basis.specs.Visible.{visible_catalogs}
use Rattle.problem_build.specs.Laws.{ThereIsOne}
use Rattle.one_subscription.specs.Asked.{asked_view}
use Rattle.catalog_choice.specs.Asking.{IsAskedBy, IsUnmet, name_of}
use Rattle.catalog_choice.specs.Laws.{ThereIsOneQuestion, ViewsAskOnce}
use Rattle.catalog_choice.specs.declared.asking.Question.{Question}

of_unmet : (question other : Question) → IsUnmet (Ok question) → IsUnmet (Ok other) → (question.problem ≡ other.problem) × (question.names ≡ other.names)
of_unmet question other h k = (h.0 ∙ sym k.0, h.1 ∙ sym k.1)

pub views_ask_once : ThereIsOne → ViewsAskOnce
views_ask_once law view question other (built, (reached, are, answer), problem_same, names_same) (built', (reached', are', answer'), problem_same', names_same') =
    let both = law (basis view) (visible_catalogs view) built.problem built'.problem built.names built'.names
    (record { reached = reached; are_reached = are; is_problem = answer.0; are_names = answer.1 })
    (record { reached = reached'; are_reached = are'; is_problem = answer'.0; are_names = answer'.1 }) in
    (problem_same ∙ (both.0 ∙ sym problem_same'), names_same ∙ (both.1 ∙ sym names_same'))

by : ThereIsOne → (body : List ℕ) (owner channel : Option (List ℕ)) (question other : Question)
    → IsAskedBy body owner channel (Ok question) → IsAskedBy body owner channel (Ok other)
    → (question.problem ≡ other.problem) × (question.names ≡ other.names)
by law body (Some owner) (Some channel) question other h k = views_ask_once law (asked_view body owner channel) question other h k
by law body (Some owner) None question other h k = of_unmet question other h k
by law body None channel question other h k = of_unmet question other h k

pub there_is_one_question : ThereIsOne → ThereIsOneQuestion
there_is_one_question law body owner channel question other h k = by law body (name_of owner) (name_of channel) question other h k
