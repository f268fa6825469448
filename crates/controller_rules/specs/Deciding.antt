-- What a resolution of a view comes to.
use Rattle.std.specs.Prelude.{◌≡◌, ℕ, Bool, List, [], Option, Some, None, Ok, Err}
use Rattle.std.specs.List.{filter_map}
use Rattle.derivations.specs.Text.{certificate_text}
use Rattle.derivations.specs.declared.Certificate.{Certificate}
use Rattle.preference_search.specs.Decided.{IsDecision}
use Rattle.preference_search.specs.declared.Decision.TheVariants as decisions
use Rattle.answer_lines.specs.declared.Pick.{Pick}
use Rattle.answer_lines.specs.declared.Pick.TheVariants.{Take, Keep}
use Rattle.cluster_objects.specs.declared.resolutions.Outcome.{Outcome}
use Rattle.cluster_objects.specs.declared.resolutions.Outcome.TheVariants as outcome
use Rattle.cluster_objects.specs.declared.resolutions.Taken.{Taken}
use Rattle.cluster_history.specs.Views.{View}
use Rattle.problem_build.specs.declared.building.BuildFault.TheVariants.{TooManyVariables}
use Rattle.catalog_choice.specs.Asking.{IsOfView}
use Rattle.catalog_choice.specs.Picked.{picked}
use Rattle.catalog_choice.specs.declared.asking.Question.{Question}

-- An entry that is picked is taken, and what is installed is kept.
abbrev pub taken_pick : Pick → Option Taken
taken_pick (Take taken) = Some taken
taken_pick (Keep name) = None

-- What a walk takes: the entries among its picks, in its order.
abbrev pub takes : Question → List ℕ → List Taken
takes question walk = filter_map taken_pick (picked question.names question.problem walk)

-- The outcome and the certificate's text are a decision of the view's problem within the budget. A problem that is too large has
-- no certificate.
abbrev pub IsResolutionOf : View → ℕ → Outcome → List ℕ → Type 0
IsResolutionOf view budget outcome.Nothing text = ⊥
IsResolutionOf view budget (outcome.Chosen walk taken) text =
    (question : Question) × (set : List Bool) × (certificate : Certificate) × IsOfView view (Ok question)
    × IsDecision question.problem budget (decisions.Chosen walk set certificate) × (taken ≡ takes question walk)
    × (text ≡ certificate_text certificate)
IsResolutionOf view budget outcome.Refused text =
    (question : Question) × (certificate : Certificate) × IsOfView view (Ok question)
    × IsDecision question.problem budget (decisions.Refused certificate) × (text ≡ certificate_text certificate)
IsResolutionOf view budget (outcome.Undecided lemmas) text =
    (question : Question) × (certificate : Certificate) × IsOfView view (Ok question)
    × IsDecision question.problem budget (decisions.Undecided certificate) × (lemmas ≡ budget)
    × (text ≡ certificate_text certificate)
IsResolutionOf view budget (outcome.TooLarge count) text = IsOfView view (Err (TooManyVariables count)) × (text ≡ [])
