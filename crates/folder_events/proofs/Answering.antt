-- What comes of an event, by what is asked for.
use Rattle.std.proofs.Common.{◌≡◌, inl, inr, Bool, true, false, ℕ, List, Option, Result, Ok, Err, refl, sym, ap, ◌∙◌}
use Rattle.std.specs.Prelude.{ℤ}
use Rattle.olm_base.specs.Outcome.{Ends}
use Rattle.olm_io.specs.declared.traits.FolderFault.TheVariants as folder
use Rattle.cluster_objects.specs.declared.objects.Write.{Write}
use Rattle.cluster_history.specs.History.{History}
use Rattle.fbc_read.specs.Bodies as body
use Rattle.fbc_read.specs.Bodies.{IsBody, input_limit}
use Rattle.fbc_read.specs.declared.bodies.BodyFault.{BodyFault}
use Rattle.fbc_read.specs.declared.bodies.BodyFault.TheVariants.{Folder, Yaml, Split, Memory}
use Rattle.user_events.specs.Answers.{Answers}
use Rattle.user_events.specs.Reasons.{refused}
use Rattle.user_events.specs.declared.answers.UserAnswer.{UserAnswer}
use Rattle.user_events.specs.declared.answers.UserAnswer.TheVariants as answer
use Rattle.user_events.specs.declared.refusals.Refusal.{Refusal}
use Rattle.user_events.specs.declared.refusals.Refusal.TheVariants.{Reason}
use Rattle.folder_events.specs.Answers.{is_free, fault_answer}
use Rattle.folder_events.specs.Catalogs.{AsksCatalog, body_words, catalog_after}

-- What is asked for in one way is asked for in another.
pub answers_as : (fits : History → Write → Bool) (limit : ℕ) (h new : History) (A B : Result Write Refusal → Type 0) → ((asked : Result Write Refusal) → A asked → B asked)
    → (given : UserAnswer) → Answers fits limit h A new given → Answers fits limit h B new given
answers_as fits limit h new A B turn (answer.Done key version) (w, (asked, room, is), key_is, version_is) = (w, (turn (Ok w) asked, room, is), key_is, version_is)
answers_as fits limit h new A B turn (answer.Refused reason) (asked, is) = (turn (Err (Reason reason)) asked, is)
answers_as fits limit h new A B turn answer.Full (w, asked, room, is) = (w, turn (Ok w) asked, room, is)
answers_as fits limit h new A B turn answer.StoreFailed (inl is) = inl is
answers_as fits limit h new A B turn answer.StoreFailed (inr (w, made)) = inr (w, (turn (Ok w) made.0, made.1, made.2))
answers_as fits limit h new A B turn answer.FolderFailed is = is
answers_as fits limit h new A B turn answer.Memory is = is

-- ---- a folder that gives no text

abbrev is_told : UserAnswer → Bool
is_told (answer.Done key version) = false
is_told answer.Full = false
is_told answer.StoreFailed = false
is_told _ = true

told : (fault : BodyFault) → is_told (fault_answer fault) ≡ true
told (Folder folder.Failed) = refl
told (Folder (folder.TooLong limit)) = refl
told (Folder folder.Memory) = refl
told (Yaml path) = refl
told (Split path fault) = refl
told Memory = refl

untold : (fault : BodyFault) (given : UserAnswer) → is_told given ≡ false → fault_answer fault ≡ given → ⊥
untold fault given is e = let bad : true ≡ false = sym (told fault) ∙ ap is_told e ∙ is in absurd cc

reason_is : (words reason : List ℕ) → answer.Refused words ≡ answer.Refused reason → words ≡ reason
reason_is words reason e = cc

refused_words : (fault : BodyFault) (reason : List ℕ) → fault_answer fault ≡ answer.Refused reason → (body.is_free fault ≡ false) × (body_words fault ≡ reason)
refused_words (Folder folder.Failed) reason e = absurd cc
refused_words (Folder (folder.TooLong limit)) reason e = (refl, reason_is _ _ e)
refused_words (Folder folder.Memory) reason e = absurd cc
refused_words (Yaml path) reason e = (refl, reason_is _ _ e)
refused_words (Split path fault) reason e = (refl, reason_is _ _ e)
refused_words Memory reason e = absurd cc

pub fault_answers : (fits : History → Write → Bool) (limit : ℕ) (h : History) (held : Option (List (List ℕ × List ℕ))) (namespace name path : List ℕ) (priority : Option ℤ)
    (fault : BodyFault) (given : UserAnswer) → (body.is_free fault ≡ false → IsBody held path input_limit (Err fault)) → Ends is_free (fault_answer fault) given
    → Answers fits limit h (AsksCatalog held h namespace name path priority) h given
fault_answers fits limit h held namespace name path priority fault (answer.Done key version) holds ends = absurd (untold fault _ refl (ends refl))
fault_answers fits limit h held namespace name path priority fault (answer.Refused reason) holds ends =
    let found = refused_words fault reason (ends refl) in
    let words : catalog_after h namespace name priority (Err fault) ≡ Err (Reason reason) = ap (λ (words : List ℕ). refused {T = Write} words) found.1 in
    ((Err fault, holds found.0, words), refl)
fault_answers fits limit h held namespace name path priority fault answer.Full holds ends = absurd (untold fault _ refl (ends refl))
fault_answers fits limit h held namespace name path priority fault answer.StoreFailed holds ends = inl refl
fault_answers fits limit h held namespace name path priority fault answer.FolderFailed holds ends = refl
fault_answers fits limit h held namespace name path priority fault answer.Memory holds ends = refl

-- ---- a folder that gives a text

pub text_answers : (fits : History → Write → Bool) (limit : ℕ) (h new : History) (held : Option (List (List ℕ × List ℕ))) (namespace name path : List ℕ) (priority : Option ℤ)
    (text : List ℕ) (given : UserAnswer) → IsBody held path input_limit (Ok text) → Answers fits limit h (λ asked. catalog_after h namespace name priority (Ok text) ≡ asked) new given
    → Answers fits limit h (AsksCatalog held h namespace name path priority) new given
text_answers fits limit h new held namespace name path priority text given holds answered =
    answers_as fits limit h new _ (AsksCatalog held h namespace name path priority) (λ asked is. (Ok text, holds, is)) given answered
