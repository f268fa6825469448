-- What comes of a user's event, by its answer.
use Rattle.std.specs.Prelude.{◌≡◌, ◌⊎◌, Bool, true, false, ℕ, Result, Ok, Err}
use Rattle.cluster_history.specs.History.{History, After, position}
use Rattle.cluster_objects.specs.declared.objects.Write.{Write}
use Rattle.olm_io.specs.declared.traits.Outage.{Outage}
use Rattle.olm_io.specs.declared.traits.Outage.TheVariants as outage
use Rattle.object_store.specs.Puts.{has_room}
use Rattle.user_events.specs.declared.answers.UserAnswer.{UserAnswer}
use Rattle.user_events.specs.declared.answers.UserAnswer.TheVariants as answer
use Rattle.user_events.specs.declared.refusals.Refusal.{Refusal}
use Rattle.user_events.specs.declared.refusals.Refusal.TheVariants.{Reason}

-- The store has room for the write, or it has not.
abbrev pub HasRoom : (History → Write → Bool) → ℕ → History → Write → Bool → Type 0
HasRoom fits limit h w room = has_room (fits h w) limit h ≡ room

-- A write that the event asks for was made.
abbrev pub IsMade : (History → Write → Bool) → ℕ → History → (Result Write Refusal → Type 0) → History → Write → Type 0
IsMade fits limit h Asks new w = Asks (Ok w) × HasRoom fits limit h w true × (new ≡ After w h)

-- What fits a store and its limit, the history before, what the event asks for, and the history afterwards. A call of the store that failed leaves the old history, or that with a write that the event asks for.
abbrev pub Answers : (History → Write → Bool) → ℕ → History → (Result Write Refusal → Type 0) → History → UserAnswer → Type 0
Answers fits limit h Asks new (answer.Done key version) =
    (w : Write) × IsMade fits limit h Asks new w × (key ≡ w.key) × (version ≡ position new)
Answers fits limit h Asks new (answer.Refused reason) = Asks (Err (Reason reason)) × (new ≡ h)
Answers fits limit h Asks new answer.Full = (w : Write) × Asks (Ok w) × HasRoom fits limit h w false × (new ≡ h)
Answers fits limit h Asks new answer.StoreFailed = (new ≡ h) ⊎ ((w : Write) × IsMade fits limit h Asks new w)
Answers fits limit h Asks new answer.FolderFailed = new ≡ h
Answers fits limit h Asks new answer.Memory = new ≡ h

-- a call of the store failed
abbrev pub store_failed : UserAnswer → Bool
store_failed answer.StoreFailed = true
store_failed _ = false

-- a call of the folder failed
abbrev pub folder_failed : UserAnswer → Bool
folder_failed answer.FolderFailed = true
folder_failed _ = false

-- a look at the store failed
abbrev pub outage_failed : {T : Type 0} → Result T Outage → Bool
outage_failed (Ok x) = false
outage_failed (Err outage.Failed) = true
outage_failed (Err outage.Memory) = false
