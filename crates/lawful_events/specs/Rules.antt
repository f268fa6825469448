-- The rules that each write of a user keeps, whatever the event.
use Rattle.std.specs.Prelude.{◌≡◌, ◌⊎◌, true, false, [], Some, None}
use Rattle.cluster_objects.specs.Kinds.{is_catalog_key, is_claims_key, is_lease_key, is_plan_key, is_resolution_key}
use Rattle.cluster_objects.specs.Stamps.{stamps_of}
use Rattle.cluster_objects.specs.declared.objects.Object.{Object}
use Rattle.cluster_objects.specs.declared.objects.Write.{Write}
use Rattle.cluster_objects.specs.declared.objects.Writer.TheVariants as writer
use Rattle.cluster_history.specs.History.{History, position, slot}
use Rattle.event_script.specs.Running.{word_for}
use Rattle.event_script.specs.declared.events.Event.{Event}
use Rattle.event_script.specs.declared.events.Word.{Word}
use Rattle.event_script.specs.declared.events.Word.TheVariants as word
use Rattle.folder_events.specs.Laws.{IsValid}

-- the event that a script names by this word
abbrev pub IsBy : Word → Event → Type 0
IsBy named cause = word_for cause ≡ Some named

-- the write puts an object
abbrev pub Puts : Write → Type 0
Puts w = (object : Object) × (w.object ≡ Some object)

-- the write puts a valid catalog
abbrev pub PutsCatalog : Write → Type 0
PutsCatalog w = (object : Object) × (w.object ≡ Some object) × IsValid object.body

-- What holds of a write that this event asks for after this history.
pub record KeepsRules (h : History) (cause : Event) (w : Write) : Type 0 where
  pub by : w.by ≡ writer.User
  pub expect : w.expect ≡ (slot h w.key).version
  pub stamp : stamps_of w.object ≡ []
  pub seen : (object : Object) → w.object ≡ Some object → object.seen ≡ position h
  -- `delete` alone removes
  pub removal : w.object ≡ None → IsBy word.Delete cause
  -- a Resolution is never removed, and `retry` alone writes one
  pub resolution : is_resolution_key w.key ≡ true → IsBy word.Retry cause × Puts w
  -- an InstallPlan may be removed, and `approve` alone writes one
  pub plan : is_plan_key w.key ≡ true → (w.object ≡ None) ⊎ (IsBy word.Approve cause × Puts w)
  -- a CatalogSource may be removed, and `catalog` alone writes one, with a valid catalog as its body
  pub catalog : is_catalog_key w.key ≡ true → (w.object ≡ None) ⊎ (IsBy word.Catalog cause × PutsCatalog w)
  -- the claims are never removed, and `release` alone writes them
  pub claims : is_claims_key w.key ≡ true → IsBy word.Release cause × Puts w
  -- no event of a user writes a Lease
  pub lease : is_lease_key w.key ≡ false
