-- What the events of a user have.
use Rattle.std.specs.Prelude.{◌≡◌, ◌≤◌, ℕ, List, [], length, Option, Some, Result, Ok}
use Rattle.catalog_stream.specs.Stream.{blobs}
use Rattle.fbc_types.specs.Rules.{broken}
use Rattle.fbc_read.specs.Blobs.{nothing}
use Rattle.fbc_read.specs.Bodies.{input_limit}
use Rattle.fbc_read.specs.Catalogs.{Read, reading}
use Rattle.cluster_objects.specs.declared.objects.Object.{Object}
use Rattle.cluster_objects.specs.declared.objects.Status.TheVariants as status
use Rattle.cluster_objects.specs.declared.objects.Write.{Write}
use Rattle.cluster_objects.specs.declared.statuses.CatalogStatus.{CatalogStatus}
use Rattle.cluster_history.specs.History.{History}
use Rattle.event_script.specs.declared.events.Event.{Event}
use Rattle.user_events.specs.declared.refusals.Refusal.{Refusal}
use Rattle.folder_events.specs.Events.{Asks}

-- A text within the limit that is read without a fault, as a catalog that breaks no rule.
pub record IsValid (text : List ℕ) : Type 0 where
  pub within : length text ≤ input_limit
  pub read : Read
  pub is_read : reading nothing 0 (blobs text) ≡ Ok read
  pub breaks_none : broken read.catalog ≡ []

-- Whatever event it is of, an object with a catalog's status has a valid catalog as its body.
abbrev pub WritesValidCatalogs : Type 0
WritesValidCatalogs =
    (held : Option (List (List ℕ × List ℕ))) (h : History) (event : Event) (w : Write) → Asks held h event (Ok w)
    → (object : Object) (found : CatalogStatus) → w.object ≡ Some object → object.status ≡ status.Catalog found → IsValid object.body

-- By a folder that tells what it holds an event asks for one thing alone.
abbrev pub AsksOneThing : Type 0
AsksOneThing =
    (told : List (List ℕ × List ℕ)) (h : History) (event : Event) (asked other : Result Write Refusal)
    → Asks (Some told) h event asked → Asks (Some told) h event other → other ≡ asked
