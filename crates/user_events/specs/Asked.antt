-- What a user's event asks for after a history: one write, or a refusal.
use Rattle.std.specs.Prelude.{ℕ, ℤ, List, Option, Result, Ok, Err}
use Rattle.json_fields.specs.Faults.{and_then}
use Rattle.cluster_objects.specs.declared.keys.Key.{Key}
use Rattle.cluster_objects.specs.declared.objects.Object.{Object}
use Rattle.cluster_objects.specs.declared.objects.Status.{Status}
use Rattle.cluster_objects.specs.declared.objects.Write.{Write}
use Rattle.cluster_objects.specs.declared.objects.Writer.TheVariants as writer
use Rattle.cluster_objects.specs.declared.statuses.Readiness.{Readiness}
use Rattle.cluster_history.specs.History.{History, position, slot}
use Rattle.cluster_history.specs.declared.slots.Slot.{Slot}
use Rattle.object_bodies.specs.Bodies.{user_object}
use Rattle.object_bodies.specs.declared.faults.ObjectFault.{ObjectFault}
use Rattle.cluster_objects.specs.Places.{catalog_key, claims_key, plan_key, deployment_key, resolution_key}
use Rattle.user_events.specs.Reasons.{body_refusal}
use Rattle.user_events.specs.Wishes.{wished}
use Rattle.user_events.specs.declared.refusals.Refusal.{Refusal}
use Rattle.user_events.specs.declared.wishes.Wish.{Wish}
use Rattle.user_events.specs.declared.wishes.Wish.TheVariants as wishes

-- A user's write expects the version that the key has.
abbrev pub user_write : Slot → Key → Option Object → Write
user_write there key object = record { by = writer.User; expect = there.version; key = key; object = object }

-- of what stands at a key, in a history of this length
abbrev pub asked_of : Slot → ℕ → Key → Wish → Result Write Refusal
asked_of there seen key wish = and_then (wished wish key there.object seen) (λ object. Ok (user_write there key object))

abbrev pub asked_at : History → Key → Wish → Result Write Refusal
asked_at h key wish = asked_of (slot h key) (position h) key wish

-- ---- the events

-- A body that gives no object is refused whatever the history is.
abbrev pub apply_wish : List ℕ → Result (Key × Status) ObjectFault → Result (Key × Wish) Refusal
apply_wish body (Ok found) = Ok (found.0, wishes.Apply body found.1)
apply_wish body (Err fault) = Err (body_refusal fault)

abbrev pub apply : History → List ℕ → Result Write Refusal
apply h body = and_then (apply_wish body (user_object body)) (λ found. asked_at h found.0 found.1)

abbrev pub delete : History → Key → Result Write Refusal
delete h key = asked_at h key wishes.Delete

abbrev pub approve : History → List ℕ → List ℕ → Result Write Refusal
approve h namespace name = asked_at h (plan_key namespace name) wishes.Approve

abbrev pub ready : History → List ℕ → List ℕ → Readiness → Result Write Refusal
ready h namespace name state = asked_at h (deployment_key namespace name) (wishes.Ready state)

abbrev pub retry : History → List ℕ → Option ℕ → Result Write Refusal
retry h namespace budget = asked_at h (resolution_key namespace) (wishes.Retry budget)

-- the claims of all namespaces are one object
abbrev pub release : History → List ℕ → Result Write Refusal
release h namespace = asked_at h claims_key (wishes.Release namespace)

-- Of a body that is given, valid or not. It is never refused.
abbrev pub catalog : History → List ℕ → List ℕ → List ℕ → ℤ → Result Write Refusal
catalog h namespace name body priority = asked_at h (catalog_key namespace name) (wishes.Catalog body priority)
