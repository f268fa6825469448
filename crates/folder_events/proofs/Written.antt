-- Each catalog that an event writes is valid.
use Rattle.std.proofs.Common.{◌≡◌, ◌≤◌, ℕ, List, [], ◌∷◌, Option, Some, None, Result, Ok, Err, length, refl, sym, ap, subst, ◌∙◌}
use Rattle.std.specs.Prelude.{ℤ, pos}
use Rattle.std.specs.Option.{unwrap_or}
use Rattle.catalog_stream.specs.Stream.{blobs}
use Rattle.cluster_objects.specs.Kinds.{as_catalog}
use Rattle.cluster_objects.specs.declared.keys.Key.{Key}
use Rattle.cluster_objects.specs.declared.objects.Object.{Object}
use Rattle.cluster_objects.specs.declared.objects.Status.{Status}
use Rattle.cluster_objects.specs.declared.objects.Status.TheVariants as status
use Rattle.cluster_objects.specs.declared.objects.Write.{Write}
use Rattle.cluster_objects.specs.declared.statuses.CatalogStatus.{CatalogStatus}
use Rattle.cluster_history.specs.History.{History, position}
use Rattle.event_script.specs.declared.events.Event.TheVariants as event
use Rattle.fbc_types.specs.Rules.{broken}
use Rattle.fbc_types.specs.declared.catalog.Catalog.{Catalog}
use Rattle.fbc_types.specs.declared.fault.CheckFault.{CheckFault}
use Rattle.fbc_read.specs.Blobs.{nothing}
use Rattle.fbc_read.specs.Bodies.{IsBody, input_limit}
use Rattle.fbc_read.specs.Catalogs.{Read, reading}
use Rattle.fbc_read.specs.declared.bodies.BodyFault.{BodyFault}
use Rattle.fbc_read.specs.declared.reading.ReadFault.{ReadFault}
use Rattle.object_bodies.proofs.Reading.{read_then, same_ok}
use Rattle.user_events.specs.Asked as user
use Rattle.cluster_objects.specs.Places.{deployment_key, plan_key, resolution_key}
use Rattle.user_events.specs.Wishes.{new_catalog}
use Rattle.folder_events.specs.Catalogs.{catalog_after, catalog_of, or_refusal, unless_broken, valid_text}
use Rattle.folder_events.specs.Laws.{IsValid, WritesValidCatalogs}
use Rattle.folder_events.proofs.Lengths.{body_within}
use Rattle.folder_events.proofs.Others.{by_apply, by_delete, by_approve, by_ready, by_release, by_retry}

read_as : (found : Result Read ReadFault) (catalog : Catalog) → or_refusal found ≡ Ok catalog → (read : Read) × (found ≡ Ok read) × (read.catalog ≡ catalog)
read_as (Ok read) catalog e = (read, refl, same_ok _ _ e)
read_as (Err fault) catalog e = absurd cc

unbroken : (text body : List ℕ) (faults : List CheckFault) → unless_broken text faults ≡ Ok body → (faults ≡ []) × (text ≡ body)
unbroken text body [] e = (refl, same_ok _ _ e)
unbroken text body (fault ∷ faults) e = absurd cc

valid_is : (text body : List ℕ) → length text ≤ input_limit → valid_text text ≡ Ok body → IsValid body
valid_is text body within e =
    let catalog = read_then (catalog_of text) (λ catalog. unless_broken text (broken catalog)) body e in
    let read = read_as (reading nothing 0 (blobs text)) catalog.0 catalog.1 in
    let rules = unbroken text body (broken catalog.0) catalog.2 in
    subst IsValid rules.1 (record { within = within; read = read.0; is_read = read.1; breaks_none = ap broken read.2 ∙ rules.0 })

some_is : (one other : Object) → ◌≡◌ {A = Option Object} (Some one) (Some other) → one ≡ other
some_is one other e = cc

catalog_by : (held : Option (List (List ℕ × List ℕ))) (h : History) (namespace name path : List ℕ) (priority : Option ℤ) (w : Write) (object : Object) → w.object ≡ Some object
    → (found : Result (List ℕ) BodyFault) → IsBody held path input_limit found → catalog_after h namespace name priority found ≡ Ok w → IsValid object.body
catalog_by held h namespace name path priority w object is (Ok text) holds e =
    let p = unwrap_or priority (pos 0) in
    let t = read_then (valid_text text) (λ text. user.catalog h namespace name text p) w e in
    let made : ◌≡◌ {A = Option Object} (Some (new_catalog t.0 p (position h))) (Some object) = ap (λ (w : Write). w.object) (same_ok _ _ t.2) ∙ is in
    subst IsValid (ap (λ (o : Object). o.body) (some_is _ _ made)) (valid_is text t.0 (body_within held path input_limit text holds) t.1)
catalog_by held h namespace name path priority w object is (Err fault) holds e = absurd cc

abbrev of_status : Status → Option CatalogStatus
of_status s = elim s [ status.Catalog x ↦ Some x | _ ↦ None ]

apart : (w : Write) (object : Object) (found : CatalogStatus) → as_catalog w.object ≡ None → w.object ≡ Some object → object.status ≡ status.Catalog found → ⊥
apart w object found none is kind = let bad : None ≡ Some found = sym none ∙ ap as_catalog is ∙ ap of_status kind in absurd cc

pub writes_valid : WritesValidCatalogs
writes_valid held h (event.Apply body) w asked object found is kind = absurd (apart w object found (by_apply h body w asked) is kind)
writes_valid held h (event.Delete group kind namespace name) w asked object found is kind_is =
    let key : Key = record { group = group; kind = kind; namespace = namespace; name = name } in
    absurd (apart w object found (by_delete h key w asked) is kind_is)
writes_valid held h (event.Approve namespace name) w asked object found is kind =
    absurd (apart w object found (by_approve h (plan_key namespace name) w asked) is kind)
writes_valid held h (event.Catalog namespace name path priority) w (body, holds, e) object found is kind =
    catalog_by held h namespace name path priority w object is body holds e
writes_valid held h (event.Ready namespace name state) w asked object found is kind =
    absurd (apart w object found (by_ready h (deployment_key namespace name) state w asked) is kind)
writes_valid held h (event.Retry namespace budget) w asked object found is kind =
    absurd (apart w object found (by_retry h (resolution_key namespace) budget w asked) is kind)
writes_valid held h (event.Worker role namespace) w asked object found is kind = absurd asked
writes_valid held h (event.Look worker) w asked object found is kind = absurd asked
writes_valid held h (event.Act worker) w asked object found is kind = absurd asked
writes_valid held h (event.Settle namespace turns) w asked object found is kind = absurd asked
writes_valid held h event.Restart w asked object found is kind = absurd asked
writes_valid held h (event.Release namespace) w asked object found is kind =
    absurd (apart w object found (by_release h namespace w asked) is kind)
writes_valid held h (event.Lease worker now keep) w asked object found is kind = absurd asked
