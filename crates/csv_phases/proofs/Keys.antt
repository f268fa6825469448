-- Of which kind the keys are of what the role phases writes.
use Rattle.std.proofs.Common.{◌≡◌, true, false, codes, ◌&&◌, List, ℕ, Some, refl, sym, ap, ◌∙◌}
use Rattle.std.proofs.lemmas.Bool.{and_parts}
use Rattle.cluster_objects.specs.Keys.{same_text}
use Rattle.cluster_objects.specs.Kinds.{as_csv, as_subscription, csv_at, has_kind, is_catalog_key, is_claims_key, is_csv_key, is_deployment_key, is_plan_key, is_resolution_key, is_subscription_key, local, operators, subscription_at}
use Rattle.cluster_objects.specs.declared.keys.Key.{Key}
use Rattle.cluster_objects.proofs.Stamping.{same_text-true}
use Rattle.cluster_history.specs.History.{IsInOrder, slot_in}
use Rattle.cluster_history.specs.Views.{View}
use Rattle.cluster_history.specs.declared.slots.Slot.{Slot}
use Rattle.cluster_history.proofs.Sums.{at_place}
use Rattle.operator_groups.proofs.Members.{In, in_get}
use Rattle.view_basis.specs.Tips.{csv_in}
use Rattle.csv_phases.specs.Csvs.{Csv, csv_entry, csv_of, csvs}
use Rattle.csv_phases.specs.Edges.{csv_there}
use Rattle.csv_phases.specs.States.{Subscription, subscription_entry, subscription_of, subscriptions}
use Rattle.csv_phases.proofs.Members.{in_picked, inside, then_inside, through}

-- a key of one kind is of no other
other_kind : (g k g' k' : List ℕ) (key : Key) → has_kind g k key ≡ true → (same_text g g' && same_text k k') ≡ false
    → has_kind g' k' key ≡ false
other_kind g k g' k' key h apart =
    let (group, kind) = and_parts (same_text key.group g) (same_text key.kind k) h in
    ap (λ x. same_text x g' && same_text key.kind k') (same_text-true key.group g group)
    ∙ ap (λ x. same_text g g' && same_text x k') (same_text-true key.kind k kind) ∙ apart

-- a key of no InstallPlan, Resolution or CatalogSource
pub record IsSpared (key : Key) : Type 0 where
  pub plan : is_plan_key key ≡ false
  pub resolution : is_resolution_key key ≡ false
  pub catalog : is_catalog_key key ≡ false

spared : (g k : List ℕ) (key : Key) → has_kind g k key ≡ true
    → (same_text g operators && same_text k (codes "InstallPlan")) ≡ false
    → (same_text g local && same_text k (codes "Resolution")) ≡ false
    → (same_text g operators && same_text k (codes "CatalogSource")) ≡ false → IsSpared key
spared g k key h p r c =
    record {
      plan = other_kind g k operators (codes "InstallPlan") key h p;
      resolution = other_kind g k local (codes "Resolution") key h r;
      catalog = other_kind g k operators (codes "CatalogSource") key h c;
    }

pub csv_spared : (key : Key) → is_csv_key key ≡ true → IsSpared key
csv_spared key h = spared operators (codes "ClusterServiceVersion") key h refl refl refl

pub subscription_spared : (key : Key) → is_subscription_key key ≡ true → IsSpared key
subscription_spared key h = spared operators (codes "Subscription") key h refl refl refl

pub deployment_spared : (key : Key) → is_deployment_key key ≡ true → IsSpared key
deployment_spared key h = spared (codes "apps") (codes "Deployment") key h refl refl refl

pub csv_no_subscription : (key : Key) → is_csv_key key ≡ true → is_subscription_key key ≡ false
csv_no_subscription key h =
    other_kind operators (codes "ClusterServiceVersion") operators (codes "Subscription") key h refl

pub csv_no_claims : (key : Key) → is_csv_key key ≡ true → is_claims_key key ≡ false
csv_no_claims key h = other_kind operators (codes "ClusterServiceVersion") local (codes "Claims") key h refl

pub subscription_no_csv : (key : Key) → is_subscription_key key ≡ true → is_csv_key key ≡ false
subscription_no_csv key h =
    other_kind operators (codes "Subscription") operators (codes "ClusterServiceVersion") key h refl

pub subscription_no_claims : (key : Key) → is_subscription_key key ≡ true → is_claims_key key ≡ false
subscription_no_claims key h = other_kind operators (codes "Subscription") local (codes "Claims") key h refl

pub deployment_no_csv : (key : Key) → is_deployment_key key ≡ true → is_csv_key key ≡ false
deployment_no_csv key h =
    other_kind (codes "apps") (codes "Deployment") operators (codes "ClusterServiceVersion") key h refl

-- ---- what stands in a slot of the view stands at its key

pub csv_place : (view : View) (e : Key × Slot) (csv : Csv) → csv_entry view e ≡ Some csv → (csv.key ≡ e.0) × (is_csv_key e.0 ≡ true)
csv_place view e csv h =
    let (status, is, made) = then_inside (csv_of e) (csv_in view.namespace e) csv h in
    let (own, at) = through (same_text e.0.namespace view.namespace) (csv_at e.0 e.1.object) status is in
    let (kind, there) = through (is_csv_key e.0) (as_csv e.1.object) status at in
    let (object, stands, same) =
    inside (λ object. let c : Csv = record { key = e.0; version = e.1.version; object = object; status = status } in c) e.1.object csv made in
    (ap (λ (c : Csv). c.key) (sym same), kind)

pub csv_keyed : (view : View) (csv : Csv) → In (csvs view) csv → is_csv_key csv.key ≡ true
csv_keyed view csv among =
    let (e, place, is) = in_picked (csv_entry view) view.slots csv among in
    let (key, kind) = csv_place view e csv is in
    ap is_csv_key key ∙ kind

pub csv_stands : (view : View) (csv : Csv) → IsInOrder view.slots → In (csvs view) csv → csv_there view csv.key ≡ Some csv
csv_stands view csv up among =
    let (e, place, is) = in_picked (csv_entry view) view.slots csv among in
    let (i, at) = in_get view.slots e place in
    let key = (csv_place view e csv is).0 in
    ap (csv_there view) key ∙ ap (λ (there : Slot). csv_entry view (e.0, there)) (at_place view.slots up i e at) ∙ is

pub subscription_place : (view : View) (e : Key × Slot) (s : Subscription) → subscription_entry view e ≡ Some s
    → (s.key ≡ e.0) × (is_subscription_key e.0 ≡ true)
subscription_place view e s h =
    let (own, there) = through (same_text e.0.namespace view.namespace) _ s h in
    let (object, stands, made) = then_inside (subscription_of e) e.1.object s there in
    let (status, at, same) =
    inside (λ status. let x : Subscription = record { key = e.0; version = e.1.version; object = object; status = status } in x)
    (subscription_at e.0 (Some object)) s made in
    let (kind, is) = through (is_subscription_key e.0) (as_subscription (Some object)) status at in
    (ap (λ (x : Subscription). x.key) (sym same), kind)

pub subscription_keyed : (view : View) (s : Subscription) → In (subscriptions view) s → is_subscription_key s.key ≡ true
subscription_keyed view s among =
    let (e, place, is) = in_picked (subscription_entry view) view.slots s among in
    let (key, kind) = subscription_place view e s is in
    ap is_subscription_key key ∙ kind

pub subscription_stands : (view : View) (s : Subscription) → IsInOrder view.slots → In (subscriptions view) s
    → subscription_entry view (s.key, slot_in view.slots s.key) ≡ Some s
subscription_stands view s up among =
    let (e, place, is) = in_picked (subscription_entry view) view.slots s among in
    let (i, at) = in_get view.slots e place in
    let key = (subscription_place view e s is).0 in
    ap (λ (k : Key). subscription_entry view (k, slot_in view.slots k)) key
    ∙ ap (λ (there : Slot). subscription_entry view (e.0, there)) (at_place view.slots up i e at) ∙ is
