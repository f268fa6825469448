-- What the slots of a view in the order of its keys give.
use Rattle.std.proofs.Common.{◌≡◌, Bool, true, false, cond, codes, List, ℕ, Option, Some, None, refl, sym, ap, ◌∙◌, subst}
use Rattle.std.specs.Cmp.{IsTotalOrder, back_total, on_total, then_total}
use Rattle.std.specs.List.{filter_map}
use Rattle.std.specs.Option.{option_and_then, option_map}
use Rattle.std.specs.Ordering.{int_cmp, ordering_then}
use Rattle.std.specs.declared.cmp.Ordering.{Ordering}
use Rattle.std.specs.declared.cmp.Ordering.TheVariants.{Equal, Less, Greater}
use Rattle.std.proofs.lemmas.Bool.{and_parts}
use Rattle.std.proofs.lemmas.Cmp.{int_cmp_total, nat_list_cmp_total, tied_itself}
use Rattle.std.proofs.lemmas.Map.Lookups.{exact_bytes}
use Rattle.cluster_objects.specs.Keys.{key_cmp, same_text, text_cmp}
use Rattle.cluster_objects.specs.Kinds.{as_catalog, as_csv, as_subscription, catalog_at, csv_at, has_kind, operators, subscription_at}
use Rattle.cluster_objects.specs.declared.keys.Key.{Key}
use Rattle.cluster_objects.specs.declared.resolutions.Seen.{Seen}
use Rattle.cluster_objects.specs.declared.resolutions.Tip.{Tip}
use Rattle.cluster_objects.specs.declared.objects.Object.{Object}
use Rattle.cluster_objects.specs.declared.statuses.SubSpec.{SubSpec}
use Rattle.cluster_objects.specs.declared.statuses.SubscriptionStatus.{SubscriptionStatus}
use Rattle.cluster_objects.specs.declared.statuses.CsvStatus.{CsvStatus}
use Rattle.cluster_history.specs.Views.{View}
use Rattle.cluster_history.specs.declared.slots.Slot.{Slot}
use Rattle.view_basis.specs.Basis.{subscription_in}
use Rattle.view_basis.specs.Forward.{is_forward}
use Rattle.view_basis.specs.Laws.{CatalogsAreInOrder, CatalogsAreOfSlots, SubscriptionsAreByName, TipsAreByName}
use Rattle.view_basis.specs.Tips.{csv_in, is_replaced, tip_in, tip_of}
use Rattle.view_basis.specs.Visible.{Source, is_before, is_seen_from, seen_cmp, source_at, source_in, source_of, sources}
use Rattle.op_properties.proofs.Singles.{same_is}
use Rattle.upgrade_graph.proofs.Sorts.{sorted_permutes}
use Rattle.view_basis.proofs.Ordered.{picked, shown_in_order, sorted_in_order}

-- keys that differ in their names alone are in the order of these
pub by_names : (a b : Key) → a.group ≡ b.group → a.kind ≡ b.kind → a.namespace ≡ b.namespace → key_cmp a b ≡ text_cmp a.name b.name
unfolding key_cmp
by_names a b g k n =
    let same : (s t : List ℕ) → s ≡ t → text_cmp s t ≡ Equal = λ s t e. subst (λ u. text_cmp s u ≡ Equal) e (tied_itself nat_list_cmp_total s) in
    ap (λ r. ordering_then r (ordering_then (text_cmp a.kind b.kind) (ordering_then (text_cmp a.namespace b.namespace) (text_cmp a.name b.name)))) (same a.group b.group g)
    ∙ ap (λ r. ordering_then r (ordering_then (text_cmp a.namespace b.namespace) (text_cmp a.name b.name))) (same a.kind b.kind k)
    ∙ ap (λ r. ordering_then r (text_cmp a.name b.name)) (same a.namespace b.namespace n)

-- a key of this kind in this namespace
record IsOf (kind namespace : List ℕ) (key : Key) : Type 0 where
  is_group : key.group ≡ operators
  is_kind : key.kind ≡ kind
  is_own : key.namespace ≡ namespace

both_of : {kind namespace : List ℕ} (a b : Key) → IsOf kind namespace a → IsOf kind namespace b → key_cmp a b ≡ text_cmp a.name b.name
both_of a b h k = by_names a b (h.is_group ∙ sym k.is_group) (h.is_kind ∙ sym k.is_kind) (h.is_own ∙ sym k.is_own)

-- a value that a test lets through
through : {T : Type 0} (b : Bool) (o : Option T) (x : T) → cond b o None ≡ Some x → (b ≡ true) × (o ≡ Some x)
through true o x h = (refl, h)
through false o x h = absurd (let bad : None ≡ Some x = h in cc)

inside : {T U : Type 0} (f : T → U) (o : Option T) (y : U) → option_map f o ≡ Some y → (x : T) × (o ≡ Some x) × (f x ≡ y)
inside f None y h = absurd (let bad : None ≡ Some y = h in cc)
inside f (Some x) y h = (x, refl, cc)

of_kind : (kind : List ℕ) (key : Key) → has_kind operators kind key ≡ true → (key.group ≡ operators) × (key.kind ≡ kind)
of_kind kind key h =
    let (group, is) = and_parts (same_text key.group operators) (same_text key.kind kind) h in
    (same_is key.group operators group, same_is key.kind kind is)

-- a value that a test keeps back
otherwise : {T : Type 0} (b : Bool) (o : Option T) (x : T) → cond b None o ≡ Some x → o ≡ Some x
otherwise true o x h = absurd (let bad : None ≡ Some x = h in cc)
otherwise false o x h = h

csv_key : (namespace : List ℕ) (e : Key × Slot) (csv : CsvStatus) → csv_in namespace e ≡ Some csv → IsOf (codes "ClusterServiceVersion") namespace e.0
csv_key namespace e csv h =
    let (own, at) = through (same_text e.0.namespace namespace) (csv_at e.0 e.1.object) csv h in
    let (is, there) = through (has_kind operators (codes "ClusterServiceVersion") e.0) (as_csv e.1.object) csv at in
    let (group, kind) = of_kind (codes "ClusterServiceVersion") e.0 is in
    record { is_group = group; is_kind = kind; is_own = same_is e.0.namespace namespace own }

tip_key : (view : View) (e : Key × Slot) (tip : Tip) → tip_in view e ≡ Some tip → (tip.name ≡ e.0.name) × IsOf (codes "ClusterServiceVersion") view.namespace e.0
tip_key view e tip h =
    let there = otherwise (is_replaced view e.0.name) (option_map (tip_of (is_forward view) e.0.name) (csv_in view.namespace e)) tip h in
    let (csv, is, made) = inside (tip_of (is_forward view) e.0.name) (csv_in view.namespace e) tip there in
    (ap (λ t. t.name) (sym made), csv_key view.namespace e csv is)

pub tips_by_name : TipsAreByName
tips_by_name view up =
    shown_in_order text_cmp (λ tip. tip.name) (filter_map (tip_in view) view.slots)
    (picked key_cmp (tip_in view) (λ x y. text_cmp x.name y.name ≡ Less)
    (λ d e x y p q less.
    let (named, is) = tip_key view d x p in
    let (named', is') = tip_key view e y q in
    ap (λ n. text_cmp n y.name) named ∙ ap (text_cmp d.0.name) named' ∙ sym (both_of d.0 e.0 is is') ∙ less)
    view.slots up)

subscription_key : (namespace : List ℕ) (e : Key × Slot) (subscription : List ℕ × SubSpec) → subscription_in namespace e ≡ Some subscription
    → (subscription.0 ≡ e.0.name) × IsOf (codes "Subscription") namespace e.0
subscription_key namespace e subscription h =
    let show : SubscriptionStatus → List ℕ × SubSpec = λ status. (e.0.name, status.spec) in
    let (own, there) = through (same_text e.0.namespace namespace) (option_map show (subscription_at e.0 e.1.object)) subscription h in
    let (status, at, made) = inside show (subscription_at e.0 e.1.object) subscription there in
    let (is, stands) = through (has_kind operators (codes "Subscription") e.0) (as_subscription e.1.object) status at in
    let (group, kind) = of_kind (codes "Subscription") e.0 is in
    (ap (λ s. s.0) (sym made), record { is_group = group; is_kind = kind; is_own = same_is e.0.namespace namespace own })

pub subscriptions_by_name : SubscriptionsAreByName
subscriptions_by_name view up =
    shown_in_order text_cmp (λ subscription. subscription.0) (filter_map (subscription_in view.namespace) view.slots)
    (picked key_cmp (subscription_in view.namespace) (λ x y. text_cmp x.0 y.0 ≡ Less)
    (λ d e x y p q less.
    let (named, is) = subscription_key view.namespace d x p in
    let (named', is') = subscription_key view.namespace e y q in
    ap (λ n. text_cmp n y.0) named ∙ ap (text_cmp d.0.name) named' ∙ sym (both_of d.0 e.0 is is') ∙ less)
    view.slots up)

-- a source stands at its key
record StandsAt (key : Key) (source : Source) : Type 0 where
  is : has_kind operators (codes "CatalogSource") key ≡ true
  namespace : source.seen.namespace ≡ key.namespace
  name : source.seen.name ≡ key.name

source_key : (namespace : List ℕ) (e : Key × Slot) (source : Source) → source_in namespace e ≡ Some source → StandsAt e.0 source
source_key namespace e source h =
    let go : (o : Option Object) → option_and_then (λ object. option_map (source_of e.0 e.1.version object) (catalog_at e.0 (Some object))) o ≡ Some source → StandsAt e.0 source =
    λ o. elim o as (λ o. option_and_then (λ object. option_map (source_of e.0 e.1.version object) (catalog_at e.0 (Some object))) o ≡ Some source → StandsAt e.0 source) [
      | None ↦ λ k. absurd (let bad : None ≡ Some source = k in cc)
      | Some object ↦ λ k.
          (let (status, at, made) = inside (source_of e.0 e.1.version object) (catalog_at e.0 (Some object)) source k in
          let (is, there) = through (has_kind operators (codes "CatalogSource") e.0) (as_catalog (Some object)) status at in
          record { is = is; namespace = ap (λ s. s.seen.namespace) (sym made); name = ap (λ s. s.seen.name) (sym made) })
    ] in
    go e.1.object (through (is_seen_from namespace e.0) (source_at e.0 e.1) source h).1

both_Equal : (r s : Ordering) → ordering_then r s ≡ Equal → (r ≡ Equal) × (s ≡ Equal)
both_Equal Less s h = absurd (let bad : Less ≡ Equal = h in cc)
both_Equal Equal s h = (refl, h)
both_Equal Greater s h = absurd (let bad : Greater ≡ Equal = h in cc)

sources_apart : (d e : Key) (x y : Source) → StandsAt d x → StandsAt e y → key_cmp d e ≡ Less → seen_cmp x.seen y.seen ≡ Equal → ⊥
sources_apart d e x y h k less same =
    let more = both_Equal (int_cmp y.seen.priority x.seen.priority) (ordering_then (text_cmp x.seen.namespace y.seen.namespace) (text_cmp x.seen.name y.seen.name)) same in
    let (namespaces, names) = both_Equal (text_cmp x.seen.namespace y.seen.namespace) (text_cmp x.seen.name y.seen.name) more.1 in
    let one = of_kind (codes "CatalogSource") d h.is in
    let other = of_kind (codes "CatalogSource") e k.is in
    let there : d.namespace ≡ e.namespace = sym h.namespace ∙ exact_bytes x.seen.namespace y.seen.namespace namespaces ∙ k.namespace in
    let cmp : key_cmp d e ≡ text_cmp d.name e.name = by_names d e (one.0 ∙ sym other.0) (one.1 ∙ sym other.1) there in
    let tied : text_cmp d.name e.name ≡ Equal = ap (λ n. text_cmp n e.name) (sym h.name) ∙ ap (text_cmp x.seen.name) (sym k.name) ∙ names in
    let bad : Less ≡ Equal = sym less ∙ cmp ∙ tied in
    absurd cc

seen_total : IsTotalOrder seen_cmp
seen_total =
    then_total (on_total (λ (s : Seen). s.priority) (back_total int_cmp_total))
    (then_total (on_total (λ (s : Seen). s.namespace) nat_list_cmp_total) (on_total (λ (s : Seen). s.name) nat_list_cmp_total))

source_total : IsTotalOrder (λ (a b : Source). seen_cmp a.seen b.seen)
source_total = on_total (λ (s : Source). s.seen) seen_total

pub catalogs_in_order : CatalogsAreInOrder
catalogs_in_order view up =
    shown_in_order seen_cmp (λ source. source.seen) (sources view)
    (sorted_in_order (λ (a b : Source). seen_cmp a.seen b.seen) source_total (filter_map (source_in view.namespace) view.slots)
    (picked key_cmp (source_in view.namespace) (λ x y. seen_cmp x.seen y.seen ≡ Equal → ⊥)
    (λ d e x y p q less. sources_apart d.0 e.0 x y (source_key view.namespace d x p) (source_key view.namespace e y q) less)
    view.slots up))

pub catalogs_of_slots : CatalogsAreOfSlots
catalogs_of_slots view = sorted_permutes is_before (filter_map (source_in view.namespace) view.slots)
