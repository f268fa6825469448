-- The visible catalogs of a lawful history's views.
use Rattle.std.proofs.Common.{◌≡◌, Bool, true, false, cond, ℕ, zero, suc, List, [], ◌∷◌, All, map, filter, Option, Some, None, refl, sym, ap, ◌∙◌, subst}
use Rattle.std.specs.List.{slice_get, filter_map, cons_option}
use Rattle.std.specs.Option.{option_and_then, option_map}
use Rattle.std.proofs.lemmas.List.Elements.{All-nil, All-cons, All-head, All-tail, All-map, All-filter}
use Rattle.std.proofs.lemmas.List.Sorted.{All-permutation}
use Rattle.cluster_objects.specs.Kinds.{catalog_at}
use Rattle.cluster_objects.specs.declared.keys.Key.{Key}
use Rattle.cluster_objects.specs.declared.objects.Object.{Object}
use Rattle.cluster_objects.specs.declared.statuses.CatalogStatus.{CatalogStatus}
use Rattle.cluster_history.specs.History.{History, Slots, state, slot_in, first_writes}
use Rattle.cluster_history.specs.Views.{view, is_visible}
use Rattle.cluster_history.specs.declared.slots.Slot.{Slot}
use Rattle.cluster_history.proofs.State.{state_sorted}
use Rattle.cluster_history.proofs.Sums.{at_place}
use Rattle.lawful_history.specs.Lawful.{HasValidCatalog, body_of}
use Rattle.lawful_history.specs.Sound.{IsLawful}
use Rattle.lawful_history.proofs.Ends.{state_sound}
use Rattle.lawful_history.proofs.Law.{base_in_order}
use Rattle.lawful_history.proofs.Moments.{beginning}
use Rattle.view_basis.specs.Bodies.{valid_catalog}
use Rattle.view_basis.specs.Visible.{Source, is_seen_from, source_at, source_in, source_of, sources, visible_of, visible_catalogs}
use Rattle.view_basis.proofs.Slots.{catalogs_of_slots}
use Rattle.one_catalog.specs.Catalogs.{HasCatalog, is_valid_catalog}
use Rattle.one_catalog.proofs.Reading.{some_catalog}

-- a catalog that stands at an entry is a valid one
IsGood : Key × Slot → Type 0
IsGood e = HasValidCatalog is_valid_catalog e.0 e.1.object

IsRead : Source → Type 0
IsRead source = HasCatalog (visible_of source)

by_places : (es : Slots) → ((i : ℕ) (e : Key × Slot) → slice_get es i ≡ Some e → IsGood e) → All IsGood es
by_places [] f = All-nil IsGood
by_places (e ∷ es) f = All-cons IsGood e es (f zero e refl) (by_places es (λ i d at. f (suc i) d at))

good_state : (h : History) → IsLawful is_valid_catalog h → All IsGood (state h)
unfolding IsGood
good_state h lawful = by_places (state h) (λ i e at.
    subst (λ (there : Slot). HasValidCatalog is_valid_catalog e.0 there.object)
    (at_place (state h) (state_sorted h (base_in_order is_valid_catalog h lawful)) i e at)
    ((state_sound is_valid_catalog h lawful).catalogs e.0))

is_read : (namespace : List ℕ) (e : Key × Slot) → IsGood e → (source : Source) → source_in namespace e ≡ Some source → IsRead source
unfolding IsGood IsRead
is_read namespace e good source is = by_seen (is_seen_from namespace e.0) is
  where
    by_status : (object : Object) (o : Option CatalogStatus) → e.1.object ≡ Some object → catalog_at e.0 (Some object) ≡ o → option_map (source_of e.0 e.1.version object) o ≡ Some source → HasCatalog (visible_of source)
    by_status object None there at is = absurd (let bad : None ≡ Some source = is in cc)
    by_status object (Some status) there at is =
        let same : source_of e.0 e.1.version object status ≡ source = cc in
        let valid : is_valid_catalog object.body ≡ true = ap (λ (o : Option Object). is_valid_catalog (body_of o)) (sym there) ∙ good status (ap (catalog_at e.0) there ∙ at) in
        subst (λ (s : Source). HasCatalog (visible_of s)) same (some_catalog object.body valid)

    by_object : (o : Option Object) → e.1.object ≡ o → option_and_then (λ object. option_map (source_of e.0 e.1.version object) (catalog_at e.0 (Some object))) o ≡ Some source → HasCatalog (visible_of source)
    by_object None there is = absurd (let bad : None ≡ Some source = is in cc)
    by_object (Some object) there is = by_status object (catalog_at e.0 (Some object)) there refl is

    by_seen : (b : Bool) → cond b (source_at e.0 e.1) None ≡ Some source → HasCatalog (visible_of source)
    by_seen true is = by_object e.1.object refl is
    by_seen false is = absurd (let bad : None ≡ Some source = is in cc)

picked : (namespace : List ℕ) (es : Slots) → All IsGood es → All IsRead (filter_map (source_in namespace) es)
picked namespace [] good = All-nil IsRead
picked namespace (e ∷ es) good = by_source (source_in namespace e) (is_read namespace e (All-head IsGood e es good)) (picked namespace es (All-tail IsGood e es good))
  where
    by_source : (o : Option Source) → ((source : Source) → o ≡ Some source → IsRead source) → All IsRead (filter_map (source_in namespace) es) → All IsRead (cons_option o (filter_map (source_in namespace) es))
    by_source None read rest = rest
    by_source (Some source) read rest = All-cons IsRead source (filter_map (source_in namespace) es) (read source refl) rest

pub all_seen : (h : History) (namespace : List ℕ) (a : ℕ) → IsLawful is_valid_catalog h → All HasCatalog (visible_catalogs (view h namespace a))
unfolding IsRead
all_seen h namespace a lawful =
    let v = view h namespace a in
    let good = All-filter (λ (e : Key × Slot). is_visible namespace e.0) IsGood (state (first_writes a h)) (good_state (first_writes a h) (beginning is_valid_catalog a h lawful)) in
    All-map HasCatalog visible_of (sources v)
    (All-permutation IsRead (filter_map (source_in namespace) v.slots) (sources v) (catalogs_of_slots v) (picked namespace v.slots good))
