-- What a view shows of the state.
use Rattle.std.proofs.Common.{◌≡◌, Bool, true, false, cond, List, [], ◌∷◌, ℕ, zero, suc, Option, None, refl, sym, ap, ◌∙◌, subst, ◌-◌, arith}
use Rattle.std.specs.Option.{unwrap_or}
use Rattle.std.specs.Map.{keys_of}
use Rattle.std.specs.List.{filter}
use Rattle.std.specs.List.Sorted.{IsStrictlySortedBy}
use Rattle.std.specs.BTreeMap.{is_at}
use Rattle.std.proofs.lemmas.List.Kept.{IsStrictlySortedBy-filter}
use Rattle.std.proofs.lemmas.Map.Entries.{lookup-filter-keys}
use Rattle.cluster_objects.specs.Keys.{key_cmp, same_key}
use Rattle.cluster_objects.specs.declared.keys.Key.{Key}
use Rattle.cluster_objects.proofs.Ordering.{same_key-true}
use Rattle.cluster_history.specs.History.{History, Start, After, Slots, IsInOrder, base_of, earlier, first_writes, position, slot, slot_in, state, never_written}
use Rattle.cluster_history.specs.Views.{View, view, is_visible}
use Rattle.cluster_history.specs.declared.slots.Slot.{Slot}
use Rattle.cluster_history.specs.declared.slots.Base.{Base}
use Rattle.cluster_history.proofs.State.{state_sorted}
use Rattle.object_store.specs.Seen.{slot_seen}

-- fewer writes have the same base
base-earlier : (n : ℕ) (h : History) → base_of (earlier n h) ≡ base_of h
base-earlier zero h = refl
base-earlier (suc n) (Start base) = refl
base-earlier (suc n) (After w h) = base-earlier n h

keys-filter : (p : Key → Bool) (es : List (Key × Slot)) → keys_of (filter (λ e. p e.0) es) ≡ filter p (keys_of es)
keys-filter p [] = refl
keys-filter p (e ∷ es) = by_test (p e.0) (keys-filter p es)
  where
    by_test : (b : Bool) → keys_of (filter (λ e. p e.0) es) ≡ filter p (keys_of es) → keys_of (cond b (e ∷ filter (λ e. p e.0) es) (filter (λ e. p e.0) es)) ≡ cond b (e.0 ∷ filter p (keys_of es)) (filter p (keys_of es))
    by_test true rest = ap (λ ks. e.0 ∷ ks) rest
    by_test false rest = rest

pub view_in_order : (h : History) (namespace : List ℕ) (a : ℕ) → IsInOrder (base_of h).slots → IsInOrder (view h namespace a).slots
view_in_order h namespace a sorted =
    let g = first_writes a h in
    let old : IsInOrder (base_of g).slots = subst (λ (b : Base). IsInOrder b.slots) (sym (base-earlier (position h - a) h)) sorted in
    subst (IsStrictlySortedBy key_cmp) (sym (keys-filter (is_visible namespace) (state g)))
    (IsStrictlySortedBy-filter key_cmp (is_visible namespace) (keys_of (state g)) (state_sorted g old))

-- a key that is looked for is tested as itself
seen_at : (h : History) (namespace : List ℕ) (a : ℕ) (key : Key) (b : Bool) → is_visible namespace key ≡ b → slot_seen (view h namespace a).slots key ≡ cond b (slot_seen (state (first_writes a h)) key) None
unfolding same_key
seen_at h namespace a key b is = lookup-filter-keys (is_at (key_cmp key)) (is_visible namespace) b (λ k at. ap (is_visible namespace) (sym (same_key-true key k at)) ∙ is) (state (first_writes a h))

pub visible_shown : (h : History) (namespace : List ℕ) (a : ℕ) (key : Key) → is_visible namespace key ≡ true → slot_in (view h namespace a).slots key ≡ slot (first_writes a h) key
unfolding slot
visible_shown h namespace a key is = ap (λ (o : Option Slot). unwrap_or o never_written) (seen_at h namespace a key true is)

pub other_hidden : (h : History) (namespace : List ℕ) (a : ℕ) (key : Key) → is_visible namespace key ≡ false → slot_seen (view h namespace a).slots key ≡ None
other_hidden h namespace a key is = seen_at h namespace a key false is

-- the view of all writes
all-first : (h : History) → first_writes (position h) h ≡ h
all-first h = ap (λ n. earlier n h) none
  where
    none : position h - position h ≡ zero
    none = omega arith

pub whole_view : (h : History) (namespace : List ℕ) (n : ℕ) (entries : Slots) → n ≡ position h → entries ≡ state h
    → (let v : View = record { namespace = namespace; length = n; slots = filter (λ e. is_visible namespace e.0) entries } in v) ≡ view h namespace (position h)
whole_view h namespace n entries size is =
    ap (λ (m : ℕ). let v : View = record { namespace = namespace; length = m; slots = filter (λ e. is_visible namespace e.0) entries } in v) size
    ∙ ap (λ (es : Slots). let v : View = record { namespace = namespace; length = position h; slots = filter (λ e. is_visible namespace e.0) es } in v) (is ∙ ap state (sym (all-first h)))
