-- How often a stamp stands in all slots together, and in one of them.
use Rattle.std.proofs.Common.{◌≡◌, ◌≢◌, ◌≤◌, ◌<◌, ◌+◌, ◌⊎◌, ⊎_elim, Bool, true, false, cond, [], ◌∷◌, ℕ, Option, Some, None, refl, sym, ap, ◌∙◌, arith, inl, inr, subst}
use Rattle.std.specs.Option.{unwrap_or, option_map}
use Rattle.std.specs.Map.{lookup, keys_of, values_of}
use Rattle.std.specs.BTreeMap.{is_at}
use Rattle.std.specs.List.{slice_get, IsDistinct}
use Rattle.std.specs.Cmp.{eq_by_cmp_equiv}
use Rattle.std.specs.Ordering.{eq_by_cmp}
use Rattle.std.proofs.lemmas.Bool.{cases_lt}
use Rattle.std.proofs.lemmas.List.Sums.{sum_by-cons}
use Rattle.std.proofs.lemmas.Map.Keys.{IsDistinct-from_sorted, sorted_tail}
use Rattle.std.proofs.lemmas.Map.Entries.{none_past_head, sum_by-insert_entry, place_from_lookup, lookup_from_place}
use Rattle.std.proofs.lemmas.Map.{lookup-none}
use Rattle.cluster_objects.specs.Keys.{key_cmp, same_key}
use Rattle.cluster_objects.specs.Stamps.{stamps_of, times}
use Rattle.cluster_history.specs.History.{History, Start, After, Slots, IsInOrder, base_of, position, slot_in, state, never_written, after_write, times_in, carried}
use Rattle.cluster_objects.specs.declared.keys.Key.{Key}
use Rattle.cluster_objects.specs.declared.keys.Stamp.{Stamp}
use Rattle.cluster_history.specs.declared.slots.Slot.{Slot}
use Rattle.cluster_objects.proofs.Ordering.{keys_total, same_key-true, same_key-refl, same_key-false}
use Rattle.cluster_objects.proofs.Stamping.{times-append, times-none}
use Rattle.cluster_history.proofs.State.{state_sorted}

-- the slot of the first key, and of every other
slot-head : (e : Key × Slot) (es : Slots) (key : Key) → slot_in (e ∷ es) key ≡ cond (same_key key e.0) e.1 (slot_in es key)
unfolding same_key
slot-head e es key = picks (is_at (key_cmp key) e.0)
  where
    picks : (b : Bool) → unwrap_or (cond b (Some e.1) (lookup (is_at (key_cmp key)) es)) never_written ≡ cond b e.1 (slot_in es key)
    picks true = refl
    picks false = refl

slot-first : (e : Key × Slot) (es : Slots) → slot_in (e ∷ es) e.0 ≡ e.1
slot-first e es = slot-head e es e.0 ∙ ap (λ b. cond b e.1 (slot_in es e.0)) (same_key-refl e.0)

slot-later : (e : Key × Slot) (es : Slots) (key : Key) → key ≢ e.0 → slot_in (e ∷ es) key ≡ slot_in es key
slot-later e es key ne = slot-head e es key ∙ ap (λ b. cond b e.1 (slot_in es key)) (same_key-false key e.0 ne)

-- the first key isn't among the later ones
pub slot-gone : (e : Key × Slot) (es : Slots) → IsInOrder (e ∷ es) → slot_in es e.0 ≡ never_written
slot-gone e es sorted =
    ap (λ (o : Option Slot). unwrap_or o never_written)
    (lookup-none (is_at (key_cmp e.0)) es (none_past_head (eq_by_cmp_equiv keys_total) e.0 e es (IsDistinct-from_sorted key_cmp (keys_of (e ∷ es)) sorted) ((eq_by_cmp_equiv keys_total).refl e.0)))

pub in_order-tail : (e : Key × Slot) (es : Slots) → IsInOrder (e ∷ es) → IsInOrder es
in_order-tail e es sorted = sorted_tail key_cmp e.0 (keys_of es) sorted

abbrev pub in_one : Stamp → Slots → Key → ℕ
in_one stamp slots key = times stamp (slot_in slots key).stamps

in-never : (stamp : Stamp) → times stamp never_written.stamps ≡ 0
in-never stamp = times-none stamp

all-cons : (stamp : Stamp) (e : Key × Slot) (es : Slots) → times_in stamp (e ∷ es) ≡ times stamp e.1.stamps + times_in stamp es
all-cons stamp e es = sum_by-cons (λ (there : Slot). times stamp there.stamps) e.1 (values_of es)

pub same_or_not : (a b : Key) → (a ≡ b) ⊎ (a ≢ b)
same_or_not a b = by_test (same_key a b) refl
  where
    by_test : (t : Bool) → same_key a b ≡ t → (a ≡ b) ⊎ (a ≢ b)
    by_test true is = inl (same_key-true a b is)
    by_test false is = inr (λ e. let t : same_key a b ≡ true = subst (λ k. same_key a k ≡ true) e (same_key-refl a) in cc)

-- no slot has it more often than all together
pub one-le-all : (stamp : Stamp) (slots : Slots) (key : Key) → in_one stamp slots key ≤ times_in stamp slots
one-le-all stamp [] key = omega (arith, in-never stamp)
one-le-all stamp (e ∷ es) key = ⊎_elim
    (λ is. omega (arith, all-cons stamp e es, ap (λ (x : Slot). times stamp x.stamps) (ap (λ k. slot_in (e ∷ es) k) is ∙ slot-first e es)))
    (λ ne. omega (arith, all-cons stamp e es, ap (λ (x : Slot). times stamp x.stamps) (slot-later e es key ne), one-le-all stamp es key))
    (same_or_not key e.0)

-- a stamp that stands in no other slot stands in all together as often as in this one
pub alone : (stamp : Stamp) (slots : Slots) → IsInOrder slots → (key : Key) → ((k : Key) → k ≢ key → in_one stamp slots k ≡ 0) → times_in stamp slots ≡ in_one stamp slots key
alone stamp [] sorted key none = sym (in-never stamp)
alone stamp (e ∷ es) sorted key none = by_first (alone stamp es (in_order-tail e es sorted))
  where
    later : (k : Key) → (k ≢ e.0 → in_one stamp (e ∷ es) k ≡ 0) → in_one stamp es k ≡ 0
    later k is = ⊎_elim
        (λ s. ap (λ x. in_one stamp es x) s ∙ ap (λ (x : Slot). times stamp x.stamps) (slot-gone e es sorted) ∙ in-never stamp)
        (λ ne. sym (ap (λ (x : Slot). times stamp x.stamps) (slot-later e es k ne)) ∙ is ne)
        (same_or_not k e.0)

    first : in_one stamp (e ∷ es) e.0 ≡ times stamp e.1.stamps
    first = ap (λ (x : Slot). times stamp x.stamps) (slot-first e es)

    Rest : Type 0
    Rest = (k : Key) → ((q : Key) → q ≢ k → in_one stamp es q ≡ 0) → times_in stamp es ≡ in_one stamp es k

    same : Rest → key ≡ e.0 → times_in stamp (e ∷ es) ≡ in_one stamp (e ∷ es) key
    same rest is =
        let all_none : (k : Key) → in_one stamp es k ≡ 0 = λ k. later k (λ ne. none k (λ s. ne (s ∙ is))) in
        let r = rest key (λ q ne. all_none q) in
        omega (arith, all-cons stamp e es, r, all_none key, ap (λ k. in_one stamp (e ∷ es) k) is, first)

    other : Rest → key ≢ e.0 → times_in stamp (e ∷ es) ≡ in_one stamp (e ∷ es) key
    other rest ne =
        let zero_first : times stamp e.1.stamps ≡ 0 = sym first ∙ none e.0 (λ s. ne (sym s)) in
        let r = rest key (λ q apart. later q (λ x. none q apart)) in
        omega (arith, all-cons stamp e es, r, zero_first, ap (λ (x : Slot). times stamp x.stamps) (slot-later e es key ne))

    by_first : Rest → times_in stamp (e ∷ es) ≡ in_one stamp (e ∷ es) key
    by_first rest = ⊎_elim (same rest) (other rest) (same_or_not key e.0)

-- a stamp that stands somewhere stands in the slot of some key
pub somewhere : (stamp : Stamp) (slots : Slots) → IsInOrder slots → 0 < times_in stamp slots → (key : Key) × (0 < in_one stamp slots key)
somewhere stamp [] sorted some = absurd (omega (arith, some, none))
  where
    none : times_in stamp [] ≡ 0
    none = refl
somewhere stamp (e ∷ es) sorted some = by_first (somewhere stamp es (in_order-tail e es sorted)) (cases_lt 0 (times stamp e.1.stamps))
  where
    by_first : (0 < times_in stamp es → (key : Key) × (0 < in_one stamp es key)) → (0 < times stamp e.1.stamps) ⊎ (times stamp e.1.stamps ≤ 0) → (key : Key) × (0 < in_one stamp (e ∷ es) key)
    by_first rest (inl here) = (e.0, omega (arith, here, ap (λ (x : Slot). times stamp x.stamps) (slot-first e es)))
    by_first rest (inr none) =
        let found = rest (omega (arith, some, none, all-cons stamp e es)) in
        let ne : found.0 ≢ e.0 = λ is. absurd (omega (arith, found.1, ap (λ k. in_one stamp es k) is, ap (λ (x : Slot). times stamp x.stamps) (slot-gone e es sorted), in-never stamp)) in
        (found.0, omega (arith, found.1, ap (λ (x : Slot). times stamp x.stamps) (slot-later e es found.0 ne)))

-- a slot that is there is at some place
pub placed : (slots : Slots) (key : Key) → 0 < (slot_in slots key).version → (i : ℕ) × (slice_get slots i ≡ Some (key, slot_in slots key))
unfolding same_key
placed slots key some = by_lookup (lookup (is_at (key_cmp key)) slots) refl
  where
    by_lookup : (o : Option Slot) → lookup (is_at (key_cmp key)) slots ≡ o → (i : ℕ) × (slice_get slots i ≡ Some (key, slot_in slots key))
    by_lookup None is = absurd (omega (arith, some, ap (λ (o : Option Slot). (unwrap_or o never_written).version) is))
    by_lookup (Some there) is =
        let found = place_from_lookup (is_at (key_cmp key)) slots there is in
        let same : key ≡ found.1 = same_key-true key found.1 found.3 in
        (found.0, found.2 ∙ ap (λ k. Some (k, there)) (sym same) ∙ ap (λ (o : Option Slot). Some (key, unwrap_or o never_written)) (sym is))

-- the slot at a place is that of its key
pub at_place : (slots : Slots) → IsInOrder slots → (i : ℕ) (e : Key × Slot) → slice_get slots i ≡ Some e → slot_in slots e.0 ≡ e.1
at_place slots sorted i e at =
    ap (λ (o : Option Slot). unwrap_or o never_written)
    (lookup_from_place (eq_by_cmp_equiv keys_total) slots i e.0 e.1 (IsDistinct-from_sorted key_cmp (keys_of slots) sorted) at)

-- a write adds its stamps to the slots
weight-of : (stamp : Stamp) (o : Option Slot) → unwrap_or (option_map (λ (there : Slot). times stamp there.stamps) o) 0 ≡ times stamp (unwrap_or o never_written).stamps
weight-of stamp None = sym (in-never stamp)
weight-of stamp (Some there) = refl

pub carried-slots : (stamp : Stamp) (h : History) → IsInOrder (base_of h).slots → carried stamp h ≡ times_in stamp (state h)
unfolding carried state
carried-slots stamp (Start base) sorted = refl
carried-slots stamp (After w h) sorted =
    let there = slot_in (state h) w.key in
    let new = after_write there (position h + 1) w in
    omega (
      arith,
      carried-slots stamp h sorted,
      sum_by-insert_entry (λ (x : Slot). times stamp x.stamps) keys_total (state h) w.key new (state_sorted h sorted),
      weight-of stamp (lookup (is_at (key_cmp w.key)) (state h)),
      times-append stamp there.stamps (stamps_of w.object),
    )

-- a key has a slot at some place, or it was never written
pub there_or_never : (slots : Slots) (key : Key) → (slot_in slots key ≡ never_written) ⊎ ((i : ℕ) × (slice_get slots i ≡ Some (key, slot_in slots key)))
unfolding same_key
there_or_never slots key = by_lookup (lookup (is_at (key_cmp key)) slots) refl
  where
    by_lookup : (o : Option Slot) → lookup (is_at (key_cmp key)) slots ≡ o → (slot_in slots key ≡ never_written) ⊎ ((i : ℕ) × (slice_get slots i ≡ Some (key, slot_in slots key)))
    by_lookup None is = inl (ap (λ (o : Option Slot). unwrap_or o never_written) is)
    by_lookup (Some there) is =
        let found = place_from_lookup (is_at (key_cmp key)) slots there is in
        let same : key ≡ found.1 = same_key-true key found.1 found.3 in
        inr (found.0, found.2 ∙ ap (λ k. Some (k, there)) (sym same) ∙ ap (λ (o : Option Slot). Some (key, unwrap_or o never_written)) (sym is))

-- two slots have a stamp no more often than all together
pub two-le-all : (stamp : Stamp) (slots : Slots) (a b : Key) → a ≢ b → in_one stamp slots a + in_one stamp slots b ≤ times_in stamp slots
two-le-all stamp [] a b apart = omega (arith, in-never stamp)
two-le-all stamp (e ∷ es) a b apart = by_heads (two-le-all stamp es a b apart) (same_or_not a e.0) (same_or_not b e.0)
  where
    head : (k : Key) → k ≡ e.0 → in_one stamp (e ∷ es) k ≡ times stamp e.1.stamps
    head k is = ap (λ (x : Slot). times stamp x.stamps) (ap (λ q. slot_in (e ∷ es) q) is ∙ slot-first e es)

    tail : (k : Key) → k ≢ e.0 → in_one stamp (e ∷ es) k ≡ in_one stamp es k
    tail k ne = ap (λ (x : Slot). times stamp x.stamps) (slot-later e es k ne)

    by_heads : in_one stamp es a + in_one stamp es b ≤ times_in stamp es → (a ≡ e.0) ⊎ (a ≢ e.0) → (b ≡ e.0) ⊎ (b ≢ e.0) → in_one stamp (e ∷ es) a + in_one stamp (e ∷ es) b ≤ times_in stamp (e ∷ es)
    by_heads rest (inl x) (inl y) = absurd (apart (x ∙ sym y))
    by_heads rest (inl x) (inr y) = omega (arith, head a x, tail b y, all-cons stamp e es, one-le-all stamp es b)
    by_heads rest (inr x) (inl y) = omega (arith, tail a x, head b y, all-cons stamp e es, one-le-all stamp es a)
    by_heads rest (inr x) (inr y) = omega (arith, tail a x, tail b y, all-cons stamp e es, rest)

-- the same of slots in any order with distinct keys
pub at_distinct_place : (slots : Slots) → IsDistinct (eq_by_cmp key_cmp) (keys_of slots) → (i : ℕ) (e : Key × Slot) → slice_get slots i ≡ Some e → slot_in slots e.0 ≡ e.1
at_distinct_place slots distinct i e at =
    ap (λ (o : Option Slot). unwrap_or o never_written)
    (lookup_from_place (eq_by_cmp_equiv keys_total) slots i e.0 e.1 distinct at)
