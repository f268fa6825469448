-- What one write more changes: versions, stamps and the newest plan.
use Rattle.cluster_history.specs.History.{History, After, IsInOrder, base_of, position, state, carried}
use Rattle.cluster_history.proofs.Sums.{alone, one-le-all, somewhere, carried-slots}
use Rattle.std.proofs.Common.{◌≡◌, ◌≢◌, ◌≤◌, ◌<◌, ◌+◌, ◌⊎◌, Bool, true, false, cond, List, [], ◌&&◌, ℕ, refl, sym, ap, ◌∙◌, arith, inl, inr, subst}
use Rattle.std.specs.Option.{option_or}
use Rattle.cluster_objects.specs.Keys.{same_key}
use Rattle.cluster_objects.specs.Stamps.{times, stamps_of}
use Rattle.cluster_history.specs.History.{slot, after_write}
use Rattle.cluster_objects.specs.Kinds.{as_plan}
use Rattle.std.proofs.lemmas.Bool.{or_parts, or_right, or_left, and_from}
use Rattle.lawful_history.specs.Lawful.{last_plan, started, is_installing}
use Rattle.cluster_objects.specs.declared.keys.Key.{Key}
use Rattle.cluster_history.specs.declared.slots.Slot.{Slot}
use Rattle.cluster_objects.specs.declared.keys.Stamp.{Stamp}
use Rattle.cluster_objects.specs.declared.objects.Write.{Write}
use Rattle.cluster_objects.proofs.Ordering.{same_key-true, same_key-refl, same_key-false}
use Rattle.cluster_history.proofs.State.{slot-written, slot-other, state_sorted}
use Rattle.cluster_objects.proofs.Stamping.{times-append, times-none}

-- a key is the one that was written, or its slot stays
pub same_or_other : (w : Write) (h : History) (key : Key) → ((w.key ≡ key) × (slot (After w h) key ≡ after_write (slot h key) (position h + 1) w)) ⊎ ((w.key ≢ key) × (slot (After w h) key ≡ slot h key))
same_or_other w h key = by_test (same_key w.key key) refl
  where
    by_test : (b : Bool) → same_key w.key key ≡ b → ((w.key ≡ key) × (slot (After w h) key ≡ after_write (slot h key) (position h + 1) w)) ⊎ ((w.key ≢ key) × (slot (After w h) key ≡ slot h key))
    by_test true h' =
        let e = same_key-true w.key key h' in
        inl (e, subst (λ k. slot (After w h) k ≡ after_write (slot h k) (position h + 1) w) e (slot-written w h))
    by_test false h' =
        let ne : w.key ≢ key = λ e. let t : same_key w.key key ≡ true = subst (λ k. same_key w.key k ≡ true) e (same_key-refl w.key) in cc in
        inr (ne, slot-other w h key ne)

pub last_plan-written : (w : Write) (h : History) (key : Key) → w.key ≡ key → last_plan (After w h) key ≡ option_or (as_plan w.object) (last_plan h key)
unfolding last_plan
last_plan-written w h key e = ap (λ b. cond b (option_or (as_plan w.object) (last_plan h key)) (last_plan h key)) (ap (λ k. same_key w.key k) (sym e) ∙ same_key-refl w.key)

pub last_plan-other : (w : Write) (h : History) (key : Key) → w.key ≢ key → last_plan (After w h) key ≡ last_plan h key
unfolding last_plan
last_plan-other w h key ne = ap (λ b. cond b (option_or (as_plan w.object) (last_plan h key)) (last_plan h key)) (same_key-false w.key key ne)

-- how often a stamp stands in a slot
abbrev pub in_slot : Stamp → History → Key → ℕ
in_slot s h key = times s (slot h key).stamps

pub in_slot-written : (s : Stamp) (w : Write) (h : History) (key : Key) → w.key ≡ key → in_slot s (After w h) key ≡ in_slot s h key + times s (stamps_of w.object)
in_slot-written s w h key e =
    ap (λ (x : Slot). times s x.stamps) (subst (λ k. slot (After w h) k ≡ after_write (slot h k) (position h + 1) w) e (slot-written w h))
    ∙ times-append s (slot h key).stamps (stamps_of w.object)

pub in_slot-other : (s : Stamp) (w : Write) (h : History) (key : Key) → w.key ≢ key → in_slot s (After w h) key ≡ in_slot s h key
in_slot-other s w h key ne = ap (λ (x : Slot). times s x.stamps) (slot-other w h key ne)

-- a write without a stamp changes no such number
pub in_slot-unstamped : (s : Stamp) (w : Write) (h : History) (key : Key) → stamps_of w.object ≡ [] → in_slot s (After w h) key ≡ in_slot s h key
in_slot-unstamped s w h key bare = elim (same_or_other w h key) [
  | inl is ↦ in_slot-written s w h key is.0 ∙ ap (λ (xs : List Stamp). in_slot s h key + times s xs) bare ∙ ap (λ n. in_slot s h key + n) (times-none s) ∙ omega arith
  | inr is ↦ in_slot-other s w h key is.0
]

pub in_slot-grows : (s : Stamp) (w : Write) (h : History) (key : Key) → in_slot s h key ≤ in_slot s (After w h) key
in_slot-grows s w h key = elim (same_or_other w h key) [
  | inl is ↦ omega (arith, in_slot-written s w h key is.0)
  | inr is ↦ omega (arith, in_slot-other s w h key is.0)
]

pub version-put : (w : Write) (h : History) (key : Key) → ((w.key ≡ key) × ((slot (After w h) key).version ≡ position h + 1)) ⊎ ((w.key ≢ key) × (slot (After w h) key ≡ slot h key))
version-put w h key = elim (same_or_other w h key) [ inl is ↦ inl (is.0, ap (λ (x : Slot). x.version) is.1) | inr is ↦ inr is ]

-- where only one key's slot has a stamp, it is carried as often as it stands there
pub carried-at : (s : Stamp) (key : Key) (h : History) → IsInOrder (base_of h).slots → ((k : Key) → k ≢ key → in_slot s h k ≡ 0) → carried s h ≡ in_slot s h key
unfolding slot
carried-at s key h sorted none = carried-slots s h sorted ∙ alone s (state h) (state_sorted h sorted) key none

-- no slot has a stamp more often than it is carried, and where it is carried it stands in some slot
pub in_slot-carried : (s : Stamp) (h : History) (key : Key) → IsInOrder (base_of h).slots → in_slot s h key ≤ carried s h
unfolding slot
in_slot-carried s h key sorted = omega (arith, carried-slots s h sorted, one-le-all s (state h) key)

pub carried-somewhere : (s : Stamp) (h : History) → IsInOrder (base_of h).slots → 0 < carried s h → (key : Key) × (0 < in_slot s h key)
unfolding slot
carried-somewhere s h sorted some = somewhere s (state h) (state_sorted h sorted) (omega (arith, some, carried-slots s h sorted))

pub started-before : (w : Write) (h : History) (key : Key) → started (After w h) key ≡ false → started h key ≡ false
unfolding started
started-before w h key is = (or_parts (same_key w.key key && is_installing w.object) (started h key) is).1

pub started-kept : (w : Write) (h : History) (key : Key) → started h key ≡ true → started (After w h) key ≡ true
unfolding started
started-kept w h key is = or_right (same_key w.key key && is_installing w.object) (started h key) is

pub started-now : (w : Write) (h : History) (key : Key) → w.key ≡ key → is_installing w.object ≡ true → started (After w h) key ≡ true
unfolding started
started-now w h key e is = or_left (same_key w.key key && is_installing w.object) (started h key) (and_from (same_key w.key key) (is_installing w.object) (ap (λ k. same_key w.key k) (sym e) ∙ same_key-refl w.key) is)
