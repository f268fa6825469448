-- What stays of a slot from an older history on, where the base is one.
use Rattle.std.proofs.Common.{◌≡◌, ◌≤◌, ◌<◌, ◌+◌, Bool, ℕ, List, refl, sym, ap, ◌∙◌, arith, inl, inr, true, ◌≢◌, ◌⊎◌, Option, None, Some}
use Rattle.std.specs.List.{slice_get}
use Rattle.std.proofs.lemmas.Bool.{cases_lt}
use Rattle.cluster_objects.specs.declared.keys.Key.{Key}
use Rattle.cluster_history.specs.History.{History, Start, After, IsBase, base_of, never_written, position, slot, slot_in, state, first_writes}
use Rattle.cluster_history.specs.Views.{view, is_visible}
use Rattle.cluster_history.specs.declared.slots.Slot.{Slot}
use Rattle.cluster_history.proofs.Sums.{placed, there_or_never}
use Rattle.lawful_history.specs.Sound.{IsSoundBase, IsLawful}
use Rattle.lawful_history.proofs.Moves.{slot_in-view}
use Rattle.lawful_history.proofs.Older.{IsOlder, now, back, first_older}
use Rattle.lawful_history.proofs.Slots.{version-put}

pub base_sound : (is_valid : List ℕ → Bool) (h : History) → IsLawful is_valid h → IsSoundBase is_valid (base_of h)
base_sound is_valid (Start base) lawful = lawful
base_sound is_valid (After w h) lawful = base_sound is_valid h lawful.2

pub bound : (h : History) (key : Key) → IsBase (base_of h) → (slot h key).version ≤ position h
unfolding slot state
bound (Start base) key is_base = elim (cases_lt 0 (slot_in base.slots key).version) [
  | inl some ↦ let p = placed base.slots key some in (is_base.versions p.0 (key, slot_in base.slots key) p.1).1
  | inr none ↦ omega (arith, none)
]
bound (After w h) key is_base = elim (version-put w h key) [
  | inl e ↦ omega (arith, e.1)
  | inr e ↦ let s = ap (λ (x : Slot). x.version) e.1 in omega (arith, s, bound h key is_base)
]

pub nothing : (h : History) (key : Key) → IsBase (base_of h) → (slot h key).version ≡ 0 → slot h key ≡ never_written
unfolding slot state
nothing (Start base) key is_base is = elim (there_or_never base.slots key) [
  | inl e ↦ e
  | inr p ↦ absurd (omega (arith, is, (is_base.versions p.0 (key, slot_in base.slots key) p.1).0))
]
nothing (After w h) key is_base is = elim (version-put w h key) [
  | inl e ↦ absurd (omega (arith, e.1, is))
  | inr e ↦ e.1 ∙ nothing h key is_base (sym (ap (λ (x : Slot). x.version) e.1) ∙ is)
]

-- two keys have no version in common
pub apart : (h : History) (a b : Key) → IsBase (base_of h) → 0 < (slot h a).version → (slot h a).version ≡ (slot h b).version → a ≡ b
unfolding slot state
apart (Start base) a b is_base some same =
    let p = placed base.slots a some in
    let q = placed base.slots b (omega (arith, some, same)) in
    let i : p.0 ≡ q.0 = is_base.distinct p.0 q.0 (a, slot_in base.slots a) (b, slot_in base.slots b) p.1 q.1 same in
    let both : Some (a, slot_in base.slots a) ≡ Some (b, slot_in base.slots b) = sym p.1 ∙ ap (λ n. slice_get base.slots n) i ∙ q.1 in
    ap (λ (o : Option (Key × Slot)). key_in o) both
  where
    key_in : Option (Key × Slot) → Key
    key_in None = a
    key_in (Some e) = e.0
apart (After w h) a b is_base some same = both (version-put w h a) (version-put w h b) (apart h a b is_base)
  where
    Put : Key → Type 0
    Put k = ((w.key ≡ k) × ((slot (After w h) k).version ≡ position h + 1)) ⊎ ((w.key ≢ k) × (slot (After w h) k ≡ slot h k))

    both : Put a → Put b → (0 < (slot h a).version → (slot h a).version ≡ (slot h b).version → a ≡ b) → a ≡ b
    both (inl e) (inl f) rest = sym e.0 ∙ f.0
    both (inl e) (inr f) rest = absurd (let s = ap (λ (x : Slot). x.version) f.1 in omega (arith, e.1, same, s, bound h b is_base))
    both (inr e) (inl f) rest = absurd (let s = ap (λ (x : Slot). x.version) e.1 in omega (arith, f.1, same, s, bound h a is_base))
    both (inr e) (inr f) rest =
        let s : (slot (After w h) a).version ≡ (slot h a).version = ap (λ (x : Slot). x.version) e.1 in
        let t : (slot (After w h) b).version ≡ (slot h b).version = ap (λ (x : Slot). x.version) f.1 in
        rest (omega (arith, s, some)) (sym s ∙ same ∙ t)

Kept : History → History → Key → Type 0
Kept old new key = ((slot old key).version ≤ (slot new key).version) × ((slot old key).version ≡ (slot new key).version → slot old key ≡ slot new key)

kept : {old h : History} → IsOlder old h → (key : Key) → IsBase (base_of h) → Kept old h key
unfolding Kept
kept now key is_base = (omega arith, λ e. refl)
kept {old} (back {w} {g = h} older) key is_base = one_more (kept older key is_base)
  where
    one_more : Kept old h key → Kept old (After w h) key
    one_more so_far = elim (version-put w h key) [
      | inl e ↦ (omega (arith, e.1, so_far.0, bound h key is_base), λ is. absurd (omega (arith, e.1, so_far.0, is, bound h key is_base)))
      | inr e ↦
          let s = ap (λ (x : Slot). x.version) e.1 in
          (omega (arith, s, so_far.0), λ is. so_far.1 (is ∙ s) ∙ sym e.1)
    ]

pub grows : (h : History) (a : ℕ) (key : Key) → IsBase (base_of h) → (slot (first_writes a h) key).version ≤ (slot h key).version
unfolding Kept
grows h a key is_base = (kept (first_older a h) key is_base).0

pub same : (h : History) (a : ℕ) (key : Key) → IsBase (base_of h) → (slot (first_writes a h) key).version ≡ (slot h key).version → slot (first_writes a h) key ≡ slot h key
unfolding Kept
same h a key is_base is = (kept (first_older a h) key is_base).1 is

pub seen : (h : History) (namespace : List ℕ) (a : ℕ) (key : Key) → IsBase (base_of h) → is_visible namespace key ≡ true
    → (slot_in (view h namespace a).slots key).version ≡ (slot h key).version → slot_in (view h namespace a).slots key ≡ slot h key
seen h namespace a key is_base visible is =
    let old = slot_in-view h namespace a key visible in
    old ∙ same h a key is_base (sym (ap (λ (x : Slot). x.version) old) ∙ is)
