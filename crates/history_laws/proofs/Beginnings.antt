-- Beginnings of a history: their lengths, and beginnings of them.
use Rattle.std.proofs.Common.{◌≡◌, ◌≤◌, ◌+◌, ◌-◌, ℕ, zero, suc, List, refl, sym, ap, ◌∙◌, arith, inl, inr, subst}
use Rattle.std.specs.List.{filter}
use Rattle.std.proofs.lemmas.Bool.{cases_lt}
use Rattle.cluster_objects.specs.declared.keys.Key.{Key}
use Rattle.cluster_history.specs.History.{History, Start, After, IsBase, base_of, earlier, first_writes, position, slot, state}
use Rattle.cluster_history.specs.Views.{View, view, is_visible}
use Rattle.cluster_history.specs.declared.slots.Base.{Base}
use Rattle.cluster_history.proofs.Seeing.{first-after}
use Rattle.history_laws.proofs.Keeping.{same}

start : (n : ℕ) (base : Base) → earlier n (Start base) ≡ Start base
start zero base = refl
start (suc n) base = refl

pub whole : (h : History) (a : ℕ) → position h ≤ a → first_writes a h ≡ h
whole h a low = ap (λ n. earlier n h) (let e : position h - a ≡ zero = omega (arith, low) in e)

pub nest : (h : History) (a b : ℕ) → a ≤ b → first_writes a (first_writes b h) ≡ first_writes a h
nest (Start base) a b low = ap (first_writes a) (start (base.length - b) base)
nest (After w h) a b low = elim (cases_lt (position h) b) [
  | inl past ↦ ap (first_writes a) (whole (After w h) b (omega (arith, past)))
  | inr within ↦ ap (first_writes a) (first-after w h b within) ∙ nest h a b low ∙ sym (first-after w h a (omega (arith, low, within)))
]

pub length_of : (h : History) (a : ℕ) → (base_of h).length ≤ a → a ≤ position h → position (first_writes a h) ≡ a
length_of (Start base) a low high = ap position (start (base.length - a) base) ∙ (let e : base.length ≡ a = omega (arith, low, high) in e)
length_of (After w h) a low high = elim (cases_lt (position h) a) [
  | inl past ↦ ap position (whole (After w h) a (omega (arith, past))) ∙ (let e : position h + 1 ≡ a = omega (arith, past, high) in e)
  | inr within ↦ ap position (first-after w h a within) ∙ length_of h a low within
]

pub base_stays : (h : History) (a : ℕ) → base_of (first_writes a h) ≡ base_of h
base_stays (Start base) a = ap base_of (start (base.length - a) base)
base_stays (After w h) a = elim (cases_lt (position h) a) [
  | inl past ↦ ap base_of (whole (After w h) a (omega (arith, past)))
  | inr within ↦ ap base_of (first-after w h a within) ∙ base_stays h a
]

pub view_of : (h : History) (namespace : List ℕ) (a b : ℕ) → a ≤ b → view (first_writes b h) namespace a ≡ view h namespace a
view_of h namespace a b low =
    ap (λ (g : History). let v : View = record { namespace = namespace; length = a; slots = filter (λ e. is_visible namespace e.0) (state g) } in v) (nest h a b low)

-- between two older lengths
pub between : (h : History) (a b : ℕ) (key : Key) → IsBase (base_of h) → a ≤ b → (slot (first_writes a h) key).version ≡ (slot (first_writes b h) key).version
    → slot (first_writes a h) key ≡ slot (first_writes b h) key
between h a b key is_base low is =
    let nested = nest h a b low in
    let based : IsBase (base_of (first_writes b h)) = subst IsBase (sym (base_stays h b)) is_base in
    ap (λ g. slot g key) (sym nested) ∙ same (first_writes b h) a key based (ap (λ g. (slot g key).version) nested ∙ is)
