-- The file after each of the two writes of a record, whole or torn.
use Rattle.std.proofs.Common.{◌≡◌, ◌≢◌, ◌≤◌, ◌<◌, ◌+◌, ◌⊎◌, inl, inr, ℕ, List, [], ◌∷◌, ◌++◌, length, take, drop, get_or, set, Result, Ok, Err, OnOk, refl, sym, ap, ◌∙◌, subst, arith, append_assoc, length-append, length-take, length-set, get_or-take, get_or-set_other, get_or-set_same}
use Rattle.std.proofs.Math.Seq.{set-append_seam}
use Rattle.std.proofs.lemmas.List.{ext_get_or, drop-drop, take_at, drop_at}
use Rattle.std.proofs.lemmas.Bool.{cases_eq, cases_lt}
use Rattle.cluster_objects.specs.declared.objects.Write.{Write}
use Rattle.cluster_file.specs.Files.{header}
use Rattle.cluster_file.specs.Writing.{HoldsWrites, piece, place_after, records}
use Rattle.cluster_file.proofs.Gates.{held_behind, gate_opened, gate_closed}
use Rattle.cluster_file.proofs.Standing.{length-header}
use Rattle.olm_disk.specs.Disk.{Pending, Torn, nothing_pending, written}
use Rattle.olm_io.specs.declared.traits.Outage.{Outage}
use Rattle.olm_io.specs.declared.traits.Outage.TheVariants as outage
use Rattle.log_file.specs.Log.{AddsRecord, IsSettled}

-- ---- lists

-- a torn write keeps what is before it
pub kept_front : (at count : ℕ) (old new : List ℕ) → at ≤ length old → Torn at count old new → take at new ≡ take at old
kept_front at count old new within torn =
    ext_get_or 0 (take at new) (take at old) (omega (arith, length-take at new, length-take at old, torn.shortest, within))
    (λ i lt. let lt' : i < at = omega (arith, lt, length-take at new) in rw (get_or-take, get_or-take) (torn.stays i (omega (arith, lt', within)) (inl lt')))

module _ (front : List ℕ) (g : ℕ) (rest : List ℕ) where
  long : length (front ++ g ∷ rest) ≡ length front + 1 + length rest
  long = omega (arith, length-append front (g ∷ rest))

  pub size : length front + 1 ≤ length (front ++ g ∷ rest)
  size = omega (arith, long)

  regrouped : front ++ g ∷ rest ≡ (front ++ g ∷ []) ++ rest
  regrouped = sym (append_assoc front (g ∷ []) rest)

  to_gate : take (length front + 1) (front ++ g ∷ rest) ≡ front ++ g ∷ []
  to_gate = ap (take (length front + 1)) regrouped ∙ take_at (front ++ g ∷ []) rest (length front + 1) (omega (arith, length-append front (g ∷ [])))

  past_gate : drop (length front + 1) (front ++ g ∷ rest) ≡ rest
  past_gate = ap (drop (length front + 1)) regrouped ∙ drop_at (front ++ g ∷ []) rest (length front + 1) (omega (arith, length-append front (g ∷ [])))

  -- a write of the gate leaves all else
  pub torn_gate : (image : List ℕ) → Torn (length front) 1 (front ++ g ∷ rest) image → image ≡ front ++ get_or image (length front) 0 ∷ rest
  torn_gate image torn =
      let x = get_or image (length front) 0 in
      let lengths : length image ≡ length (set (front ++ g ∷ rest) (length front) x) = simp length-set (omega (arith, torn.shortest, torn.longest, size)) in
      ext_get_or 0 image (set (front ++ g ∷ rest) (length front) x) lengths (λ i lt. by_place i x refl (omega (arith, lt, torn.longest, size)) (cases_eq i (length front)))
      ∙ set-append_seam front g rest x
    where
      sides : (i : ℕ) → (i ≡ length front → ⊥) → (i < length front) ⊎ (length front + 1 ≤ i)
      sides i ne = elim (cases_lt i (length front)) [ inl a ↦ inl a | inr b ↦ inr (omega arith) ]

      by_place : (i x : ℕ) → x ≡ get_or image (length front) 0 → i < length (front ++ g ∷ rest) → (i ≡ length front) ⊎ (i ≡ length front → ⊥) → get_or image i 0 ≡ get_or (set (front ++ g ∷ rest) (length front) x) i 0
      by_place i x is lt (inl e) = ap (λ n. get_or image n 0) e ∙ sym is ∙ sym (ap (λ n. get_or (set (front ++ g ∷ rest) (length front) x) n 0) e ∙ get_or-set_same (front ++ g ∷ rest) (length front) x 0 (omega (arith, size)))
      by_place i x is lt (inr ne) = torn.stays i lt (sides i ne) ∙ sym (get_or-set_other (front ++ g ∷ rest) (length front) i x 0 ne)

  pub written_behind : (piece : List ℕ) → written (length front + 1) piece (front ++ g ∷ rest) ≡ front ++ g ∷ (piece ++ drop (length piece) rest)
  written_behind piece =
      ap (λ (l : List ℕ). l ++ piece ++ drop (length front + 1 + length piece) (front ++ g ∷ rest)) to_gate
      ∙ ap (λ (l : List ℕ). (front ++ g ∷ []) ++ piece ++ l) (sym (drop-drop (length piece) (length front + 1) (front ++ g ∷ rest)) ∙ ap (drop (length piece)) past_gate)
      ∙ append_assoc (front ++ g ∷ []) piece (drop (length piece) rest) ∙ append_assoc front (g ∷ []) (piece ++ drop (length piece) rest)

  pub written_gate : written (length front) (1 ∷ []) (front ++ g ∷ rest) ≡ front ++ 1 ∷ rest
  written_gate =
      ap (λ (l : List ℕ). l ++ (1 ∷ []) ++ drop (length front + 1) (front ++ g ∷ rest)) (take_at front (g ∷ rest) (length front) refl)
      ∙ ap (λ (l : List ℕ). (front ++ 1 ∷ []) ++ l) past_gate ∙ append_assoc front (1 ∷ []) rest

-- ---- files

pub front_length : (ws : List Write) → length (header ++ records ws) ≡ place_after ws
unfolding place_after
front_length ws = omega (arith, length-append header (records ws), length-header)

-- the last gate is in the file
pub gate_within : (content : List ℕ) (ws : List Write) → HoldsWrites content ws → place_after ws + 1 ≤ length content
gate_within content ws holds = omega (arith, front_length ws, ap length holds.whole, size (header ++ records ws) holds.gate holds.rest)

-- a torn write behind the gate leaves the writes
pub torn_behind : (count : ℕ) (old new : List ℕ) (ws : List Write) → HoldsWrites old ws → Torn (place_after ws + 1) count old new → HoldsWrites new ws
torn_behind count old new ws holds torn = held_behind old new ws holds (kept_front (place_after ws + 1) count old new (gate_within old ws holds) torn)

-- the record stands whole behind the closed gate, all of it durable
pub record IsStaged (content : List ℕ) (pending : Pending) (ws : List Write) (w : Write) : Type 0 where
  pub gate : ℕ
  pub rest : List ℕ
  pub closed : gate ≢ 1
  pub whole : content ≡ header ++ records ws ++ gate ∷ (piece w 0 ++ rest)
  pub durable : pending ≡ nothing_pending content

pub staged : (old new : List ℕ) (after : Pending) (ws : List Write) (w : Write) → HoldsWrites old ws → new ≡ written (place_after ws + 1) (piece w 0) old → after ≡ nothing_pending new → IsStaged new after ws w
staged old new after ws w holds is durable =
    let front = header ++ records ws in
    record {
      gate = holds.gate;
      rest = drop (length (piece w 0)) holds.rest;
      closed = holds.closed;
      whole = is ∙ ap (λ n. written (n + 1) (piece w 0) old) (sym (front_length ws)) ∙ ap (λ (l : List ℕ). written (length front + 1) (piece w 0) l) holds.whole ∙ written_behind front holds.gate holds.rest (piece w 0);
      durable = durable;
    }

pub still_holds : (content : List ℕ) (pending : Pending) (ws : List Write) (w : Write) → IsStaged content pending ws w → HoldsWrites content ws
still_holds content pending ws w s = record { gate = s.gate; rest = piece w 0 ++ s.rest; closed = s.closed; whole = s.whole }

not_one : ◌≢◌ {A = ℕ} 0 1
not_one e = omega (arith, e)

-- whatever byte stands at the gate
by_gate : (ws : List Write) (w : Write) (rest : List ℕ) (g : ℕ) → HoldsWrites (header ++ records ws ++ g ∷ (piece w 0 ++ rest)) ws ⊎ HoldsWrites (header ++ records ws ++ g ∷ (piece w 0 ++ rest)) (ws ++ w ∷ [])
by_gate ws w rest g = elim (cases_eq g 1) [
  | inl is ↦ inr (subst (λ x. HoldsWrites (header ++ records ws ++ x ∷ (piece w 0 ++ rest)) (ws ++ w ∷ [])) (sym is) (gate_opened ws w 0 rest not_one))
  | inr ne ↦ inl (gate_closed ws w g 0 rest ne)
]

pub gate_torn : (mid new : List ℕ) (pending : Pending) (ws : List Write) (w : Write) → IsStaged mid pending ws w → Torn (place_after ws) 1 mid new → HoldsWrites new ws ⊎ HoldsWrites new (ws ++ w ∷ [])
gate_torn mid new pending ws w s torn =
    let front = header ++ records ws in
    let rest = piece w 0 ++ s.rest in
    let t : Torn (length front) 1 (front ++ s.gate ∷ rest) new = subst (λ (l : List ℕ). Torn (length front) 1 l new) s.whole (subst (λ n. Torn n 1 mid new) (sym (front_length ws)) torn) in
    subst (λ (l : List ℕ). HoldsWrites l ws ⊎ HoldsWrites l (ws ++ w ∷ [])) (sym (torn_gate front s.gate rest new t)) (by_gate ws w s.rest (get_or new (length front) 0))

pub gate_written : (mid new : List ℕ) (pending after : Pending) (ws : List Write) (w : Write) → IsStaged mid pending ws w → new ≡ written (place_after ws) (1 ∷ []) mid → after ≡ nothing_pending new → IsSettled new after (ws ++ w ∷ [])
gate_written mid new pending after ws w s is durable =
    let front = header ++ records ws in
    let rest = piece w 0 ++ s.rest in
    let whole : new ≡ front ++ 1 ∷ rest = is ∙ ap (λ n. written n (1 ∷ []) mid) (sym (front_length ws)) ∙ ap (λ (l : List ℕ). written (length front) (1 ∷ []) l) s.whole ∙ written_gate front s.gate rest in
    record { holds = subst (λ (l : List ℕ). HoldsWrites l (ws ++ w ∷ [])) (sym whole) (gate_opened ws w 0 s.rest not_one); durable = durable }

-- ---- the answers of the two writes

pub first_fails : (e : Outage) (gate count : ℕ) (old new : List ℕ) (before after : Pending) (ws : List Write) (w : Write) → gate ≡ place_after ws → IsSettled old before ws
    → (e ≡ outage.Failed → Torn (gate + 1) count old new) → (e ≡ outage.Memory → (new ≡ old) × (after ≡ before)) → AddsRecord new after ws w (Err e)
first_fails outage.Failed gate count old new before after ws w at s torn memory =
    inl (torn_behind count old new ws s.holds (subst (λ n. Torn (n + 1) count old new) at (torn refl)))
first_fails outage.Memory gate count old new before after ws w at s torn memory =
    let same = memory refl in
    record { holds = subst (λ (l : List ℕ). HoldsWrites l ws) (sym same.0) s.holds; durable = same.1 ∙ s.durable ∙ ap nothing_pending (sym same.0) }

pub second_ends : (result : Result Unit Outage) (gate : ℕ) (mid new : List ℕ) (before after : Pending) (ws : List Write) (w : Write) → gate ≡ place_after ws → IsStaged mid before ws w
    → OnOk result (new ≡ written gate (1 ∷ []) mid) → OnOk result (after ≡ nothing_pending new) → (result ≡ Err outage.Failed → Torn gate 1 mid new) → (result ≡ Err outage.Memory → (new ≡ mid) × (after ≡ before))
    → AddsRecord new after ws w result
second_ends (Ok done) gate mid new before after ws w at s is durable torn memory = gate_written mid new before after ws w s (is ∙ ap (λ n. written n (1 ∷ []) mid) at) durable
second_ends (Err outage.Failed) gate mid new before after ws w at s is durable torn memory = gate_torn mid new before ws w s (subst (λ n. Torn n 1 mid new) at (torn refl))
second_ends (Err outage.Memory) gate mid new before after ws w at s is durable torn memory =
    let same = memory refl in
    record { holds = subst (λ (l : List ℕ). HoldsWrites l ws) (sym same.0) (still_holds mid before ws w s); durable = same.1 ∙ s.durable ∙ ap nothing_pending (sym same.0) }
