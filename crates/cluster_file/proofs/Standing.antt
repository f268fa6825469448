-- What whole files stand for.
use Rattle.std.proofs.Common.{◌≡◌, ◌≢◌, ◌≤◌, ◌<◌, ◌+◌, ◌-◌, ◌⊎◌, inl, inr, Bool, true, false, cond, ℕ, suc, List, [], ◌∷◌, ◌++◌, length, take, drop, refl, sym, ap, ◌∙◌, subst, arith, append_assoc, length-append, length-take, take-append-drop, None}
use Rattle.std.specs.Prelude.{nat_eq}
use Rattle.std.specs.Cmp.Lexicographic.{pointwise}
use Rattle.std.proofs.lemmas.Bool.{and_parts, and_from, cases_lt, eq-eqb, eqb-true, lt-ltb, le-ltb}
use Rattle.std.proofs.lemmas.List.{take_at, drop_at}
use Rattle.cluster_objects.specs.Keys.{same_text}
use Rattle.cluster_objects.specs.declared.objects.Write.{Write}
use Rattle.cluster_history.specs.History.{History, Start, IsHistory, empty}
use Rattle.payloads.specs.Laws.{AreBytes}
use Rattle.payloads.proofs.Combinators.{AreBytes-rest}
use Rattle.cluster_file.specs.Files.{Standing, Stands, Damaged, header, is_more, next_record, standing_from, stands, history_of, history_in}
use Rattle.cluster_file.specs.Writing.{AreWrites, HoldsWrites, IsDamagedAfter, history_after, place_after, records}
use Rattle.cluster_file.proofs.Walking.{Ends, reads, walked, closed_gate, broken_gate, reads_history, records-none, count-records, some_length}

-- ---- texts

same_text-refl : (text : List ℕ) → same_text text text ≡ true
same_text-refl [] = refl
same_text-refl (x ∷ xs) = and_from (nat_eq x x) (pointwise nat_eq xs xs) (eq-eqb x x refl) (same_text-refl xs)

same_text-true : (a b : List ℕ) → same_text a b ≡ true → a ≡ b
same_text-true [] [] e = refl
same_text-true [] (y ∷ ys) e = absurd cc
same_text-true (x ∷ xs) [] e = absurd cc
same_text-true (x ∷ xs) (y ∷ ys) e =
    let parts = and_parts (nat_eq x y) (pointwise nat_eq xs ys) e in
    let first = eqb-true x y parts.0 in
    let rest = same_text-true xs ys parts.1 in
    cc

same_text-false : (a b : List ℕ) → a ≢ b → same_text a b ≡ false
same_text-false a b apart = by_test (same_text a b) refl
  where
    by_test : (t : Bool) → same_text a b ≡ t → t ≡ false
    by_test true is = absurd (apart (same_text-true a b is))
    by_test false is = refl

-- ---- the header

pub length-header : length header ≡ 8
unfolding header
length-header = refl

pub place-none : place_after [] ≡ 8
unfolding place_after
place-none = omega (arith, ap length records-none)

place-is : (ws : List Write) → place_after ws ≡ 8 + length (records ws)
unfolding place_after
place-is ws = refl

chosen : List ℕ → Bool → Standing
chosen bytes same = cond same (standing_from (length bytes) (Start empty) 8 (drop 8 bytes)) (Damaged 0)

chosen-true : (bytes : List ℕ) → chosen bytes true ≡ standing_from (length bytes) (Start empty) 8 (drop 8 bytes)
unfolding chosen
chosen-true bytes = refl

chosen-false : (bytes : List ℕ) → chosen bytes false ≡ Damaged 0
unfolding chosen
chosen-false bytes = refl

stands_long : (bytes : List ℕ) → 9 < length bytes → stands bytes ≡ chosen bytes (same_text (take 8 bytes) header)
unfolding stands chosen
stands_long bytes long =
    ap
    (λ b. cond b (cond (same_text (take 8 bytes) header) (standing_from (length bytes) (Start empty) 8 (drop 8 bytes)) (Damaged 0)) (Stands (Start empty) 8))
    (lt-ltb 9 (length bytes) long)

pub stands_short : (bytes : List ℕ) → length bytes ≤ 9 → stands bytes ≡ Stands (Start empty) 8
unfolding stands
stands_short bytes short =
    ap
    (λ b. cond b (cond (same_text (take 8 bytes) header) (standing_from (length bytes) (Start empty) 8 (drop 8 bytes)) (Damaged 0)) (Stands (Start empty) 8))
    (le-ltb 9 (length bytes) short)

pub other_header : (bytes : List ℕ) → 9 < length bytes → take 8 bytes ≢ header → stands bytes ≡ Damaged 0
other_header bytes long apart = stands_long bytes long ∙ ap (chosen bytes) (same_text-false (take 8 bytes) header apart) ∙ chosen-false bytes

pub same_header : (bytes : List ℕ) → 9 < length bytes → take 8 bytes ≡ header → stands bytes ≡ standing_from (length bytes) (Start empty) 8 (drop 8 bytes)
same_header bytes long same =
    stands_long bytes long
    ∙ ap (λ (l : List ℕ). chosen bytes (same_text l header)) same
    ∙ ap (chosen bytes) (same_text-refl header)
    ∙ chosen-true bytes

-- ---- from the writes to what the file stands for

file_length : (ws : List Write) (tail bytes : List ℕ) → bytes ≡ header ++ records ws ++ tail → length bytes ≡ 8 + length (records ws) + length tail
file_length ws tail bytes is = omega (arith, ap length is, length-append (header ++ records ws) tail, length-append header (records ws), length-header)

-- what stands behind the writes is left to read
pub file_read : (bytes tail : List ℕ) (ws : List Write) → AreWrites ws → is_more tail ≡ true → bytes ≡ header ++ records ws ++ tail → 9 < length bytes
    → (n : ℕ) × (stands bytes ≡ standing_from (suc n) (history_after ws) (place_after ws) tail)
file_read bytes tail ws are some is long =
    let n = length bytes - length ws - 1 in
    let bound : length bytes ≡ length ws + suc n = omega (arith, file_length ws tail bytes is, count-records ws, some_length tail some) in
    let is' : bytes ≡ header ++ (records ws ++ tail) = is ∙ append_assoc header (records ws) tail in
    let front : take 8 bytes ≡ header = ap (take 8) is' ∙ take_at header (records ws ++ tail) 8 length-header in
    let rest : drop 8 bytes ≡ records ws ++ tail = ap (drop 8) is' ∙ drop_at header (records ws ++ tail) 8 length-header in (
      n,
      same_header bytes long front
          ∙ ap (λ (l : List ℕ). standing_from (length bytes) (Start empty) 8 l) rest
          ∙ ap (λ m. standing_from m (Start empty) 8 (records ws ++ tail)) bound
          ∙ walked (suc n) (Start empty) 8 ws tail are.fit are.agree some
          ∙ ap (λ p. standing_from (suc n) (history_after ws) p tail) (sym (place-is ws)),
    )

no_records : (ws : List Write) → length (records ws) ≤ 0 → ws ≡ []
no_records [] short = refl
no_records (w ∷ ws) short = absurd (omega (arith, count-records (w ∷ ws), short))

pub written : (bytes : List ℕ) (ws : List Write) → AreWrites ws → HoldsWrites bytes ws → stands bytes ≡ Stands (history_after ws) (place_after ws)
written bytes ws are holds = elim (cases_lt 9 (length bytes)) [
  | inl long ↦ let r = file_read bytes (holds.gate ∷ holds.rest) ws are refl holds.whole long in
      r.1 ∙ closed_gate r.0 (history_after ws) (place_after ws) holds.gate holds.rest holds.closed
  | inr short ↦ let none : ws ≡ [] = no_records ws (omega (arith, short, file_length ws (holds.gate ∷ holds.rest) bytes holds.whole)) in
      stands_short bytes short ∙ ap (Stands (Start empty)) (sym place-none) ∙ ap (λ (vs : List Write). Stands (history_after vs) (place_after vs)) (sym none)
]

pub damaged_after : (bytes : List ℕ) (ws : List Write) → 9 < length bytes → AreWrites ws → IsDamagedAfter bytes ws → stands bytes ≡ Damaged (place_after ws)
damaged_after bytes ws long are damaged =
    let r = file_read bytes (1 ∷ damaged.behind) ws are refl damaged.whole long in
    r.1 ∙ broken_gate r.0 (history_after ws) (place_after ws) damaged.behind damaged.none

-- ---- from what the file stands for to its writes

rest_are : (bytes : List ℕ) → AreBytes bytes → AreBytes (drop 8 bytes)
rest_are bytes are = AreBytes-rest (take 8 bytes) (drop 8 bytes) bytes are (sym (take-append-drop 8 bytes))

some_from : (bytes : List ℕ) → 0 < length bytes → is_more bytes ≡ true
some_from [] some = absurd (omega (arith, some))
some_from (b ∷ bytes) some = refl

-- where the header is there, all behind it was read
file_ends : (bytes : List ℕ) → AreBytes bytes → 9 < length bytes → Ends (Start empty) 8 (drop 8 bytes) (standing_from (length bytes) (Start empty) 8 (drop 8 bytes))
file_ends bytes are long =
    let sizes : length (take 8 bytes) + length (drop 8 bytes) ≡ length bytes = sym (length-append (take 8 bytes) (drop 8 bytes)) ∙ ap length (take-append-drop 8 bytes) in
    let front : length (take 8 bytes) ≤ 8 = omega (arith, length-take 8 bytes) in
    reads (length bytes) (Start empty) 8 (drop 8 bytes) (rest_are bytes are) (some_from (drop 8 bytes) (omega (arith, sizes, front, long))) (omega (arith, sizes))

whole_file : (bytes tail : List ℕ) (ws : List Write) → take 8 bytes ≡ header → drop 8 bytes ≡ records ws ++ tail → bytes ≡ header ++ records ws ++ tail
whole_file bytes tail ws front rest = sym (take-append-drop 8 bytes) ∙ ap (λ (l : List ℕ). l ++ drop 8 bytes) front ∙ ap (λ (l : List ℕ). header ++ l) rest ∙ sym (append_assoc header (records ws) tail)

-- what a file that isn't short stands for, with its writes
abbrev pub Found : List ℕ → Standing → Type 0
Found bytes (Stands h place) = (ws : List Write) × AreWrites ws × HoldsWrites bytes ws × (h ≡ history_after ws) × (place ≡ place_after ws)
Found bytes (Damaged at) = ((at ≡ 0) × (take 8 bytes ≢ header)) ⊎ ((ws : List Write) × AreWrites ws × IsDamagedAfter bytes ws × (at ≡ place_after ws))

found_by : (bytes : List ℕ) → take 8 bytes ≡ header → (s : Standing) → Ends (Start empty) 8 (drop 8 bytes) s → Found bytes s
found_by bytes front (Stands h place) e =
    let p = e.3 in (
      e.0,
      record { fit = p.fit; agree = subst IsHistory p.now_is (p.agree tt) },
      record { gate = e.1; rest = e.2; closed = e.4; whole = whole_file bytes (e.1 ∷ e.2) e.0 front p.whole },
      p.now_is,
      p.at_is ∙ sym (place-is e.0),
    )
found_by bytes front (Damaged at) e =
    let p = e.3 in
    inr (
      e.0,
      record { fit = p.fit; agree = subst IsHistory p.now_is (p.agree tt) },
      record { behind = e.1; whole = whole_file bytes (1 ∷ e.1) e.0 front p.whole; none = subst (λ h. next_record h e.1 ≡ None) p.now_is e.4 },
      p.at_is ∙ sym (place-is e.0),
    )

pub found : (bytes : List ℕ) → AreBytes bytes → 9 < length bytes → Found bytes (stands bytes)
found bytes are long = subst (Found bytes) (sym (stands_long bytes long)) (by_header (same_text (take 8 bytes) header) refl)
  where
    by_header : (b : Bool) → same_text (take 8 bytes) header ≡ b → Found bytes (chosen bytes b)
    by_header true is = subst (Found bytes) (sym (chosen-true bytes)) (found_by bytes (same_text-true (take 8 bytes) header is) _ (file_ends bytes are long))
    by_header false is = subst (Found bytes) (sym (chosen-false bytes)) (inl (refl, λ e. let t : same_text (take 8 bytes) header ≡ true = ap (λ (l : List ℕ). same_text l header) e ∙ same_text-refl header in cc))

pub found_writes : (bytes : List ℕ) (h : History) (place : ℕ) → AreBytes bytes → 9 < length bytes → stands bytes ≡ Stands h place
    → (ws : List Write) × AreWrites ws × HoldsWrites bytes ws × (h ≡ history_after ws) × (place ≡ place_after ws)
found_writes bytes h place are long e = subst (Found bytes) e (found bytes are long)

pub found_damage : (bytes : List ℕ) (at : ℕ) → AreBytes bytes → stands bytes ≡ Damaged at
    → (9 < length bytes) × (((at ≡ 0) × (take 8 bytes ≢ header)) ⊎ ((ws : List Write) × AreWrites ws × IsDamagedAfter bytes ws × (at ≡ place_after ws)))
found_damage bytes at are e = elim (cases_lt 9 (length bytes)) [
  | inl long ↦ (long, subst (Found bytes) e (found bytes are long))
  | inr short ↦ let s = stands_short bytes short in absurd cc
]

-- ---- what is read is a history

chosen_history : (bytes : List ℕ) (b : Bool) → IsHistory (history_of (chosen bytes b))
unfolding chosen
chosen_history bytes true = reads_history (length bytes) (Start empty) 8 (drop 8 bytes) tt
chosen_history bytes false = tt

pub is_history : (bytes : List ℕ) → IsHistory (history_in bytes)
is_history bytes = elim (cases_lt 9 (length bytes)) [
  | inl long ↦ subst (λ s. IsHistory (history_of s)) (sym (stands_long bytes long)) (chosen_history bytes (same_text (take 8 bytes) header))
  | inr short ↦ subst (λ s. IsHistory (history_of s)) (sym (stands_short bytes short)) tt
]
