-- Walks and their prefixes, and the walk of zeros.
use Rattle.std.proofs.Common.{◌≡◌, ℕ, zero, suc, ◌<◌, List, [], ◌∷◌, ◌++◌, refl, sym, ap, ◌∙◌, subst, arith, inl, inr, Option, Some, None, length, take, drop, get_or, slice_get, append_assoc, drop-cons}
use Rattle.std.proofs.Math.Seq.{drop-append_seam}
use Rattle.std.specs.Option.{option_and_then, option_map, option_map_or}
use Rattle.std.proofs.lemmas.List.{length-append, append-nil, take-append-drop}
use Rattle.std.proofs.lemmas.Option.{slice_get_within}
use Rattle.op_constraints.specs.declared.Constraint.{Constraint}
use Rattle.op_constraints.specs.Walks.{mandatory, waiting, first_of, choice, member, walk_from, walk, picks, zeros, IsFull, IsBefore, IsBest, IsFirstWalk, Succeeds}
use Rattle.op_constraints.proofs.WalkLaws.{under}
use Rattle.op_constraints.proofs.Order.{before_cases}
use Rattle.op_constraints.proofs.Steps.{chained, walk-step, one_more}

-- A walk goes on from where the first numbers lead

pub walk_from-append : (problem : List (List Constraint)) (chosen js ks : List ℕ) → walk_from problem chosen (js ++ ks) ≡ option_and_then (λ end. walk_from problem end ks) (walk_from problem chosen js)
walk_from-append problem chosen [] ks = refl
walk_from-append problem chosen (j ∷ js) ks =
    chained (member (waiting problem chosen) j) (λ v. walk_from problem (chosen ++ v ∷ []) (js ++ ks)) (λ v. walk_from problem (chosen ++ v ∷ []) js) (λ end. walk_from problem end ks)
    (λ v. walk_from-append problem (chosen ++ v ∷ []) js ks)

pub walk-append : (problem : List (List Constraint)) (js ks : List ℕ) → walk problem (js ++ ks) ≡ option_and_then (λ end. walk_from problem end ks) (walk problem js)
walk-append problem js ks = walk_from-append problem (mandatory problem) js ks

map-then : (o : Option ℕ) (f : ℕ → List ℕ) → option_and_then (λ v. Some (f v)) o ≡ option_map f o
map-then None f = refl
map-then (Some v) f = refl

under-map : (problem : List (List Constraint)) (number : ℕ) (o : Option (List ℕ)) → option_and_then (one_more problem number) o ≡ option_and_then (λ chosen. option_map (λ v. chosen ++ v ∷ []) (member (waiting problem chosen) number)) o
under-map problem number None = refl
under-map problem number (Some chosen) = map-then (member (waiting problem chosen) number) (λ v. chosen ++ v ∷ [])

pub goes_on : (problem : List (List Constraint)) (numbers : List ℕ) (number : ℕ) → walk problem (numbers ++ number ∷ []) ≡ option_and_then (λ chosen. option_map (λ v. chosen ++ v ∷ []) (member (waiting problem chosen) number)) (walk problem numbers)
goes_on problem numbers number = walk-step problem numbers number ∙ under-map problem number (walk problem numbers)

member-below : (lists : List (List ℕ)) (k v : ℕ) → member lists k ≡ Some v → k < length (first_of lists)
member-below [] k v e = absurd (let bad : None ≡ Some v = e in cc)
member-below (ms ∷ lists) k v e = slice_get_within ms k v e

member-none : (lists : List (List ℕ)) (k : ℕ) → first_of lists ≡ [] → member lists k ≡ None
member-none [] k e = refl
member-none (ms ∷ lists) k e = ap (λ xs. slice_get xs k) e

pub found_by_numbers : (problem : List (List Constraint)) (numbers end : List ℕ) (i : ℕ) → walk problem numbers ≡ Some end → i < length numbers → (chosen : List ℕ) × (walk problem (take i numbers) ≡ Some chosen) × (get_or numbers i 0 < length (choice problem chosen))
found_by_numbers problem numbers end i w h =
    let k = get_or numbers i 0 in
    let ks = drop (suc i) numbers in
    let parts : numbers ≡ take i numbers ++ k ∷ ks = sym (take-append-drop i numbers) ∙ ap (λ xs. take i numbers ++ xs) (drop-cons numbers i 0 h) in
    let w' : option_and_then (λ e. walk_from problem e (k ∷ ks)) (walk problem (take i numbers)) ≡ Some end = sym (walk-append problem (take i numbers) (k ∷ ks)) ∙ (ap (walk problem) (sym parts) ∙ w) in
    let (chosen, is, rest) = under (λ e. walk_from problem e (k ∷ ks)) (walk problem (take i numbers)) end w' in
    let (v, at, _) = under (λ u. walk_from problem (chosen ++ u ∷ []) ks) (member (waiting problem chosen) k) end rest in
    (chosen, is, member-below (waiting problem chosen) k v at)

-- No walk goes on where there is nothing to take
pub ended : (problem : List (List Constraint)) (numbers later chosen : List ℕ) (number : ℕ) → walk problem numbers ≡ Some chosen → choice problem chosen ≡ [] → walk problem (numbers ++ number ∷ later) ≡ None
ended problem numbers later chosen number w e =
    walk-append problem numbers (number ∷ later)
    ∙ (ap (λ (o : Option (List ℕ)). option_and_then (λ end. walk_from problem end (number ∷ later)) o) w
    ∙ ap (λ (o : Option ℕ). option_and_then (λ v. walk_from problem (chosen ++ v ∷ []) later) o) (member-none (waiting problem chosen) number e))

pub no_full_prefix : (problem : List (List Constraint)) (numbers later : List ℕ) (number : ℕ) → IsFull problem numbers → walk problem (numbers ++ number ∷ later) ≡ None
no_full_prefix problem numbers later number f = ended problem numbers later f.chosen number f.walked (ap first_of f.full)

-- What is chosen

picked_from : (problem : List (List Constraint)) (chosen ks end : List ℕ) → walk_from problem chosen ks ≡ Some end → (rest : List ℕ) × (end ≡ chosen ++ rest) × (length rest ≡ length ks)
picked_from problem chosen [] end w = let same : chosen ≡ end = cc in ([], sym same ∙ sym (append-nil chosen), refl)
picked_from problem chosen (k ∷ ks) end w =
    let (v, is, later) = under (λ u. walk_from problem (chosen ++ u ∷ []) ks) (member (waiting problem chosen) k) end w in
    let (rest, same, size) = picked_from problem (chosen ++ v ∷ []) ks end later in
    (v ∷ rest, same ∙ append_assoc chosen (v ∷ []) rest, ap suc size)

pub chosen_are_picked : (problem : List (List Constraint)) (numbers chosen : List ℕ) → walk problem numbers ≡ Some chosen → (chosen ≡ mandatory problem ++ picks problem numbers) × (length (picks problem numbers) ≡ length numbers)
chosen_are_picked problem numbers chosen w =
    let m = mandatory problem in
    let (rest, same, size) = picked_from problem m numbers chosen w in
    let is : picks problem numbers ≡ rest = ap (λ (o : Option (List ℕ)). option_map_or (λ vs. drop (length m) vs) o []) w ∙ (ap (drop (length m)) same ∙ drop-append_seam m rest) in
    (same ∙ ap (λ vs. m ++ vs) (sym is), ap length is ∙ size)

-- Zeros

before-zeros : (js : List ℕ) (n : ℕ) → IsBefore js (zeros n) → (k : ℕ) × (ks : List ℕ) × (zeros n ≡ js ++ k ∷ ks)
before-zeros [] zero b = absurd b
before-zeros (j ∷ js) zero b = absurd b
before-zeros [] (suc n) b = (0, zeros n, refl)
before-zeros (j ∷ js) (suc n) (inl less) = absurd (omega (arith, less))
before-zeros (j ∷ js) (suc n) (inr b) =
    let (k, ks, e) = before-zeros js n b.1 in
    let zero_first : j ≡ 0 = b.0 in
    (k, ks, ap (λ xs. 0 ∷ xs) e ∙ ap (λ x. x ∷ (js ++ k ∷ ks)) (sym zero_first))

pub first_is_best : (problem : List (List Constraint)) (n : ℕ) → Succeeds problem (zeros n) → IsBest problem (zeros n)
first_is_best problem n s = record {
  succeeds = s;
  first = λ earlier b e.
      let (k, ks, parts) = before-zeros earlier n b in
      let gone : walk problem (zeros n) ≡ None = ap (walk problem) parts ∙ ended problem earlier ks e.chosen k e.walked (ap first_of e.full) in
      let is = s.walked in cc;
}

-- the first walk doesn't come before another
not_before : (problem : List (List Constraint)) (js ks : List ℕ) → IsFirstWalk problem js → IsFirstWalk problem ks → IsBefore js ks → ⊥
not_before problem js ks j k b =
    let P : List ℕ → Type 0 = λ ls. IsBefore js ls in
    let (m, ms, parts) = before-zeros js (length ks) (subst P k.first b) in
    let gone : walk problem ks ≡ None = ap (walk problem) (k.first ∙ parts) ∙ ended problem js ms j.chosen m j.walked j.ended in
    let is = k.walked in cc

pub one_first : (problem : List (List Constraint)) (js ks : List ℕ) → IsFirstWalk problem js → IsFirstWalk problem ks → js ≡ ks
one_first problem js ks j k =
    elim (before_cases js ks) [
      | inl e ↦ e
      | inr (inl b) ↦ absurd (not_before problem js ks j k b)
      | inr (inr b) ↦ absurd (not_before problem ks js k j b)
    ]

pub length-zeros : (n : ℕ) → length (zeros n) ≡ n
length-zeros zero = refl
length-zeros (suc n) = ap suc (length-zeros n)

pub succeeding_first : (problem : List (List Constraint)) (n : ℕ) → Succeeds problem (zeros n) → IsFirstWalk problem (zeros n)
succeeding_first problem n s = record {
  chosen = s.chosen;
  walked = s.walked;
  first = ap zeros (sym (length-zeros n));
  ended = ap first_of s.full;
}

pub zeros-push : (n : ℕ) → zeros n ++ 0 ∷ [] ≡ zeros (suc n)
zeros-push zero = refl
zeros-push (suc n) = ap (λ ks. 0 ∷ ks) (zeros-push n)

pub zeros-more : (ks : List ℕ) → ks ≡ zeros (length ks) → ks ++ 0 ∷ [] ≡ zeros (length (ks ++ 0 ∷ []))
zeros-more ks e =
    let n = length ks in
    let one = length-append ks (0 ∷ []) in
    let size : suc n ≡ length (ks ++ 0 ∷ []) = omega (arith, one) in
    ap (λ xs. xs ++ 0 ∷ []) e ∙ (zeros-push n ∙ ap zeros size)
