-- Going a walk again.
use Rattle.std.proofs.Common.{◌≡◌, ℕ, zero, suc, ◌+◌, ◌<◌, List, [], ◌∷◌, ◌++◌, length, drop, refl, sym, ap, ◌∙◌, subst, arith, Option, Some, None, get_or, slice_get, slice_index, drop-cons, add-one}
use Rattle.std.specs.Option.{option_and_then, option_map_or}
use Rattle.std.proofs.Math.Seq.{drop-append_seam}
use Rattle.op_constraints.specs.declared.Constraint.{Constraint}
use Rattle.op_constraints.specs.Walks.{choice, first_of, mandatory, member, picks, waiting, walk, walk_from}

member_get : (lists : List (List ℕ)) (n : ℕ) → member lists n ≡ slice_get (first_of lists) n
member_get [] n = refl
member_get (members ∷ lists) n = refl

get_some : (xs : List ℕ) (i : ℕ) → i < length xs → slice_get xs i ≡ Some (slice_index xs i)
get_some [] i h = absurd (omega arith)
get_some (x ∷ xs) zero h = refl
get_some (x ∷ xs) (suc i) h = get_some xs i (omega arith)

got_low : (xs : List ℕ) (i v : ℕ) → slice_get xs i ≡ Some v → i < length xs
got_low [] i v e = absurd (let bad : None ≡ Some v = e in cc)
got_low (x ∷ xs) zero v e = omega arith
got_low (x ∷ xs) (suc i) v e = let h = got_low xs i v e in omega arith

offered : (problem : List (List Constraint)) (chosen : List ℕ) (n : ℕ) → n < length (choice problem chosen)
    → member (waiting problem chosen) n ≡ Some (slice_index (choice problem chosen) n)
offered problem chosen n h = member_get (waiting problem chosen) n ∙ get_some (choice problem chosen) n h

-- where a walk goes on, the number lies in its list
goes : (problem : List (List Constraint)) (chosen numbers end : List ℕ) (n : ℕ) → walk_from problem chosen (n ∷ numbers) ≡ Some end → n < length (choice problem chosen)
goes problem chosen numbers end n e =
    let offers = member (waiting problem chosen) n in
    let at_member : (o : Option ℕ) → offers ≡ o → option_and_then (λ v. walk_from problem (chosen ++ v ∷ []) numbers) o ≡ Some end → n < length (choice problem chosen) =
    λ o. elim o as (λ o. offers ≡ o → option_and_then (λ v. walk_from problem (chosen ++ v ∷ []) numbers) o ≡ Some end → n < length (choice problem chosen)) [
      | None ↦ λ is so. absurd (let bad : None ≡ Some end = so in cc)
      | Some v ↦ λ is so. got_low (choice problem chosen) n v (sym (member_get (waiting problem chosen) n) ∙ is)
    ] in
    at_member offers refl e

pub goes_on : (problem other : List (List Constraint)) (chosen numbers : List ℕ) (i : ℕ) → other ≡ problem → i < length numbers
    → ((end : List ℕ) × (walk_from problem chosen (drop i numbers) ≡ Some end)) → get_or numbers i 0 < length (choice other chosen)
goes_on problem other chosen numbers i same h (end, e) =
    let n = get_or numbers i 0 in
    subst (λ (p : List (List Constraint)). n < length (choice p chosen)) (sym same)
    (goes problem chosen (drop (suc i) numbers) end n (ap (λ ns. walk_from problem chosen ns) (sym (drop-cons numbers i 0 h)) ∙ e))

pub walk_on : (problem other : List (List Constraint)) (chosen numbers : List ℕ) (i : ℕ) → other ≡ problem → i < length numbers
    → get_or numbers i 0 < length (choice other chosen)
    → walk_from problem chosen (drop i numbers) ≡ walk_from problem (chosen ++ slice_index (choice other chosen) (get_or numbers i 0) ∷ []) (drop (i + 1) numbers)
walk_on problem other chosen numbers i same h e =
    let n = get_or numbers i 0 in
    let low : n < length (choice problem chosen) = subst (λ (p : List (List Constraint)). n < length (choice p chosen)) same e in
    ap (λ ns. walk_from problem chosen ns) (drop-cons numbers i 0 h)
    ∙ (ap (λ o. option_and_then (λ v. walk_from problem (chosen ++ v ∷ []) (drop (suc i) numbers)) o) (offered problem chosen n low)
    ∙ (ap (λ p. walk_from problem (chosen ++ slice_index (choice p chosen) n ∷ []) (drop (suc i) numbers)) (sym same)
    ∙ ap (λ k. walk_from problem (chosen ++ slice_index (choice other chosen) n ∷ []) (drop k numbers)) (sym (add-one i))))

-- what is chosen after the mandatory ones is what the numbers pick
pub picked_are : (problem : List (List Constraint)) (numbers chosen members : List ℕ) → walk problem numbers ≡ Some chosen
    → chosen ≡ mandatory problem ++ members → members ≡ picks problem numbers
picked_are problem numbers chosen members walked same =
    sym (ap (λ o. option_map_or (λ chosen. drop (length (mandatory problem)) chosen) o []) walked
    ∙ (ap (λ vs. drop (length (mandatory problem)) vs) same
    ∙ drop-append_seam (mandatory problem) members))
