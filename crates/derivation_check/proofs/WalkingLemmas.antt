-- One number more of a walk, and the refutations of one choice.
use Rattle.std.proofs.Common.{◌≡◌, ℕ, zero, suc, ◌+◌, ◌-◌, ◌≤◌, ◌<◌, nat_lt, true, false, List, [], ◌∷◌, ◌++◌, length, map, take, drop, refl, sym, ap, ◌∙◌, subst, arith, inl, inr, Option, Some, None, get_or, slice_get, slice_index, drop-cons, add-one}
use Rattle.std.specs.Option.{option_and_then, option_map}
use Rattle.std.specs.List.{AllByRecursion, range_with_len}
use Rattle.std.proofs.lemmas.Bool.{ltb-true, ltb-false, cond-true, cond-false, cases_Bool}
use Rattle.std.proofs.lemmas.List.{take-append-drop, drop-drop}
use Rattle.std.proofs.lemmas.Option.{slice_get_past, slice_get_within}
use Rattle.op_constraints.specs.declared.Lit.{Lit}
use Rattle.op_constraints.specs.declared.Constraint.{Constraint}
use Rattle.op_constraints.specs.Walks.{is_among, waiting, member, choice, first_of, walk_from, walk}
use Rattle.op_constraints.proofs.WalkLaws.{under}
use Rattle.op_constraints.proofs.Steps.{walk-push}
use Rattle.derivations.specs.declared.Refutation.{Refutation}
use Rattle.derivations.specs.Accepted.{pairs_from}
use Rattle.derivation_check.specs.declared.CertFault.{CertFault}
use Rattle.derivation_check.specs.declared.CertFault.TheVariants.{Walk, Denies}
use Rattle.derivation_check.specs.Faults.{after_member, walk_fault, pair_of, deniable, all_deny, denies_fault}
use Rattle.derivation_check.specs.Denials.{denied_by, denied_at}

pub member_get : (lists : List (List ℕ)) (n : ℕ) → member lists n ≡ slice_get (first_of lists) n
member_get [] n = refl
member_get (members ∷ lists) n = refl

get_some : (xs : List ℕ) (i : ℕ) → i < length xs → slice_get xs i ≡ Some (slice_index xs i)
get_some [] i h = absurd (omega arith)
get_some (x ∷ xs) zero h = refl
get_some (x ∷ xs) (suc i) h = get_some xs i (omega arith)

pub offered : (problem : List (List Constraint)) (chosen : List ℕ) (n : ℕ) → n < length (choice problem chosen) → member (waiting problem chosen) n ≡ Some (slice_index (choice problem chosen) n)
offered problem chosen n h = member_get (waiting problem chosen) n ∙ get_some (choice problem chosen) n h

not_offered : (problem : List (List Constraint)) (chosen : List ℕ) (n : ℕ) → length (choice problem chosen) ≤ n → member (waiting problem chosen) n ≡ None
not_offered problem chosen n h = member_get (waiting problem chosen) n ∙ slice_get_past (choice problem chosen) n h

-- a number out of its list ends the walk
pub walk_fails : (problem other : List (List Constraint)) (chosen numbers : List ℕ) (i : ℕ) → other ≡ problem → i < length numbers → nat_lt (get_or numbers i 0) (length (choice other chosen)) ≡ false → walk_fault problem chosen i (drop i numbers) ≡ Some (Walk i)
walk_fails problem other chosen numbers i same h e =
    let out : length (choice problem chosen) ≤ get_or numbers i 0 = ltb-false (get_or numbers i 0) (length (choice problem chosen)) (subst (λ (p : List (List Constraint)). nat_lt (get_or numbers i 0) (length (choice p chosen)) ≡ false) same e) in
    ap (λ ns. walk_fault problem chosen i ns) (drop-cons numbers i 0 h)
    ∙ ap (λ o. after_member o i (λ v. walk_fault problem (chosen ++ v ∷ []) (i + 1) (drop (suc i) numbers))) (not_offered problem chosen (get_or numbers i 0) out)

pub walk_goes : (problem other : List (List Constraint)) (chosen numbers : List ℕ) (i : ℕ) → other ≡ problem → i < length numbers → nat_lt (get_or numbers i 0) (length (choice other chosen)) ≡ true → walk_fault problem chosen i (drop i numbers) ≡ walk_fault problem (chosen ++ slice_index (choice other chosen) (get_or numbers i 0) ∷ []) (i + 1) (drop (i + 1) numbers)
walk_goes problem other chosen numbers i same h e =
    let n = get_or numbers i 0 in
    let low : n < length (choice problem chosen) = ltb-true n (length (choice problem chosen)) (subst (λ (p : List (List Constraint)). nat_lt n (length (choice p chosen)) ≡ true) same e) in
    ap (λ ns. walk_fault problem chosen i ns) (drop-cons numbers i 0 h)
    ∙ (ap (λ o. after_member o i (λ v. walk_fault problem (chosen ++ v ∷ []) (i + 1) (drop (suc i) numbers))) (offered problem chosen n low)
    ∙ (ap (λ p. walk_fault problem (chosen ++ slice_index (choice p chosen) n ∷ []) (i + 1) (drop (suc i) numbers)) (sym same)
    ∙ ap (λ k. walk_fault problem (chosen ++ slice_index (choice other chosen) n ∷ []) (i + 1) (drop k numbers)) (sym (add-one i))))

pub walk_on : (problem other : List (List Constraint)) (chosen numbers : List ℕ) (i : ℕ) → other ≡ problem → i < length numbers → get_or numbers i 0 < length (choice other chosen) → walk_from problem chosen (drop i numbers) ≡ walk_from problem (chosen ++ slice_index (choice other chosen) (get_or numbers i 0) ∷ []) (drop (i + 1) numbers)
walk_on problem other chosen numbers i same h e =
    let n = get_or numbers i 0 in
    let low : n < length (choice problem chosen) = subst (λ (p : List (List Constraint)). n < length (choice p chosen)) same e in
    ap (λ ns. walk_from problem chosen ns) (drop-cons numbers i 0 h)
    ∙ (ap (λ o. option_and_then (λ v. walk_from problem (chosen ++ v ∷ []) (drop (suc i) numbers)) o) (offered problem chosen n low)
    ∙ (ap (λ p. walk_from problem (chosen ++ slice_index (choice p chosen) n ∷ []) (drop (suc i) numbers)) (sym same)
    ∙ ap (λ k. walk_from problem (chosen ++ slice_index (choice other chosen) n ∷ []) (drop k numbers)) (sym (add-one i))))

-- where the walk goes on to its end, the number lies in its list
pub goes_on : (problem other : List (List Constraint)) (chosen numbers : List ℕ) (i : ℕ) → other ≡ problem → i < length numbers → ((end : List ℕ) × (walk_from problem chosen (drop i numbers) ≡ Some end)) → get_or numbers i 0 < length (choice other chosen)
goes_on problem other chosen numbers i same h (end, e) =
    let n = get_or numbers i 0 in
    let e' : walk_from problem chosen (n ∷ drop (suc i) numbers) ≡ Some end = ap (λ ns. walk_from problem chosen ns) (sym (drop-cons numbers i 0 h)) ∙ e in
    let (v, is, rest) = under (λ v. walk_from problem (chosen ++ v ∷ []) (drop (suc i) numbers)) (member (waiting problem chosen) n) end e' in
    subst (λ (p : List (List Constraint)). n < length (choice p chosen)) (sym same) (slice_get_within (choice problem chosen) n v (sym (member_get (waiting problem chosen) n) ∙ is))

take_more : (xs : List ℕ) (i : ℕ) → i < length xs → take (suc i) xs ≡ take i xs ++ get_or xs i 0 ∷ []
take_more [] i h = absurd (omega arith)
take_more (x ∷ xs) zero h = refl
take_more (x ∷ xs) (suc i) h = ap (λ ys. x ∷ ys) (take_more xs i (omega arith))

-- where one number more leads
pub stands_on : (problem other : List (List Constraint)) (chosen numbers : List ℕ) (i : ℕ) → other ≡ problem → i < length numbers → get_or numbers i 0 < length (choice other chosen) → walk problem (take i numbers) ≡ Some chosen → walk problem (take (i + 1) numbers) ≡ Some (chosen ++ slice_index (choice other chosen) (get_or numbers i 0) ∷ [])
stands_on problem other chosen numbers i same h e w =
    let n = get_or numbers i 0 in
    let low : n < length (choice problem chosen) = subst (λ (p : List (List Constraint)). n < length (choice p chosen)) same e in
    ap (λ k. walk problem (take k numbers)) (add-one i)
    ∙ (ap (λ ks. walk problem ks) (take_more numbers i h)
    ∙ (walk-push problem (take i numbers) chosen n (slice_index (choice problem chosen) n) w (offered problem chosen n low)
    ∙ ap (λ p. Some (chosen ++ slice_index (choice p chosen) n ∷ [])) (sym same)))

-- The refutations of one choice

pub record Cut (i number : ℕ) (steps : List (ℕ × ℕ × Refutation)) (rest : List (ℕ × ℕ)) : Type 0 where
  pub room : number ≤ length steps
  pub of_choice : AllByRecursion (λ s. s.0 ≡ i) (take number steps)
  pub after : map pair_of (drop number steps) ≡ rest

pub cut : (i a number : ℕ) (steps : List (ℕ × ℕ × Refutation)) (rest : List (ℕ × ℕ)) → map pair_of steps ≡ map (λ j. (i, j)) (range_with_len a number) ++ rest → Cut i number steps rest
cut i a zero steps rest e = record { room = omega arith; of_choice = tt; after = e }
cut i a (suc n) [] rest e = absurd (let bad : [] ≡ (i, a) ∷ (map (λ j. (i, j)) (range_with_len (a + 1) n) ++ rest) = e in cc)
cut i a (suc n) (s ∷ ss) rest e =
    let whole : pair_of s ∷ map pair_of ss ≡ (i, a) ∷ (map (λ j. (i, j)) (range_with_len (a + 1) n) ++ rest) = e in
    let head : pair_of s ≡ (i, a) = cc in
    let tail : map pair_of ss ≡ map (λ j. (i, j)) (range_with_len (a + 1) n) ++ rest = cc in
    let later = cut i (a + 1) n ss rest tail in
    record { room = (let r = later.room in omega arith); of_choice = (ap (λ p. p.0) head, later.of_choice); after = later.after }

denied_same : (chosen : List ℕ) (o : Option ℕ) (lits : List Lit) → all_deny (option_map (λ candidate. candidate ∷ chosen) o) lits ≡ denied_by o (is_among chosen) lits
denied_same chosen None lits = refl
denied_same chosen (Some candidate) lits = refl

own_same : (problem : List (List Constraint)) (numbers chosen : List ℕ) (i j : ℕ) (lits : List Lit) → walk problem (take i numbers) ≡ Some chosen → all_deny (deniable problem numbers i j) lits ≡ denied_by (slice_get (choice problem chosen) j) (is_among chosen) lits
own_same problem numbers chosen i j lits w =
    ap (λ o. all_deny (option_and_then (λ vs. option_map (λ candidate. candidate ∷ vs) (member (waiting problem vs) j)) o) lits) w
    ∙ (ap (λ o. all_deny (option_map (λ candidate. candidate ∷ chosen) o) lits) (member_get (waiting problem chosen) j)
    ∙ denied_same chosen (slice_get (choice problem chosen) j) lits)

pub denied_split : (problem : List (List Constraint)) (numbers chosen : List ℕ) (i : ℕ) (xs ys : List (ℕ × ℕ × Refutation)) → walk problem (take i numbers) ≡ Some chosen → AllByRecursion (λ s. s.0 ≡ i) xs → denied_at (choice problem chosen) (is_among chosen) xs ≡ None → denies_fault problem numbers (xs ++ ys) ≡ denies_fault problem numbers ys
denied_split problem numbers chosen i [] ys w a e = refl
denied_split problem numbers chosen i (s ∷ ss) ys w a e =
    let here : walk problem (take s.0 numbers) ≡ Some chosen = ap (λ k. walk problem (take k numbers)) a.0 ∙ w in
    let same = own_same problem numbers chosen s.0 s.1 s.2.lits here in
    elim (cases_Bool (denied_by (slice_get (choice problem chosen) s.1) (is_among chosen) s.2.lits)) [
      | inl good ↦
          (let e' : denied_at (choice problem chosen) (is_among chosen) ss ≡ None = sym (cond-true (denied_by (slice_get (choice problem chosen) s.1) (is_among chosen) s.2.lits) (denied_at (choice problem chosen) (is_among chosen) ss) (Some (Denies s.0 s.1)) good) ∙ e in
          cond-true (all_deny (deniable problem numbers s.0 s.1) s.2.lits) (denies_fault problem numbers (ss ++ ys)) (Some (Denies s.0 s.1)) (same ∙ good)
          ∙ denied_split problem numbers chosen i ss ys w a.1 e')
      | inr bad ↦
          absurd (let none : Some (Denies s.0 s.1) ≡ None = sym (cond-false (denied_by (slice_get (choice problem chosen) s.1) (is_among chosen) s.2.lits) (denied_at (choice problem chosen) (is_among chosen) ss) (Some (Denies s.0 s.1)) bad) ∙ e in cc)
    ]

pub denied_stop : (problem : List (List Constraint)) (numbers chosen : List ℕ) (i : ℕ) (xs ys : List (ℕ × ℕ × Refutation)) (f : CertFault) → walk problem (take i numbers) ≡ Some chosen → AllByRecursion (λ s. s.0 ≡ i) xs → denied_at (choice problem chosen) (is_among chosen) xs ≡ Some f → denies_fault problem numbers (xs ++ ys) ≡ Some f
denied_stop problem numbers chosen i [] ys f w a e = absurd (let bad : None ≡ Some f = e in cc)
denied_stop problem numbers chosen i (s ∷ ss) ys f w a e =
    let here : walk problem (take s.0 numbers) ≡ Some chosen = ap (λ k. walk problem (take k numbers)) a.0 ∙ w in
    let same = own_same problem numbers chosen s.0 s.1 s.2.lits here in
    elim (cases_Bool (denied_by (slice_get (choice problem chosen) s.1) (is_among chosen) s.2.lits)) [
      | inl good ↦
          (let e' : denied_at (choice problem chosen) (is_among chosen) ss ≡ Some f = sym (cond-true (denied_by (slice_get (choice problem chosen) s.1) (is_among chosen) s.2.lits) (denied_at (choice problem chosen) (is_among chosen) ss) (Some (Denies s.0 s.1)) good) ∙ e in
          cond-true (all_deny (deniable problem numbers s.0 s.1) s.2.lits) (denies_fault problem numbers (ss ++ ys)) (Some (Denies s.0 s.1)) (same ∙ good)
          ∙ denied_stop problem numbers chosen i ss ys f w a.1 e')
      | inr bad ↦
          cond-false (all_deny (deniable problem numbers s.0 s.1) s.2.lits) (denies_fault problem numbers (ss ++ ys)) (Some (Denies s.0 s.1)) (same ∙ bad)
          ∙ (sym (cond-false (denied_by (slice_get (choice problem chosen) s.1) (is_among chosen) s.2.lits) (denied_at (choice problem chosen) (is_among chosen) ss) (Some (Denies s.0 s.1)) bad) ∙ e)
    ]

-- the steps from a place on, cut behind one choice
pub cut_at : (numbers : List ℕ) (steps : List (ℕ × ℕ × Refutation)) (i next : ℕ) → i < length numbers → map pair_of (drop next steps) ≡ pairs_from i (drop i numbers) → Cut i (get_or numbers i 0) (drop next steps) (pairs_from (i + 1) (drop (i + 1) numbers))
cut_at numbers steps i next h e =
    cut i 0 (get_or numbers i 0) (drop next steps) (pairs_from (i + 1) (drop (i + 1) numbers))
    (e ∙ (ap (λ ns. pairs_from i ns) (drop-cons numbers i 0 h) ∙ ap (λ k. map (λ j. (i, j)) (range_with_len 0 (get_or numbers i 0)) ++ pairs_from (i + 1) (drop k numbers)) (sym (add-one i))))

pub split_at : (steps : List (ℕ × ℕ × Refutation)) (next number : ℕ) → drop next steps ≡ take number (drop next steps) ++ drop (next + number) steps
split_at steps next number = sym (take-append-drop number (drop next steps)) ∙ ap (λ ys. take number (drop next steps) ++ ys) (drop-drop number next steps)

pub no_steps : (steps : List (ℕ × ℕ × Refutation)) → map pair_of steps ≡ [] → steps ≡ []
no_steps [] e = refl
no_steps (s ∷ ss) e = absurd (let bad : pair_of s ∷ map pair_of ss ≡ [] = e in cc)

-- what was found of the steps between two places
pub found_between : (problem other : List (List Constraint)) (chosen : List ℕ) (steps : List (ℕ × ℕ × Refutation)) (next number : ℕ) (o : Option CertFault) → other ≡ problem → denied_at (choice other chosen) (is_among chosen) (take (next + number - next) (drop next steps)) ≡ o → denied_at (choice problem chosen) (is_among chosen) (take number (drop next steps)) ≡ o
found_between problem other chosen steps next number o same e =
    let k : number ≡ next + number - next = omega arith in
    ap (λ n. denied_at (choice problem chosen) (is_among chosen) (take n (drop next steps))) k
    ∙ (ap (λ p. denied_at (choice p chosen) (is_among chosen) (take (next + number - next) (drop next steps))) (sym same) ∙ e)
