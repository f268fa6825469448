-- Wanted pairs beside the pairs that are given.
use Rattle.std.proofs.Common.{◌≡◌, ℕ, zero, suc, ◌+◌, ◌≤◌, ◌<◌, true, false, List, [], ◌∷◌, ◌++◌, length, map, drop, refl, sym, ap, ◌∙◌, arith, Some, get_or}
use Rattle.std.specs.List.{range_with_len}
use Rattle.std.proofs.lemmas.Bool.{cond-true, cond-false}
use Rattle.derivations.specs.declared.Refutation.{Refutation}
use Rattle.derivation_check.specs.declared.CertFault.TheVariants.{Missing, Extra}
use Rattle.derivation_check.specs.Faults.{is_pair, is_next, pairs_fault, pair_of}

pub pairs_at : (steps : List (ℕ × ℕ × Refutation)) (k : ℕ) (x : ℕ × ℕ × Refutation) → k < length steps → x ≡ get_or steps k x → drop k (map pair_of steps) ≡ pair_of x ∷ drop (suc k) (map pair_of steps)
pairs_at [] k x h e = absurd (omega arith)
pairs_at (s ∷ ss) zero x h e = ap (λ y. pair_of y ∷ map pair_of ss) (sym e)
pairs_at (s ∷ ss) (suc k) x h e = pairs_at ss k x (omega arith) e

not_next : (k : ℕ) (pair : ℕ × ℕ) (wanted given : List (ℕ × ℕ)) → is_next given pair ≡ false → pairs_fault k (pair ∷ wanted) given ≡ Some (Missing pair.0 pair.1)
not_next k pair wanted [] e = refl
not_next k pair wanted (next ∷ given) e = cond-false (is_pair pair next) (pairs_fault (k + 1) wanted given) (Some (Missing pair.0 pair.1)) e

is_the_next : (k : ℕ) (pair : ℕ × ℕ) (wanted given : List (ℕ × ℕ)) → is_next given pair ≡ true → pairs_fault k (pair ∷ wanted) given ≡ pairs_fault (k + 1) wanted (drop 1 given)
is_the_next k pair wanted [] e = absurd (let bad : false ≡ true = e in cc)
is_the_next k pair wanted (next ∷ given) e = cond-true (is_pair pair next) (pairs_fault (k + 1) wanted given) (Some (Missing pair.0 pair.1)) e

drop_suc : (k : ℕ) (pairs : List (ℕ × ℕ)) → drop 1 (drop k pairs) ≡ drop (suc k) pairs
drop_suc zero pairs = refl
drop_suc (suc k) [] = refl
drop_suc (suc k) (p ∷ ps) = drop_suc k ps

drop_one : (k : ℕ) (pairs : List (ℕ × ℕ)) → drop 1 (drop k pairs) ≡ drop (k + 1) pairs
drop_one k pairs = drop_suc k pairs ∙ (let e : suc k ≡ k + 1 = omega arith in ap (λ n. drop n pairs) e)

-- the next pair is that of the step at the place
pub next_is : (steps : List (ℕ × ℕ × Refutation)) (k : ℕ) (x : ℕ × ℕ × Refutation) (pair : ℕ × ℕ) → k < length steps → x ≡ get_or steps k x → is_pair pair (pair_of x) ≡ is_next (drop k (map pair_of steps)) pair
next_is steps k x pair h e = ap (λ given. is_next given pair) (sym (pairs_at steps k x h e))

-- the candidate that isn't next is missing
pub missing_here : (choice candidate m k : ℕ) (pairs rest : List (ℕ × ℕ)) → 0 < m → is_next (drop k pairs) (choice, candidate) ≡ false → pairs_fault k (map (λ j. (choice, j)) (range_with_len candidate m) ++ rest) (drop k pairs) ≡ Some (Missing choice candidate)
missing_here choice candidate zero k pairs rest h e = absurd (omega arith)
missing_here choice candidate (suc m) k pairs rest h e = not_next k (choice, candidate) (map (λ j. (choice, j)) (range_with_len (candidate + 1) m) ++ rest) (drop k pairs) e

-- one that is next is passed
pub passed_here : (choice candidate m n k : ℕ) (pairs rest : List (ℕ × ℕ)) → m ≡ suc n → is_next (drop k pairs) (choice, candidate) ≡ true → pairs_fault k (map (λ j. (choice, j)) (range_with_len candidate m) ++ rest) (drop k pairs) ≡ pairs_fault (k + 1) (map (λ j. (choice, j)) (range_with_len (candidate + 1) n) ++ rest) (drop (k + 1) pairs)
passed_here choice candidate m n k pairs rest h e =
    ap (λ i. pairs_fault k (map (λ j. (choice, j)) (range_with_len candidate i) ++ rest) (drop k pairs)) h
    ∙ (is_the_next k (choice, candidate) (map (λ j. (choice, j)) (range_with_len (candidate + 1) n) ++ rest) (drop k pairs) e
    ∙ ap (λ ps. pairs_fault (k + 1) (map (λ j. (choice, j)) (range_with_len (candidate + 1) n) ++ rest) ps) (drop_one k pairs))

over : (position k : ℕ) (steps : List (ℕ × ℕ × Refutation)) → k < length steps → pairs_fault position [] (drop k (map pair_of steps)) ≡ Some (Extra position)
over position k [] h = absurd (omega arith)
over position zero (s ∷ ss) h = refl
over position (suc k) (s ∷ ss) h = over position k ss (omega arith)

-- what is given beyond the wanted pairs is left over
pub left_over : (steps : List (ℕ × ℕ × Refutation)) (k : ℕ) → k < length steps → pairs_fault k [] (drop k (map pair_of steps)) ≡ Some (Extra k)
left_over steps k h = over k k steps h

pub drop_end : (xs : List ℕ) (k : ℕ) → length xs ≤ k → drop k xs ≡ []
drop_end [] zero h = refl
drop_end [] (suc k) h = refl
drop_end (x ∷ xs) zero h = absurd (omega arith)
drop_end (x ∷ xs) (suc k) h = drop_end xs k (omega arith)
