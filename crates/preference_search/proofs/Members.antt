-- The members of an AtMost that are in.
use Rattle.std.proofs.Common.{◌≡◌, ℕ, zero, suc, ◌+◌, ◌≤◌, ◌<◌, ◌==◌, Bool, true, ◌&&◌, List, [], ◌∷◌, ◌++◌, length, take, get_or, refl, sym, ap, ◌∙◌, arith, inl, inr}
use Rattle.std.specs.List.{list_all, filter, count_by}
use Rattle.std.proofs.lemmas.Bool.{cases_Bool, or_left, and_from, eq-eqb}
use Rattle.std.proofs.lemmas.List.{length-append, take_all, take_more}
use Rattle.std.proofs.lemmas.List.Sums.{length-filter}
use Rattle.std.proofs.lemmas.List.Elements.{filter-append}
use Rattle.op_constraints.specs.Walks.{is_among}
use Rattle.op_constraints.specs.Kept.{is_distinct}
use Rattle.derivations.specs.Clauses.{is_too_many}
use Rattle.derivations.proofs.Converse.{distinct-filter, distinct-take, among_weaker, filter_all}

some-within : (p : ℕ → Bool) (k : ℕ) (ms : List ℕ) → list_all (λ v. is_among ms v) (filter p (take k ms)) ≡ true
some-within p zero ms = refl
some-within p (suc k) [] = refl
some-within p (suc k) (m ∷ ms) =
    let rest = among_weaker m ms (filter p (take k ms)) (some-within p k ms) in
    elim (cases_Bool (p m)) [
      | inl here ↦ rw here (and_from (is_among (m ∷ ms) m) (list_all (λ v. is_among (m ∷ ms) v) (filter p (take k ms))) (or_left (m == m) (is_among ms m) (eq-eqb m m refl)) rest)
      | inr other ↦ rw other rest
    ]

one-in : (p : ℕ → Bool) (m : ℕ) → p m ≡ true → filter p (m ∷ []) ≡ m ∷ []
one-in p m here = rw here refl

-- with this one, those that are in so far
in-more : (set : ℕ → Bool) (i m : ℕ) (members named : List ℕ) → i < length members → m ≡ get_or members i m → set m ≡ true → named ≡ filter set (take i members) → named ++ m ∷ [] ≡ filter set (take (i + 1) members)
in-more set i m members named h is here e =
    ap (λ xs. xs ++ m ∷ []) e
    ∙ (ap (λ xs. filter set (take i members) ++ xs) (sym (one-in set m here))
    ∙ (sym (filter-append set (take i members) (m ∷ []))
    ∙ ap (λ xs. filter set xs) (ap (λ v. take i members ++ v ∷ []) is ∙ sym (take_more members i m h))))

-- one more than most are too many
pub named-many : (set : ℕ → Bool) (most i m : ℕ) (members named : List ℕ) → is_distinct members ≡ true → i < length members → m ≡ get_or members i m → set m ≡ true → named ≡ filter set (take i members) → length named ≤ most → most < length (named ++ m ∷ []) → is_too_many most members (named ++ m ∷ []) ≡ true
named-many set most i m members named d h is here e few more =
    let all : named ++ m ∷ [] ≡ filter set (take (i + 1) members) = in-more set i m members named h is here e in
    let size = length-append named (m ∷ []) in
    and_from (length (named ++ m ∷ []) == (most + 1)) (is_distinct (named ++ m ∷ []) && list_all (λ v. is_among members v) (named ++ m ∷ []))
    (eq-eqb (length (named ++ m ∷ [])) (most + 1) (omega (arith, size, few, more)))
    (and_from (is_distinct (named ++ m ∷ [])) (list_all (λ v. is_among members v) (named ++ m ∷ []))
    (ap is_distinct all ∙ distinct-filter set (take (i + 1) members) (distinct-take (i + 1) members d))
    (ap (list_all (λ v. is_among members v)) all ∙ some-within set (i + 1) members))

pub named-in : (set : ℕ → Bool) (i m : ℕ) (members named : List ℕ) → i < length members → m ≡ get_or members i m → set m ≡ true → named ≡ filter set (take i members) → list_all set (named ++ m ∷ []) ≡ true
named-in set i m members named h is here e =
    ap (list_all set) (in-more set i m members named h is here e) ∙ filter_all set (take (i + 1) members)

-- where there are no more among all of them, no more are in
pub named-few : (set : ℕ → Bool) (most i : ℕ) (members named : List ℕ) → length members ≤ i → named ≡ filter set (take i members) → length named ≤ most → count_by set members ≤ most
named-few set most i members named h e few =
    let all : named ≡ filter set members = e ∙ ap (λ xs. filter set xs) (take_all i members h) in
    let size = length-filter set members in
    omega (arith, ap length all, size, few)
