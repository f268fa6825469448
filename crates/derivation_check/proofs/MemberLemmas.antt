-- Marks of members say which of them are listed and not yet named.
use Rattle.std.proofs.Common.{◌≡◌, ℕ, zero, suc, ◌+◌, ◌<◌, ◌==◌, Bool, true, false, not, cond, ◌&&◌, ◌||◌, List, [], ◌∷◌, length, refl, sym, ap, ◌∙◌, subst, arith, inl, inr, Option, Some, None, set, get_or, get_or-set_other, get_or-set_same, length-set, eq-eqb, ne_eqb, replicate}
use Rattle.std.proofs.Math.Bool.{and-false, or-false}
use Rattle.std.specs.List.{list_all, AllByRecursion}
use Rattle.std.proofs.lemmas.Bool.{cases_Bool, cases_eq}
use Rattle.std.proofs.lemmas.List.{length-replicate}
use Rattle.op_constraints.specs.Walks.{is_among}
use Rattle.derivations.specs.Clauses.{is_too_many}
use Rattle.op_constraints.specs.Kept.{is_distinct}
use Rattle.derivation_check.specs.Scan.{says}
use Rattle.derivation_check.specs.Members.{listed_in, are_struck}
use Rattle.derivation_check.proofs.Denied.{none_known, swap_tests, eqb_sym}

abbrev nothing : Option Bool
nothing = None

-- the marks are those of a test
abbrev pub Lists : List (Option Bool) → (ℕ → Bool) → Type 0
Lists known test = (v : ℕ) → says (get_or known v None) true ≡ test v

-- one mark more, of a variable that has one
set_lists : (known : List (Option Bool)) (test : ℕ → Bool) (v : ℕ) (b : Bool) → v < length known → Lists known test → (w : ℕ) → says (get_or (set known v (Some b)) w None) true ≡ cond (v == w) (says (Some b) true) (test w)
set_lists known test v b h l w =
    elim (cases_eq v w) [
      | inl same ↦ rw (eq-eqb v w same) (ap (λ o. says o true) (ap (λ k. get_or (set known v (Some b)) k None) (sym same) ∙ get_or-set_same known v (Some b) None h))
      | inr other ↦ rw (ne_eqb v w other) (ap (λ o. says o true) (get_or-set_other known v w (Some b) None (λ s. other (sym s))) ∙ l w)
    ]

marked_or : (e t : Bool) → cond e true t ≡ (e || t)
marked_or true t = refl
marked_or false t = refl

shift_or : (e a t : Bool) → (a || (e || t)) ≡ ((e || a) || t)
shift_or true true t = refl
shift_or true false t = refl
shift_or false a t = refl

listed_lists : (known : List (Option Bool)) (test : ℕ → Bool) (vs : List ℕ) (n : ℕ) → length known ≡ n → AllByRecursion (λ v. v < n) vs → Lists known test → Lists (listed_in known vs) (λ w. is_among vs w || test w)
listed_lists known test [] n e a l w = l w
listed_lists known test (v ∷ vs) n e a l w =
    let low : v < length known = subst (λ k. v < k) (sym e) a.0 in
    let next : Lists (set known v (Some true)) (λ u. (v == u) || test u) = λ u. set_lists known test v true low l u ∙ marked_or (v == u) (test u) in
    listed_lists (set known v (Some true)) (λ u. (v == u) || test u) vs n (length-set known v (Some true) ∙ e) a.1 next w
    ∙ shift_or (v == w) (is_among vs w) (test w)

-- fresh marks, with the members marked, list the members
pub members_listed : (n : ℕ) (members : List ℕ) → AllByRecursion (λ m. m < n) members → Lists (listed_in (replicate n nothing) members) (is_among members)
members_listed n members a v =
    listed_lists (replicate n nothing) (λ w. false) members n (length-replicate n nothing) a (λ w. ap (λ o. says o true) (none_known n w)) v
    ∙ or-false (is_among members v)

-- a variable that has a mark is in range
said_low : (known : List (Option Bool)) (v : ℕ) → says (get_or known v None) true ≡ true → v < length known
said_low [] v e = absurd (let bad : false ≡ true = e in cc)
said_low (o ∷ os) zero e = omega arith
said_low (o ∷ os) (suc v) e = let h = said_low os v e in omega arith

struck_not : (e t : Bool) → cond e false t ≡ (not e && t)
struck_not true t = refl
struck_not false t = refl

all_but : (test : ℕ → Bool) (v : ℕ) (ws : List ℕ) → list_all (λ w. not (v == w) && test w) ws ≡ (not (is_among ws v) && list_all test ws)
all_but test v [] = refl
all_but test v (w ∷ ws) =
    ap (λ x. (not (v == w) && test w) && x) (all_but test v ws)
    ∙ (swap_tests (v == w) (test w) (is_among ws v) (list_all test ws)
    ∙ ap (λ x. not (x || is_among ws v) && (test w && list_all test ws)) (eqb_sym v w))

swap_last : (d A r : Bool) → (d && (A && r)) ≡ ((A && d) && r)
swap_last true true r = refl
swap_last true false r = refl
swap_last false true r = refl
swap_last false false r = refl

-- striking succeeds where each is listed, and each is there once
pub struck_same : (known : List (Option Bool)) (test : ℕ → Bool) (vs : List ℕ) → Lists known test → are_struck known vs ≡ (is_distinct vs && list_all test vs)
struck_same known test [] l = refl
struck_same known test (v ∷ vs) l =
    elim (cases_Bool (says (get_or known v None) true)) [
      | inl here ↦
          (let in_test : test v ≡ true = sym (l v) ∙ here in
          let low : v < length known = said_low known v here in
          let next : Lists (set known v (Some false)) (λ u. not (v == u) && test u) = λ u. set_lists known test v false low l u ∙ struck_not (v == u) (test u) in
          rw here (rw in_test
          (struck_same (set known v (Some false)) (λ u. not (v == u) && test u) vs next
          ∙ (ap (λ x. is_distinct vs && x) (all_but test v vs)
          ∙ swap_last (is_distinct vs) (not (is_among vs v)) (list_all test vs)))))
      | inr other ↦
          (let out : test v ≡ false = sym (l v) ∙ other in
          rw other (rw out (sym (and-false (is_distinct (v ∷ vs))))))
    ]

and_true : (a b : Bool) → a ≡ true → (a && b) ≡ b
and_true true b e = refl
and_true false b e = absurd (let bad : false ≡ true = e in cc)

-- where the count is right, striking fresh marks of the members is the whole test
pub too_many_same : (most n : ℕ) (members named : List ℕ) (known : List (Option Bool)) → AllByRecursion (λ m. m < n) members → (length named == (most + 1)) ≡ true → known ≡ listed_in (replicate n nothing) members → are_struck known named ≡ is_too_many most members named
too_many_same most n members named known a count is =
    ap (λ k. are_struck k named) is
    ∙ (struck_same (listed_in (replicate n nothing) members) (is_among members) named (members_listed n members a)
    ∙ sym (and_true (length named == (most + 1)) (is_distinct named && list_all (λ v. is_among members v) named) count))
