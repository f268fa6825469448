-- A clause that is read literal by literal.
use Rattle.std.proofs.Common.{◌≡◌, Bool, true, false, not, cond, List, [], ◌∷◌, refl, sym, ap, ◌∙◌, subst, inl, inr, Option, Some, None}
use Rattle.std.specs.Option.{option_and_then}
use Rattle.std.specs.List.{list_all}
use Rattle.std.proofs.lemmas.Bool.{cases_Bool, cond-true, cond-false}
use Rattle.op_constraints.specs.declared.Lit.{Lit}
use Rattle.derivations.specs.Clauses.{denial, is_same, is_in}
use Rattle.derivations.specs.Follows.{left, sole, forced, is_nothing}
use Rattle.clause_trail.specs.declared.rows.Left.{Left}
use Rattle.clause_trail.specs.declared.rows.Left.TheVariants.{Nothing, Only, Several}
use Rattle.clause_trail.specs.Rows.{joined, scanned}
use Rattle.clause_trail.specs.Trails.{IsSettled}

abbrev joined_all : Left → List Lit → Left
joined_all before [] = before
joined_all before (l ∷ ls) = joined_all (joined before l) ls

scanned_left : (trail : List Lit) (before : Left) (clause : List Lit) → scanned trail before clause ≡ joined_all before (left trail clause)
scanned_left trail before [] = refl
scanned_left trail before (l ∷ ls) =
    elim (cases_Bool (is_in trail (denial l))) [
      | inl here ↦ rw here (scanned_left trail before ls)
      | inr other ↦ rw other (scanned_left trail (joined before l) ls)
    ]

several_stays : (ls : List Lit) → joined_all Several ls ≡ Several
several_stays [] = refl
several_stays (l ∷ ls) = several_stays ls

only_stays : (l : Lit) (ls : List Lit) → joined_all (Only l) ls ≡ cond (list_all (λ m. is_same m l) ls) (Only l) Several
only_stays l [] = refl
only_stays l (m ∷ ms) =
    elim (cases_Bool (is_same m l)) [
      | inl here ↦ rw here (only_stays l ms)
      | inr other ↦ rw other (several_stays ms)
    ]

abbrev status : List Lit → Left
status [] = Nothing
status (l ∷ ls) = cond (list_all (λ m. is_same m l) ls) (Only l) Several

begins : (ls : List Lit) → joined_all Nothing ls ≡ status ls
begins [] = refl
begins (l ∷ ls) = only_stays l ls

scanned_status : (trail clause : List Lit) → scanned trail Nothing clause ≡ status (left trail clause)
scanned_status trail clause = scanned_left trail Nothing clause ∙ begins (left trail clause)

nothing_left : (ls : List Lit) → Nothing ≡ status ls → is_nothing ls ≡ true
nothing_left [] e = refl
nothing_left (l ∷ ls) e =
    elim (cases_Bool (list_all (λ m. is_same m l) ls)) [
      | inl one ↦ absurd (let bad : Nothing ≡ Only l = e ∙ cond-true (list_all (λ m. is_same m l) ls) (Only l) Several one in cc)
      | inr more ↦ absurd (let bad : Nothing ≡ Several = e ∙ cond-false (list_all (λ m. is_same m l) ls) (Only l) Several more in cc)
    ]

only_left : (ls : List Lit) (l : Lit) → Only l ≡ status ls → (is_nothing ls ≡ false) × (sole ls ≡ Some l)
only_left [] l e = absurd (let bad : Only l ≡ Nothing = e in cc)
only_left (k ∷ ks) l e =
    elim (cases_Bool (list_all (λ m. is_same m k) ks)) [
      | inl one ↦
          (let same : Only l ≡ Only k = e ∙ cond-true (list_all (λ m. is_same m k) ks) (Only k) Several one in
          let is : k ≡ l = cc in
          (refl, cond-true (list_all (λ m. is_same m k) ks) (Some k) None one ∙ ap (λ (m : Lit). Some m) is))
      | inr more ↦ absurd (let bad : Only l ≡ Several = e ∙ cond-false (list_all (λ m. is_same m k) ks) (Only k) Several more in cc)
    ]

several_left : (ls : List Lit) → Several ≡ status ls → (is_nothing ls ≡ false) × (sole ls ≡ None)
several_left [] e = absurd (let bad : Several ≡ Nothing = e in cc)
several_left (k ∷ ks) e =
    elim (cases_Bool (list_all (λ m. is_same m k) ks)) [
      | inl one ↦ absurd (let bad : Several ≡ Only k = e ∙ cond-true (list_all (λ m. is_same m k) ks) (Only k) Several one in cc)
      | inr more ↦ (refl, cond-false (list_all (λ m. is_same m k) ks) (Some k) None more)
    ]

pub nothing_read : (trail clause : List Lit) → Nothing ≡ scanned trail Nothing clause → is_nothing (left trail clause) ≡ true
nothing_read trail clause e = nothing_left (left trail clause) (e ∙ scanned_status trail clause)

pub unit_read : (trail clause : List Lit) (l : Lit) → is_in trail l ≡ false → Only l ≡ scanned trail Nothing clause → forced trail clause ≡ Some l
unit_read trail clause l untrue e =
    let parts = only_left (left trail clause) l (e ∙ scanned_status trail clause) in
    ap (λ o. option_and_then (λ m. cond (is_in trail m) None (Some m)) o) parts.1 ∙ cond-false (is_in trail l) None (Some l) untrue

pub true_read : (trail clause : List Lit) (l : Lit) → is_in trail l ≡ true → Only l ≡ scanned trail Nothing clause → IsSettled trail clause
true_read trail clause l is e =
    let parts = only_left (left trail clause) l (e ∙ scanned_status trail clause) in
    record {
      unfalse = parts.0;
      quiet = ap (λ o. option_and_then (λ m. cond (is_in trail m) None (Some m)) o) parts.1 ∙ cond-true (is_in trail l) None (Some l) is;
    }

pub several_read : (trail clause : List Lit) → Several ≡ scanned trail Nothing clause → IsSettled trail clause
several_read trail clause e =
    let parts = several_left (left trail clause) (e ∙ scanned_status trail clause) in
    record {
      unfalse = parts.0;
      quiet = ap (λ o. option_and_then (λ m. cond (is_in trail m) None (Some m)) o) parts.1;
    }
