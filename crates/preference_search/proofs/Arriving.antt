-- What is looked at where a walk is come to: only what names its last variable.
use Rattle.std.proofs.Common.{◌≡◌, ℕ, zero, suc, ◌+◌, ◌-◌, ◌<◌, ◌==◌, Bool, true, false, List, [], ◌∷◌, ◌++◌, length, sym, ap, ◌∙◌, subst, arith, Option, Some, None, Result, Ok, Err, IfOk, IfNone, slice_get}
use Rattle.op_constraints.specs.declared.Lit.{Lit}
use Rattle.op_constraints.specs.declared.Constraint.{Constraint}
use Rattle.op_constraints.specs.Meets.{constraint_at}
use Rattle.op_constraints.specs.Walks.{is_among}
use Rattle.derivations.specs.declared.Lemma.{Lemma}
use Rattle.derivations.specs.declared.Refutation.{Refutation}
use Rattle.derivations.specs.Clauses.{negative, is_in}
use Rattle.derivations.specs.Follows.{clauses}
use Rattle.preference_search.specs.declared.naming.Place.{Place}
use Rattle.preference_search.specs.Denials.{is_denied, IsAllowed, AllowsSet, NoLemmaDenies}
use Rattle.preference_search.specs.Naming.{list_of, IsIndexed}
use Rattle.preference_search.specs.Searching.{IsUndeniedBefore}
use Rattle.preference_search.proofs.Indexing.{allowed-more, undenied-more}
use Rattle.preference_search.proofs.Turning.{last-number}

-- a list with items isn't empty
pub some-items : (n : ℕ) → false ≡ (n == 0) → 0 < n
some-items zero e = absurd (let bad : false ≡ true = e in cc)
some-items (suc n) e = omega arith

last-at : (vs : List ℕ) (n v : ℕ) → n + 1 ≡ length vs → slice_get vs n ≡ Some v → (before : List ℕ) × (vs ≡ before ++ v ∷ [])
last-at [] n v h e = absurd (omega (arith, h))
last-at (w ∷ []) zero v h e = let same : w ≡ v = cc in ([], ap (λ u. u ∷ []) same)
last-at (w ∷ []) (suc n) v h e = absurd (omega (arith, h))
last-at (w ∷ x ∷ rest) zero v h e = absurd (omega (arith, h))
last-at (w ∷ x ∷ rest) (suc n) v h e = let (before, is) = last-at (x ∷ rest) n v (omega (arith, h)) e in (w ∷ before, ap (λ us. w ∷ us) is)

-- a list ends in its last item
last-parts : (vs : List ℕ) (v : ℕ) → Some v ≡ slice_get vs (length vs - 1) → (before : List ℕ) × (vs ≡ before ++ v ∷ [])
last-parts [] v e = absurd (let bad : Some v ≡ None = e in cc)
last-parts (w ∷ ws) v e = last-at (w ∷ ws) (length (w ∷ ws) - 1) v (omega arith) (sym e)

-- where no constraint that names the last variable denies the walk, no given clause does
pub given-none : {E : Type 0} (problem : List (List Constraint)) (log : List Lemma) (lists : List (List Place)) (list : List Place) (chosen numbers : List ℕ) (set : ℕ → Bool) (v : ℕ) (r : Result (Option Refutation) E)
    → 0 < length numbers
    → Some v ≡ slice_get chosen (length chosen - 1)
    → IsUndeniedBefore problem log chosen numbers
    → IsIndexed problem lists
    → v < length lists
    → list ≡ list_of lists v
    → set ≡ is_among chosen
    → IfOk r (λ found. IfNone found ((i : ℕ) (place : Place) (c : Constraint) → slice_get list i ≡ Some place → constraint_at problem place.owner place.constraint ≡ Some c → IsAllowed set place.owner c))
    → IfOk r (λ found. IfNone found (AllowsSet problem (is_among chosen)))
given-none problem log lists list chosen numbers set v (Err error) some is before x low listed same none = tt
given-none problem log lists list chosen numbers set v (Ok (Some d)) some is before x low listed same none = tt
given-none problem log lists list chosen numbers set v (Ok None) some is before x low listed same none =
    let (front, parts) = last-parts chosen v is in
    let (ks, k, e) = last-number numbers some in
    let u = before front v k ks parts e in
    let P : List ℕ → Type 0 = λ vs. AllowsSet problem (is_among vs) in
    let here : set ≡ is_among (front ++ v ∷ []) = same ∙ ap is_among parts in
    subst P (sym parts)
    (allowed-more problem lists front v low u.given x (λ i place c at found.
    let Q : (ℕ → Bool) → Type 0 = λ f. IsAllowed f place.owner c in
    subst Q here (none i place c (ap (λ places. slice_get places i) listed ∙ at) found)))

-- the same of lemmas
pub lemma-none : {E : Type 0} (problem : List (List Constraint)) (log : List Lemma) (chosen numbers : List ℕ) (set : ℕ → Bool) (v : ℕ) (r : Result (Option Refutation) E)
    → 0 < length numbers
    → Some v ≡ slice_get chosen (length chosen - 1)
    → IsUndeniedBefore problem log chosen numbers
    → set ≡ is_among chosen
    → IfOk r (λ found. IfNone found ((number : ℕ) (clause : List Lit) → slice_get (clauses log) number ≡ Some clause → is_in clause (negative v) ≡ true → is_denied set clause ≡ false))
    → IfOk r (λ found. IfNone found (NoLemmaDenies log (is_among chosen)))
lemma-none problem log chosen numbers set v (Err error) some is before same none = tt
lemma-none problem log chosen numbers set v (Ok (Some d)) some is before same none = tt
lemma-none problem log chosen numbers set v (Ok None) some is before same none =
    let (front, parts) = last-parts chosen v is in
    let (ks, k, e) = last-number numbers some in
    let u = before front v k ks parts e in
    let P : List ℕ → Type 0 = λ vs. NoLemmaDenies log (is_among vs) in
    let here : set ≡ is_among (front ++ v ∷ []) = same ∙ ap is_among parts in
    subst P (sym parts)
    (undenied-more log front v u.lemmas (λ number clause at named. sym (ap (λ (f : ℕ → Bool). is_denied f clause) here) ∙ none number clause at named))
