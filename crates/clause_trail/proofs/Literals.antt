-- Literals, and what a clause forces.
use Rattle.std.proofs.Common.{◌≡◌, ℕ, ◌==◌, Bool, true, false, not, cond, ◌&&◌, ◌||◌, List, [], ◌∷◌, refl, sym, ap, ◌∙◌, subst, inl, inr, ◌⊎◌, Option, Some, None}
use Rattle.std.specs.Option.{option_and_then}
use Rattle.std.specs.List.{list_any, list_all, filter}
use Rattle.std.proofs.lemmas.Bool.{cases_Bool, or_cases, or_left, or_right, and_parts, and_from, eqb-true, eq-eqb, both_ways, false_from_ne_true, cond-true, cond-false}
use mathlib.Core.Bool.{beq}
use Rattle.op_constraints.proofs.WalkLaws.{under}
use Rattle.op_constraints.specs.declared.Lit.{Lit}
use Rattle.derivations.specs.Clauses.{denial, is_same, is_in}
use Rattle.derivations.specs.Follows.{left, sole, forced, is_nothing}

pub beq_same : (a b : Bool) → beq a b ≡ true → a ≡ b
beq_same true true e = refl
beq_same true false e = cc
beq_same false true e = cc
beq_same false false e = refl

beq_refl : (b : Bool) → beq b b ≡ true
beq_refl true = refl
beq_refl false = refl

pub same_lit : (k l : Lit) → is_same k l ≡ true → k ≡ l
same_lit k l e =
    let parts = and_parts (k.var == l.var) (beq k.positive l.positive) e in
    let with_var : ℕ → Lit = λ v. record { var = v; positive = k.positive } in
    let with_sign : Bool → Lit = λ b. record { var = l.var; positive = b } in
    ap with_var (eqb-true k.var l.var parts.0) ∙ ap with_sign (beq_same k.positive l.positive parts.1)

pub same_itself : (l : Lit) → is_same l l ≡ true
same_itself l = and_from (l.var == l.var) (beq l.positive l.positive) (eq-eqb l.var l.var refl) (beq_refl l.positive)

-- where each literal but one is false, those that are left are that one
pub left-but_one : (trail clause : List Lit) (l : Lit) → is_in trail (denial l) ≡ false → list_all (λ k. is_same k l || is_in trail (denial k)) clause ≡ true → left trail clause ≡ filter (λ k. is_same k l) clause
left-but_one trail [] l unfalse a = refl
left-but_one trail (k ∷ ks) l unfalse a =
    let parts = and_parts (is_same k l || is_in trail (denial k)) (list_all (λ k. is_same k l || is_in trail (denial k)) ks) a in
    let rest = left-but_one trail ks l unfalse parts.1 in
    elim (cases_Bool (is_same k l)) [
      | inl same ↦
          (let here : is_in trail (denial k) ≡ false = subst (λ (m : Lit). is_in trail (denial m) ≡ false) (sym (same_lit k l same)) unfalse in
          rw here (rw same (ap (λ xs. k ∷ xs) rest)))
      | inr other ↦
          elim (or_cases (is_same k l) (is_in trail (denial k)) parts.0) [
            | inl same ↦ absurd (both_ways (is_same k l) other same)
            | inr here ↦ rw here (rw other rest)
          ]
    ]

all_same : (ks : List Lit) (l : Lit) → list_all (λ m. is_same m l) (filter (λ k. is_same k l) ks) ≡ true
all_same [] l = refl
all_same (k ∷ ks) l =
    elim (cases_Bool (is_same k l)) [
      | inl same ↦ rw same (and_from (is_same k l) (list_all (λ m. is_same m l) (filter (λ k. is_same k l) ks)) same (all_same ks l))
      | inr other ↦ rw other (all_same ks l)
    ]

pub sole_same : (ks : List Lit) (l : Lit) → is_in ks l ≡ true → sole (filter (λ k. is_same k l) ks) ≡ Some l
sole_same [] l h = absurd (let bad : false ≡ true = h in cc)
sole_same (k ∷ ks) l h =
    elim (cases_Bool (is_same k l)) [
      | inl same ↦
          (let e : k ≡ l = same_lit k l same in
          let all : list_all (λ m. is_same m k) (filter (λ j. is_same j l) ks) ≡ true = subst (λ (n : Lit). list_all (λ m. is_same m n) (filter (λ j. is_same j l) ks) ≡ true) (sym e) (all_same ks l) in
          rw same (cond-true (list_all (λ m. is_same m k) (filter (λ j. is_same j l) ks)) (Some k) None all ∙ ap (λ m. Some m) e))
      | inr other ↦
          elim (or_cases (is_same k l) (is_in ks l) h) [
            | inl same ↦ absurd (both_ways (is_same k l) other same)
            | inr rest ↦ rw other (sole_same ks l rest)
          ]
    ]

pub none_same : (ks : List Lit) (l : Lit) → is_in ks l ≡ false → is_nothing (filter (λ k. is_same k l) ks) ≡ true
none_same [] l h = refl
none_same (k ∷ ks) l h =
    elim (cases_Bool (is_same k l)) [
      | inl same ↦ absurd (both_ways (is_in (k ∷ ks) l) h (or_left (is_same k l) (is_in ks l) same))
      | inr other ↦ rw other (none_same ks l (false_from_ne_true (is_in ks l) (λ i. both_ways (is_in (k ∷ ks) l) h (or_right (is_same k l) (is_in ks l) i))))
    ]

kept_first : (b : Bool) (k l : Lit) → cond b (Some k) None ≡ Some l → k ≡ l
kept_first true k l e = cc
kept_first false k l e = absurd (let bad : None ≡ Some l = e in cc)

pub kept_false : (b : Bool) (k l : Lit) → cond b None (Some k) ≡ Some l → (b ≡ false) × (k ≡ l)
kept_false true k l e = absurd (let bad : None ≡ Some l = e in cc)
kept_false false k l e = (refl, (let same : k ≡ l = cc in same))

pub sole_in : (trail clause : List Lit) (l : Lit) → sole (left trail clause) ≡ Some l → (is_in clause l ≡ true) × (is_in trail (denial l) ≡ false)
sole_in trail [] l e = absurd (let bad : None ≡ Some l = e in cc)
sole_in trail (k ∷ ks) l e =
    elim (cases_Bool (is_in trail (denial k))) [
      | inl here ↦
          (let e' = rw here at e in let rest = sole_in trail ks l e' in (or_right (is_same k l) (is_in ks l) rest.0, rest.1))
      | inr other ↦
          (let e' = rw other at e in
          let same : k ≡ l = kept_first (list_all (λ m. is_same m k) (left trail ks)) k l e' in (
            or_left (is_same k l) (is_in ks l) (subst (λ (m : Lit). is_same k m ≡ true) same (same_itself k)),
            subst (λ (m : Lit). is_in trail (denial m) ≡ false) same other,
          ))
    ]

-- a clause forces the one of its literals of which the part says nothing, where the part makes the others false
pub forced_alone : (part clause : List Lit) (l : Lit) → is_in clause l ≡ true → is_in part l ≡ false → is_in part (denial l) ≡ false → list_all (λ k. is_same k l || is_in part (denial k)) clause ≡ true → forced part clause ≡ Some l
forced_alone part clause l h untrue unfalse a =
    ap (λ o. option_and_then (λ m. cond (is_in part m) None (Some m)) o) (ap sole (left-but_one part clause l unfalse a) ∙ sole_same clause l h)
    ∙ cond-false (is_in part l) None (Some l) untrue

-- what a trail's clause forces is of the clause, and the trail says nothing of it
pub forced_new : (trail clause : List Lit) (l : Lit) → forced trail clause ≡ Some l → (is_in clause l ≡ true) × (is_in trail l ≡ false) × (is_in trail (denial l) ≡ false)
forced_new trail clause l f =
    let (k, is, kept) = under (λ k. cond (is_in trail k) None (Some k)) (sole (left trail clause)) l f in
    let parts = kept_false (is_in trail k) k l kept in
    let found = sole_in trail clause l (is ∙ ap (λ m. Some m) parts.1) in
    (found.0, subst (λ (m : Lit). is_in trail m ≡ false) parts.1 parts.0, found.1)

-- The first step: a clause all of whose literals the part makes false
pub all_false : (part clause : List Lit) → list_all (λ k. is_in part (denial k)) clause ≡ true → left part clause ≡ []
all_false part [] a = refl
all_false part (k ∷ ks) a =
    let parts = and_parts (is_in part (denial k)) (list_all (λ k. is_in part (denial k)) ks) a in
    rw parts.0 (all_false part ks parts.1)

some_same : (k l : Lit) → Some k ≡ Some l → k ≡ l
some_same k l e = cc

-- where a row of literals is one literal, each of them is
sole_all : (ls : List Lit) (l : Lit) → sole ls ≡ Some l → list_all (λ k. is_same k l) ls ≡ true
sole_all [] l e = absurd (let bad : None ≡ Some l = e in cc)
sole_all (k ∷ ks) l e =
    elim (cases_Bool (list_all (λ m. is_same m k) ks)) [
      | inl all ↦
          (let same : k ≡ l = some_same k l (sym (cond-true (list_all (λ m. is_same m k) ks) (Some k) None all) ∙ e) in
          subst (λ (m : Lit). list_all (λ j. is_same j m) (k ∷ ks) ≡ true) same (and_from (is_same k k) (list_all (λ m. is_same m k) ks) (same_itself k) all))
      | inr other ↦ absurd (let bad : None ≡ Some l = sym (cond-false (list_all (λ m. is_same m k) ks) (Some k) None other) ∙ e in cc)
    ]

-- where what is left is one literal, each other literal of the clause is false
left_all : (trail clause : List Lit) (l : Lit) → list_all (λ k. is_same k l) (left trail clause) ≡ true → list_all (λ k. is_same k l || is_in trail (denial k)) clause ≡ true
left_all trail [] l a = refl
left_all trail (k ∷ ks) l a =
    elim (cases_Bool (is_in trail (denial k))) [
      | inl here ↦
          (let a' = rw here at a in
          and_from (is_same k l || is_in trail (denial k)) (list_all (λ k. is_same k l || is_in trail (denial k)) ks) (or_right (is_same k l) (is_in trail (denial k)) here) (left_all trail ks l a'))
      | inr other ↦
          (let a' = rw other at a in
          let parts = and_parts (is_same k l) (list_all (λ k. is_same k l) (left trail ks)) a' in
          and_from (is_same k l || is_in trail (denial k)) (list_all (λ k. is_same k l || is_in trail (denial k)) ks) (or_left (is_same k l) (is_in trail (denial k)) parts.0) (left_all trail ks l parts.1))
    ]

-- the other literals of a clause that forces one are false
pub forced_others : (trail clause : List Lit) (l : Lit) → forced trail clause ≡ Some l → list_all (λ k. is_same k l || is_in trail (denial k)) clause ≡ true
forced_others trail clause l f =
    let (k, is, kept) = under (λ k. cond (is_in trail k) None (Some k)) (sole (left trail clause)) l f in
    let parts = kept_false (is_in trail k) k l kept in
    left_all trail clause l (sole_all (left trail clause) l (is ∙ ap (λ m. Some m) parts.1))

-- the literals of a false clause are false
pub nothing_others : (trail clause : List Lit) → is_nothing (left trail clause) ≡ true → list_all (λ k. is_in trail (denial k)) clause ≡ true
nothing_others trail [] e = refl
nothing_others trail (k ∷ ks) e =
    elim (cases_Bool (is_in trail (denial k))) [
      | inl here ↦ (let e' = rw here at e in and_from (is_in trail (denial k)) (list_all (λ k. is_in trail (denial k)) ks) here (nothing_others trail ks e'))
      | inr other ↦ absurd (let e' = rw other at e in let bad : false ≡ true = e' in cc)
    ]
