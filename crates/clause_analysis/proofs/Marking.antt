-- Variables that are marked as needed.
use Rattle.std.proofs.Common.{◌≡◌, ℕ, zero, suc, ◌<◌, ◌==◌, Bool, true, false, List, [], ◌∷◌, length, refl, sym, ◌∙◌, subst, inl, inr, arith, set, get_or-set_other, get_or-set_same, length-set}
use Rattle.std.proofs.lemmas.Bool.{cases_eq, or_cases, and_parts, eqb-true}
use mathlib.Core.Bool.{beq}
use Rattle.op_constraints.specs.declared.Lit.{Lit}
use Rattle.op_constraints.specs.Meets.{at}
use Rattle.derivations.specs.Clauses.{is_same, is_in}
use Rattle.clause_analysis.specs.Needs.{with_marked}

within : (needed : List Bool) (v : ℕ) → at needed v ≡ true → v < length needed
within [] v e = absurd (let bad : false ≡ true = e in cc)
within (b ∷ bs) zero e = omega arith
within (b ∷ bs) (suc v) e = let rest = within bs v e in omega (arith, rest)

kept-set : (needed : List Bool) (v w : ℕ) → at needed w ≡ true → at (set needed v true) w ≡ true
kept-set needed v w e =
    elim (cases_eq v w) [
      | inl same ↦ subst (λ u. at (set needed v true) u ≡ true) same (get_or-set_same needed v true false (subst (λ u. u < length needed) (sym same) (within needed w e)))
      | inr other ↦ get_or-set_other needed v w true false (λ s. other (sym s)) ∙ e
    ]

-- what is needed stays needed
pub kept : (needed : List Bool) (lits : List Lit) (w : ℕ) → at needed w ≡ true → at (with_marked needed lits) w ≡ true
kept needed [] w e = e
kept needed (l ∷ ls) w e = kept (set needed l.var true) ls w (kept-set needed l.var w e)

pub length-marked : (needed : List Bool) (lits : List Lit) → length (with_marked needed lits) ≡ length needed
length-marked needed [] = refl
length-marked needed (l ∷ ls) = length-marked (set needed l.var true) ls ∙ length-set needed l.var true

-- the variables of the literals are needed
pub marked : (needed : List Bool) (lits : List Lit) (k : Lit) → is_in lits k ≡ true → k.var < length needed → at (with_marked needed lits) k.var ≡ true
marked needed [] k i h = absurd (let bad : false ≡ true = i in cc)
marked needed (l ∷ ls) k i h =
    elim (or_cases (is_same l k) (is_in ls k) i) [
      | inl same ↦
          (let parts = and_parts (l.var == k.var) (beq l.positive k.positive) same in
          let var : l.var ≡ k.var = eqb-true l.var k.var parts.0 in
          kept (set needed l.var true) ls k.var (subst (λ u. at (set needed l.var true) u ≡ true) var (get_or-set_same needed l.var true false (subst (λ u. u < length needed) (sym var) h))))
      | inr rest ↦ marked (set needed l.var true) ls k rest (let size = length-set needed l.var true in omega (arith, size, h))
    ]
