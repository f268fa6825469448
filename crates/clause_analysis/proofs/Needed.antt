-- The entries of a trail, and those that are needed.
use Rattle.std.proofs.Common.{◌≡◌, ℕ, zero, suc, ◌+◌, ◌<◌, ◌≤◌, ◌==◌, Bool, true, false, ◌||◌, List, [], ◌∷◌, length, take, drop, get_or, refl, sym, ap, ◌∙◌, subst, arith, inl, inr, drop-cons}
use Rattle.std.proofs.lemmas.Bool.{cases_Bool, or_cases, or_left, or_right, and_parts, both_ways, eqb-true, false_from_ne_true}
use mathlib.Core.Bool.{beq}
use Rattle.op_constraints.specs.declared.Lit.{Lit}
use Rattle.op_constraints.specs.declared.Constraint.{Constraint}
use Rattle.op_constraints.specs.Meets.{at}
use Rattle.derivations.specs.Clauses.{denial, is_same, is_in}
use Rattle.clause_trail.specs.declared.Entry.{Entry}
use Rattle.clause_trail.specs.Trails.{literals, IsUnknown, IsOrdered}
use Rattle.clause_trail.proofs.Literals.{same_lit, same_itself}
use Rattle.clause_analysis.specs.Caused.{AllStand}
use Rattle.clause_analysis.specs.Needs.{needed_of}

pub same_var : (k l : Lit) → is_same k l ≡ true → k.var ≡ l.var
same_var k l e = let parts = and_parts (k.var == l.var) (beq k.positive l.positive) e in eqb-true k.var l.var parts.0

pub in_ordered : (size : ℕ) (es : List Entry) (l : Lit) → IsOrdered size es → is_in (literals es) l ≡ true → l.var < size
in_ordered size [] l o h = absurd (let bad : false ≡ true = h in cc)
in_ordered size (e ∷ es) l o h =
    elim (or_cases (is_same e.lit l) (is_in (literals es) l) h) [
      | inl same ↦ subst (λ v. v < size) (same_var e.lit l same) o.0
      | inr rest ↦ in_ordered size es l o.2 rest
    ]

pub in_needed : (needed : List Bool) (es : List Entry) (m : Lit) → is_in (literals es) m ≡ true → at needed m.var ≡ true → is_in (literals (needed_of needed es)) m ≡ true
in_needed needed [] m h n = h
in_needed needed (e ∷ es) m h n =
    elim (cases_Bool (at needed e.lit.var)) [
      | inl here ↦
          elim (or_cases (is_same e.lit m) (is_in (literals es) m) h) [
            | inl same ↦ rw here (or_left (is_same e.lit m) (is_in (literals (needed_of needed es)) m) same)
            | inr rest ↦ rw here (or_right (is_same e.lit m) (is_in (literals (needed_of needed es)) m) (in_needed needed es m rest n))
          ]
      | inr other ↦
          elim (or_cases (is_same e.lit m) (is_in (literals es) m) h) [
            | inl same ↦ absurd (both_ways (at needed e.lit.var) other (subst (λ v. at needed v ≡ true) (sym (same_var e.lit m same)) n))
            | inr rest ↦ rw other (in_needed needed es m rest n)
          ]
    ]

pub needed_in : (needed : List Bool) (es : List Entry) (m : Lit) → is_in (literals (needed_of needed es)) m ≡ true → (is_in (literals es) m ≡ true) × (at needed m.var ≡ true)
needed_in needed [] m h = absurd (let bad : false ≡ true = h in cc)
needed_in needed (e ∷ es) m h =
    elim (cases_Bool (at needed e.lit.var)) [
      | inl here ↦
          (let h' = rw here at h in
          elim (or_cases (is_same e.lit m) (is_in (literals (needed_of needed es)) m) h') [
            | inl same ↦ (or_left (is_same e.lit m) (is_in (literals es) m) same, subst (λ v. at needed v ≡ true) (same_var e.lit m same) here)
            | inr rest ↦ (let more = needed_in needed es m rest in (or_right (is_same e.lit m) (is_in (literals es) m) more.0, more.1))
          ])
      | inr other ↦
          (let h' = rw other at h in
          let more = needed_in needed es m h' in (or_right (is_same e.lit m) (is_in (literals es) m) more.0, more.1))
    ]

pub unknown-within : (xs ys : List Lit) (l : Lit) → ((m : Lit) → is_in xs m ≡ true → is_in ys m ≡ true) → IsUnknown ys l → IsUnknown xs l
unknown-within xs ys l f u = (
  false_from_ne_true (is_in xs l) (λ h. both_ways (is_in ys l) u.0 (f l h)),
  false_from_ne_true (is_in xs (denial l)) (λ h. both_ways (is_in ys (denial l)) u.1 (f (denial l) h)),
)

pub drop-in : (k : ℕ) (es : List Entry) (m : Lit) → is_in (literals (drop k es)) m ≡ true → is_in (literals es) m ≡ true
drop-in zero es m h = h
drop-in (suc k) [] m h = h
drop-in (suc k) (e ∷ es) m h = or_right (is_same e.lit m) (is_in (literals es) m) (drop-in k es m h)

pub take-later : (i j : ℕ) (es : List Entry) (m : Lit) → i ≤ j → is_in (literals (take i es)) m ≡ true → is_in (literals (take j es)) m ≡ true
take-later zero j es m le h = absurd (let bad : false ≡ true = h in cc)
take-later (suc i) zero es m le h = absurd (omega arith)
take-later (suc i) (suc j) [] m le h = h
take-later (suc i) (suc j) (e ∷ es) m le h =
    elim (or_cases (is_same e.lit m) (is_in (literals (take i es)) m) h) [
      | inl same ↦ or_left (is_same e.lit m) (is_in (literals (take j es)) m) same
      | inr rest ↦ or_right (is_same e.lit m) (is_in (literals (take j es)) m) (take-later i j es m (omega arith) rest)
    ]

pub take-last : (d : ℕ) (es : List Entry) (e : Entry) (rest : List Entry) → drop d es ≡ e ∷ rest → is_in (literals (take (suc d) es)) e.lit ≡ true
take-last zero [] e rest h = absurd (let bad : [] ≡ e ∷ rest = h in cc)
take-last zero (f ∷ es) e rest h =
    let same : f ≡ e = cc in subst (λ (g : Entry). is_same f.lit g.lit || false ≡ true) same (or_left (is_same f.lit f.lit) false (same_itself f.lit))
take-last (suc d) [] e rest h = absurd (let bad : [] ≡ e ∷ rest = h in cc)
take-last (suc d) (f ∷ es) e rest h = or_right (is_same f.lit e.lit) (is_in (literals (take (suc d) es)) e.lit) (take-last d es e rest h)

-- the older entries say nothing of the variables of the newer ones
pub newer_unknown : (size d : ℕ) (es : List Entry) (m : Lit) → IsOrdered size es → is_in (literals (take d es)) m ≡ true → IsUnknown (literals (drop d es)) m
newer_unknown size zero es m o h = absurd (let bad : false ≡ true = h in cc)
newer_unknown size (suc d) [] m o h = absurd (let bad : false ≡ true = h in cc)
newer_unknown size (suc d) (e ∷ es) m o h =
    elim (or_cases (is_same e.lit m) (is_in (literals (take d es)) m) h) [
      | inl same ↦
          (let is : e.lit ≡ m = same_lit e.lit m same in
          unknown-within (literals (drop d es)) (literals es) m (drop-in d es) (subst (λ (l : Lit). IsUnknown (literals es) l) is o.1))
      | inr rest ↦ newer_unknown size d es m o.2 rest
    ]

pub ordered-drop : (size d : ℕ) (es : List Entry) → IsOrdered size es → IsOrdered size (drop d es)
ordered-drop size zero es o = o
ordered-drop size (suc d) [] o = o
ordered-drop size (suc d) (e ∷ es) o = ordered-drop size d es o.2

pub stand-drop : (problem : List (List Constraint)) (earlier : List (List Lit)) (d : ℕ) (es : List Entry) → AllStand problem earlier es → AllStand problem earlier (drop d es)
stand-drop problem earlier zero es a = a
stand-drop problem earlier (suc d) [] a = a
stand-drop problem earlier (suc d) (e ∷ es) a = stand-drop problem earlier d es a.1

pub entry_at : (es : List Entry) (d : ℕ) (e : Entry) → d < length es → e ≡ get_or es d e → drop d es ≡ e ∷ drop (d + 1) es
entry_at es d e h is =
    let next : suc d ≡ d + 1 = omega arith in
    drop-cons es d e h ∙ (ap (λ x. x ∷ drop (suc d) es) (sym is) ∙ ap (λ n. e ∷ drop n es) next)

pub drop-all : (es : List Entry) (d : ℕ) → length es ≤ d → drop d es ≡ []
drop-all [] zero h = refl
drop-all [] (suc d) h = refl
drop-all (e ∷ es) zero h = absurd (omega arith)
drop-all (e ∷ es) (suc d) h = drop-all es d (omega arith)

-- an entry that isn't needed is passed over
pub passed_over : (needed : List Bool) (es : List Entry) (d : ℕ) (e : Entry) → drop d es ≡ e ∷ drop (d + 1) es → at needed e.lit.var ≡ false → needed_of needed (drop d es) ≡ needed_of needed (drop (d + 1) es)
passed_over needed es d e there unneeded = ap (needed_of needed) there ∙ rw unneeded refl

pub taken : (needed : List Bool) (es : List Entry) (d : ℕ) (e : Entry) → drop d es ≡ e ∷ drop (d + 1) es → at needed e.lit.var ≡ true → needed_of needed (drop d es) ≡ e ∷ needed_of needed (drop (d + 1) es)
taken needed es d e there is = ap (needed_of needed) there ∙ rw is refl
