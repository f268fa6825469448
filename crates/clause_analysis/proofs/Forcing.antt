-- The clause of the denials of what is needed: it follows, it is false, and it forces a literal.
use Rattle.std.proofs.Common.{◌≡◌, ℕ, ◌==◌, nat_lt, Bool, true, false, not, ◌&&◌, ◌||◌, List, [], ◌∷◌, length, map, refl, sym, ap, ◌∙◌, subst, inl, inr, Some, None}
use Rattle.std.specs.List.{list_all}
use Rattle.std.proofs.lemmas.Bool.{cases_Bool, or_cases, or_left, or_right, or_parts, or_from, and_parts, and_from, not_from_false, lt-ltb, cond-true}
use mathlib.Core.Bool.{beq}
use Rattle.op_constraints.specs.declared.Lit.{Lit}
use Rattle.op_constraints.specs.declared.Constraint.{Constraint}
use Rattle.op_constraints.specs.Meets.{at}
use Rattle.op_constraints.specs.Walks.{is_among}
use Rattle.op_constraints.specs.Kept.{is_distinct}
use Rattle.derivations.specs.declared.Hint.{Hint}
use Rattle.derivations.specs.declared.LogCause.TheVariants.{BadClause}
use Rattle.derivations.specs.Clauses.{denial, is_same, is_in}
use Rattle.derivations.specs.Follows.{left, forced, is_nothing, all_hints_fault, is_clause, fault_of}
use Rattle.clause_trail.specs.declared.Entry.{Entry}
use Rattle.clause_trail.specs.Trails.{literals, IsUnknown, IsOrdered}
use Rattle.clause_trail.proofs.Literals.{same_lit, same_itself, forced_alone, all_false}
use Rattle.clause_analysis.specs.Needs.{needed_of}
use Rattle.clause_analysis.proofs.Needed.{needed_in, unknown-within}
use Rattle.clause_analysis.proofs.Resolving.{IsRefuting}

-- the denials of the entries
abbrev pub denials : List Entry → List Lit
denials es = map (λ e. denial e.lit) es

not_twice : (b : Bool) → not (not b) ≡ b
not_twice true = refl
not_twice false = refl

pub denial_twice : (l : Lit) → denial (denial l) ≡ l
denial_twice l = let with_sign : Bool → Lit = λ b. record { var = l.var; positive = b } in ap with_sign (not_twice l.positive)

pub part_of : (es : List Entry) → map denial (denials es) ≡ literals es
part_of [] = refl
part_of (e ∷ es) = ap (λ (l : Lit). l ∷ map denial (denials es)) (denial_twice e.lit) ∙ ap (λ ls. e.lit ∷ ls) (part_of es)

sign : (a p q : Bool) → (a && beq p q) ≡ false → (a && beq p (not q)) ≡ false → a ≡ false
sign false p q e f = refl
sign true true true e f = e
sign true true false e f = f
sign true false true e f = f
sign true false false e f = e

abbrev vars : List Entry → List ℕ
vars es = map (λ l. l.var) (denials es)

absent : (needed : List Bool) (es : List Entry) (l : Lit) → IsUnknown (literals es) l → is_among (vars (needed_of needed es)) l.var ≡ false
absent needed [] l u = refl
absent needed (e ∷ es) l u =
    let a = or_parts (is_same e.lit l) (is_in (literals es) l) u.0 in
    let b = or_parts (is_same e.lit (denial l)) (is_in (literals es) (denial l)) u.1 in
    let rest = absent needed es l (a.1, b.1) in
    elim (cases_Bool (at needed e.lit.var)) [
      | inl here ↦ rw here (or_from (e.lit.var == l.var) (is_among (vars (needed_of needed es)) l.var) (sign (e.lit.var == l.var) e.lit.positive l.positive a.0 b.0) rest)
      | inr other ↦ rw other rest
    ]

vars_distinct : (size : ℕ) (needed : List Bool) (es : List Entry) → IsOrdered size es → is_distinct (vars (needed_of needed es)) ≡ true
vars_distinct size needed [] o = refl
vars_distinct size needed (e ∷ es) o =
    let rest = vars_distinct size needed es o.2 in
    let vs : List ℕ = vars (needed_of needed es) in
    elim (cases_Bool (at needed e.lit.var)) [
      | inl here ↦ rw here (and_from (not (is_among vs e.lit.var)) (is_distinct vs) (not_from_false (is_among vs e.lit.var) (absent needed es e.lit o.1)) rest)
      | inr other ↦ rw other rest
    ]

vars_within : (size : ℕ) (needed : List Bool) (es : List Entry) → IsOrdered size es → list_all (λ v. nat_lt v size) (vars (needed_of needed es)) ≡ true
vars_within size needed [] o = refl
vars_within size needed (e ∷ es) o =
    let rest = vars_within size needed es o.2 in
    let vs : List ℕ = vars (needed_of needed es) in
    elim (cases_Bool (at needed e.lit.var)) [
      | inl here ↦ rw here (and_from (nat_lt e.lit.var size) (list_all (λ v. nat_lt v size) vs) (lt-ltb e.lit.var size o.0) rest)
      | inr other ↦ rw other rest
    ]

pub is_one : (problem : List (List Constraint)) (size : ℕ) (needed : List Bool) (es : List Entry) → size ≡ length problem → IsOrdered size es → is_clause problem (denials (needed_of needed es)) ≡ true
is_one problem size needed es same o =
    let vs : List ℕ = vars (needed_of needed es) in
    and_from (list_all (λ v. nat_lt v (length problem)) vs) (is_distinct vs)
    (subst (λ n. list_all (λ v. nat_lt v n) vs ≡ true) same (vars_within size needed es o))
    (vars_distinct size needed es o)

-- the clause of the denials of what is needed follows
pub follows : (problem : List (List Constraint)) (earlier : List (List Lit)) (size : ℕ) (needed : List Bool) (es : List Entry) (passed : List Lit) (hints : List Hint)
    → size ≡ length problem
    → IsOrdered size es
    → ((m : Lit) → is_in passed m ≡ true → IsUnknown (literals es) m)
    → IsRefuting problem earlier (literals (needed_of needed es)) passed hints
    → fault_of problem earlier (denials (needed_of needed es)) hints ≡ None
follows problem earlier size needed es passed hints same o apart r =
    let lits : List Lit = denials (needed_of needed es) in
    let part : List Lit = literals (needed_of needed es) in
    cond-true (is_clause problem lits) (all_hints_fault problem earlier (map denial lits) hints) (Some BadClause) (is_one problem size needed es same o)
    ∙ (ap (λ ls. all_hints_fault problem earlier ls hints) (part_of (needed_of needed es))
    ∙ r.refutes part (λ m i. unknown-within part (literals es) m (λ k h. let both = needed_in needed es k h in both.0) (apart m i)) (λ m i. i))

-- where the entries' literals are true, their denials are false
pub denied_in : (fs : List Entry) (trail : List Lit) → ((m : Lit) → is_in (literals fs) m ≡ true → is_in trail m ≡ true) → list_all (λ k. is_in trail (denial k)) (denials fs) ≡ true
denied_in [] trail f = refl
denied_in (e ∷ es) trail f =
    and_from (is_in trail (denial (denial e.lit))) (list_all (λ k. is_in trail (denial k)) (denials es))
    (subst (λ (l : Lit). is_in trail l ≡ true) (sym (denial_twice e.lit)) (f e.lit (or_left (is_same e.lit e.lit) (is_in (literals es) e.lit) (same_itself e.lit))))
    (denied_in es trail (λ m i. f m (or_right (is_same e.lit m) (is_in (literals es) m) i)))

pub unmet : (fs : List Entry) (trail : List Lit) → ((m : Lit) → is_in (literals fs) m ≡ true → is_in trail m ≡ true) → is_nothing (left trail (denials fs)) ≡ true
unmet fs trail f = ap is_nothing (all_false trail (denials fs) (denied_in fs trail f))

weaker : (trail : List Lit) (l : Lit) (ks : List Lit) → list_all (λ k. is_in trail (denial k)) ks ≡ true → list_all (λ k. is_same k l || is_in trail (denial k)) ks ≡ true
weaker trail l [] a = refl
weaker trail l (k ∷ ks) a =
    let parts = and_parts (is_in trail (denial k)) (list_all (λ k. is_in trail (denial k)) ks) a in
    and_from (is_same k l || is_in trail (denial k)) (list_all (λ k. is_same k l || is_in trail (denial k)) ks) (or_right (is_same k l) (is_in trail (denial k)) parts.0) (weaker trail l ks parts.1)

-- the denials are false but for the one of which the trail says nothing
pub but_one : (e : Entry) (fs : List Entry) (trail : List Lit) → ((m : Lit) → is_in (literals fs) m ≡ true → is_in trail m ≡ true) → list_all (λ k. is_same k (denial e.lit) || is_in trail (denial k)) (denials (e ∷ fs)) ≡ true
but_one e fs trail f =
    let l : Lit = denial e.lit in
    and_from (is_same l l || is_in trail (denial l)) (list_all (λ k. is_same k l || is_in trail (denial k)) (denials fs))
    (or_left (is_same l l) (is_in trail (denial l)) (same_itself l))
    (weaker trail l (denials fs) (denied_in fs trail f))

pub denied_unknown : (trail : List Lit) (l : Lit) → IsUnknown trail l → IsUnknown trail (denial l)
denied_unknown trail l u = (u.1, subst (λ (m : Lit). is_in trail m ≡ false) (sym (denial_twice l)) u.0)

pub forces : (e : Entry) (fs : List Entry) (trail : List Lit) → IsUnknown trail e.lit → ((m : Lit) → is_in (literals fs) m ≡ true → is_in trail m ≡ true) → forced trail (denials (e ∷ fs)) ≡ Some (denial e.lit)
forces e fs trail u f =
    let l : Lit = denial e.lit in
    let v = denied_unknown trail e.lit u in
    forced_alone trail (denials (e ∷ fs)) l (or_left (is_same l l) (is_in (denials fs) l) (same_itself l)) v.0 v.1 (but_one e fs trail f)

-- what is so of each literal of a clause is so of one
pub each_in : (test : Lit → Bool) (ls : List Lit) (k : Lit) → list_all test ls ≡ true → is_in ls k ≡ true → test k ≡ true
each_in test [] k a i = absurd (let bad : false ≡ true = i in cc)
each_in test (l ∷ ls) k a i =
    let parts = and_parts (test l) (list_all test ls) a in
    elim (or_cases (is_same l k) (is_in ls k) i) [
      | inl same ↦ subst (λ (m : Lit). test m ≡ true) (same_lit l k same) parts.0
      | inr rest ↦ each_in test ls k parts.1 rest
    ]
