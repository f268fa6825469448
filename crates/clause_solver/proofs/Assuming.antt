-- Trails of assumptions, and what a search from one says of the variables.
use Rattle.std.proofs.Common.{◌≡◌, ℕ, ◌==◌, Bool, true, false, ◌&&◌, List, [], ◌∷◌, length, refl, sym, subst, inl, inr}
use Rattle.std.specs.List.{list_all}
use Rattle.std.proofs.lemmas.Bool.{cases_Bool, or_cases, or_left, or_right, or_from, and_parts, and_from, eqb-true, eq-eqb}
use mathlib.Core.Bool.{beq}
use Rattle.op_constraints.specs.declared.Lit.{Lit}
use Rattle.op_constraints.specs.declared.Constraint.{Constraint}
use Rattle.op_constraints.specs.Meets.{at}
use Rattle.op_constraints.specs.Walks.{is_among}
use Rattle.derivations.specs.declared.Lemma.{Lemma}
use Rattle.derivations.specs.Clauses.{positive, negative, denial, is_same, is_in, lit_holds}
use Rattle.derivations.specs.Accepted.{denies}
use Rattle.clause_trail.specs.declared.Cause.{Cause}
use Rattle.clause_trail.specs.declared.Cause.TheVariants.{Assumed, Decided, Forced}
use Rattle.clause_trail.specs.declared.Entry.{Entry}
use Rattle.clause_trail.specs.Trails.{Seen, literals}
use Rattle.clause_trail.proofs.Literals.{same_itself}
use Rattle.clause_analysis.specs.Caused.{is_assumed, assumed, Stands, AllStand, IsCaused}
use Rattle.clause_analysis.proofs.Forcing.{each_in}
use Rattle.clause_solver.specs.declared.searching.Answer.{Answer}
use Rattle.clause_solver.specs.declared.searching.Answer.TheVariants.{Model, Refuted, Spent}
use Rattle.clause_solver.specs.Held.{IsAssumption}
use Rattle.clause_solver.specs.Searching.{IsAnswer}
use Rattle.clause_solver.specs.Solving.{with_assumed, with_all, Solves}

against : (a p : Bool) → p ≡ true → (a && beq p false) ≡ false
against false p e = refl
against true true e = refl
against true false e = absurd (let bad : false ≡ true = e in cc)

-- where each literal says that its variable is in, none says that one is out
pub none_out : (es : List Entry) (v : ℕ) → list_all (λ e. e.lit.positive) es ≡ true → is_in (literals es) (negative v) ≡ false
none_out [] v a = refl
none_out (e ∷ es) v a =
    let parts = and_parts e.lit.positive (list_all (λ e. e.lit.positive) es) a in
    or_from (is_same e.lit (negative v)) (is_in (literals es) (negative v)) (against (e.lit.var == v) e.lit.positive parts.0) (none_out es v parts.1)

abbrev assuming_one : ℕ → Entry
assuming_one v = record { lit = positive v; cause = Assumed }

one-kept : (es : List Entry) (v : ℕ) (l : Lit) → is_in (literals es) l ≡ true → is_in (literals (with_assumed es v)) l ≡ true
one-kept es v l h =
    elim (cases_Bool (is_in (literals es) (positive v))) [
      | inl here ↦ rw here h
      | inr other ↦ rw other (or_right (is_same (positive v) l) (is_in (literals es) l) h)
    ]

one-in : (es : List Entry) (v : ℕ) → is_in (literals (with_assumed es v)) (positive v) ≡ true
one-in es v =
    elim (cases_Bool (is_in (literals es) (positive v))) [
      | inl here ↦ rw here here
      | inr other ↦ rw other (or_left (is_same (positive v) (positive v)) (is_in (literals es) (positive v)) (same_itself (positive v)))
    ]

one-test : (test : Entry → Bool) (es : List Entry) (v : ℕ) → list_all test es ≡ true → test (assuming_one v) ≡ true → list_all test (with_assumed es v) ≡ true
one-test test es v a h =
    elim (cases_Bool (is_in (literals es) (positive v))) [
      | inl here ↦ rw here a
      | inr other ↦ rw other (and_from (test (assuming_one v)) (list_all test es) h a)
    ]

all-kept : (es : List Entry) (vs : List ℕ) (l : Lit) → is_in (literals es) l ≡ true → is_in (literals (with_all es vs)) l ≡ true
all-kept es [] l h = h
all-kept es (v ∷ vs) l h = all-kept (with_assumed es v) vs l (one-kept es v l h)

all-in : (es : List Entry) (vs : List ℕ) (v : ℕ) → is_among vs v ≡ true → is_in (literals (with_all es vs)) (positive v) ≡ true
all-in es [] v h = absurd (let bad : false ≡ true = h in cc)
all-in es (w ∷ vs) v h =
    elim (or_cases (w == v) (is_among vs v) h) [
      | inl same ↦ subst (λ u. is_in (literals (with_all es (w ∷ vs))) (positive u) ≡ true) (eqb-true w v same) (all-kept (with_assumed es w) vs (positive w) (one-in es w))
      | inr rest ↦ all-in (with_assumed es w) vs v rest
    ]

all-test : (test : Entry → Bool) (es : List Entry) (vs : List ℕ) → list_all test es ≡ true → ((v : ℕ) → is_among vs v ≡ true → test (assuming_one v) ≡ true) → list_all test (with_all es vs) ≡ true
all-test test es [] a f = a
all-test test es (v ∷ vs) a f =
    all-test test (with_assumed es v) vs (one-test test es v a (f v (or_left (v == v) (is_among vs v) (eq-eqb v v refl)))) (λ w i. f w (or_right (v == w) (is_among vs w) i))

stands : (problem : List (List Constraint)) (lemmas : List (List Lit)) (older : List Entry) (l : Lit) (cause : Cause) → is_assumed cause ≡ true → list_all (λ e. is_assumed e.cause) older ≡ true → Stands problem lemmas older l cause
stands problem lemmas older l Assumed a h = h
stands problem lemmas older l Decided a h = absurd (let bad : false ≡ true = a in cc)
stands problem lemmas older l (Forced reason) a h = absurd (let bad : false ≡ true = a in cc)

all_stand : (problem : List (List Constraint)) (lemmas : List (List Lit)) (es : List Entry) → list_all (λ e. is_assumed e.cause) es ≡ true → AllStand problem lemmas es
all_stand problem lemmas [] a = tt
all_stand problem lemmas (e ∷ es) a =
    let parts = and_parts (is_assumed e.cause) (list_all (λ e. is_assumed e.cause) es) a in
    (stands problem lemmas es e.lit e.cause parts.0 parts.1, all_stand problem lemmas es parts.1)

each_literal : (test : Lit → Bool) (es : List Entry) → list_all (λ e. is_assumed e.cause) es ≡ true → list_all (λ e. test e.lit) es ≡ true → list_all test (assumed es) ≡ true
each_literal test [] a b = refl
each_literal test (e ∷ es) a b =
    let parts = and_parts (is_assumed e.cause) (list_all (λ e. is_assumed e.cause) es) a in
    let more = and_parts (test e.lit) (list_all (λ e. test e.lit) es) b in
    let here : is_assumed e.cause ≡ true = parts.0 in
    rw here (and_from (test e.lit) (list_all test (assumed es)) more.0 (each_literal test es parts.1 more.1))

in_assumed : (es : List Entry) (l : Lit) → list_all (λ e. is_assumed e.cause) es ≡ true → is_in (literals es) l ≡ true → is_in (assumed es) l ≡ true
in_assumed [] l a h = h
in_assumed (e ∷ es) l a h =
    let parts = and_parts (is_assumed e.cause) (list_all (λ e. is_assumed e.cause) es) a in
    let here : is_assumed e.cause ≡ true = parts.0 in
    elim (or_cases (is_same e.lit l) (is_in (literals es) l) h) [
      | inl same ↦ rw here (or_left (is_same e.lit l) (is_in (assumed es) l) same)
      | inr rest ↦ rw here (or_right (is_same e.lit l) (is_in (assumed es) l) (in_assumed es l parts.1 rest))
    ]

all_assumed : (vs : List ℕ) → list_all (λ e. is_assumed e.cause) (with_all [] vs) ≡ true
all_assumed vs = all-test (λ e. is_assumed e.cause) [] vs refl (λ v i. refl)

pub begins : (problem : List (List Constraint)) (lemmas : List (List Lit)) (trail : Seen) (vs : List ℕ) → trail.size ≡ length problem → trail.entries ≡ with_all [] vs → IsCaused problem lemmas trail
begins problem lemmas trail vs size is = record {
  size = size;
  stand = subst (λ (es : List Entry). AllStand problem lemmas es) (sym is) (all_stand problem lemmas (with_all [] vs) (all_assumed vs));
}

pub assumption_is : (entries : List Entry) (vs : List ℕ) → entries ≡ with_all [] vs → IsAssumption vs (assumed entries)
assumption_is entries vs is = subst (λ (es : List Entry). IsAssumption vs (assumed es)) (sym is) (record {
  each = λ v i. in_assumed (with_all [] vs) (positive v) (all_assumed vs) (all-in [] vs v i);
  alone = each_literal (λ l. l.positive && is_among vs l.var) (with_all [] vs) (all_assumed vs) (all-test (λ e. e.lit.positive && is_among vs e.lit.var) [] vs refl (λ v i. i));
})

denies_each : (vs : List ℕ) (lits ls : List Lit) → list_all (λ l. l.positive && is_among vs l.var) lits ≡ true → list_all (λ l. is_in lits (denial l)) ls ≡ true → list_all (λ l. denies vs l) ls ≡ true
denies_each vs lits [] a d = refl
denies_each vs lits (l ∷ ls) a d =
    let parts = and_parts (is_in lits (denial l)) (list_all (λ l. is_in lits (denial l)) ls) d in
    and_from (denies vs l) (list_all (λ l. denies vs l) ls) (each_in (λ l. l.positive && is_among vs l.var) lits (denial l) a parts.0) (denies_each vs lits ls a parts.1)

-- what is said of the assumed literals is so of the variables
pub solves : (problem : List (List Constraint)) (vs : List ℕ) (lits : List Lit) (log : List Lemma) (left : ℕ) (answer : Answer) → IsAssumption vs lits → IsAnswer problem lits log left answer → Solves problem vs log left answer
solves problem vs lits log left (Model set) a h = (h.0, λ v i. each_in (λ l. lit_holds (at set) l) lits (positive v) h.1 (a.each v i))
solves problem vs lits log left (Refuted refutation) a h = (denies_each vs lits refutation.lits a.alone h.0, h.1)
solves problem vs lits log left Spent a h = h
