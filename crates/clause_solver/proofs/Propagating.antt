-- What the clauses force is added to a trail.
use Rattle.std.proofs.Common.{◌≡◌, ℕ, suc, ◌<◌, ◌≤◌, ◌==◌, Bool, true, false, not, ◌&&◌, List, [], ◌∷◌, length, map, refl, ap, arith, Some, Ok, slice_get}
use Rattle.std.specs.Option.{option_and_then}
use Rattle.std.specs.List.{AllByRecursion}
use Rattle.std.proofs.lemmas.Bool.{or_parts, or_from, and_from, not_from_false}
use mathlib.Core.Bool.{beq}
use Rattle.op_constraints.specs.declared.Lit.{Lit}
use Rattle.op_constraints.specs.declared.Constraint.{Constraint}
use Rattle.op_constraints.specs.Meets.{constraint_at, IsClosed}
use Rattle.op_constraints.proofs.WalkLaws.{under}
use Rattle.derivations.proofs.Grows.{ok_some}
use Rattle.op_constraints.specs.Walks.{is_among}
use Rattle.op_constraints.specs.Kept.{is_distinct}
use Rattle.op_constraints.proofs.Standing.{few_distinct}
use Rattle.derivations.specs.declared.Hint.{Hint}
use Rattle.derivations.specs.declared.Hint.TheVariants.{Lemma as LemmaHint, Given}
use Rattle.derivations.specs.declared.LogCause.TheVariants.{NoSuchHint, BadGiven}
use Rattle.derivations.specs.Clauses.{denial, is_same, is_in, given_clause}
use Rattle.derivations.specs.Follows.{clause_of, forced}
use Rattle.clause_trail.specs.declared.Entry.{Entry}
use Rattle.clause_trail.specs.declared.Scan.{Scan}
use Rattle.clause_trail.specs.declared.Scan.TheVariants.{Settled, Unit as Forces, Conflict}
use Rattle.clause_trail.specs.Scans.{Scans, ScansGiven}
use Rattle.clause_trail.specs.Trails.{literals, IsUnknown, IsOrdered}
use Rattle.clause_trail.proofs.Literals.{forced_new}
use Rattle.clause_solver.specs.Held.{AreClauses}
use Rattle.clause_solver.specs.Scans.{ScansLemmas}
use Rattle.clause_solver.proofs.Below.{below_in, named_below}

sign : (a p q : Bool) → (a && beq p q) ≡ false → (a && beq p (not q)) ≡ false → a ≡ false
sign false p q e f = refl
sign true true true e f = e
sign true true false e f = f
sign true false true e f = f
sign true false false e f = e

abbrev vars : List Entry → List ℕ
vars es = map (λ e. e.lit.var) es

absent : (es : List Entry) (l : Lit) → IsUnknown (literals es) l → is_among (vars es) l.var ≡ false
absent [] l u = refl
absent (e ∷ es) l u =
    let a = or_parts (is_same e.lit l) (is_in (literals es) l) u.0 in
    let b = or_parts (is_same e.lit (denial l)) (is_in (literals es) (denial l)) u.1 in
    or_from (e.lit.var == l.var) (is_among (vars es) l.var) (sign (e.lit.var == l.var) e.lit.positive l.positive a.0 b.0) (absent es l (a.1, b.1))

distinct : (size : ℕ) (es : List Entry) → IsOrdered size es → is_distinct (vars es) ≡ true
distinct size [] o = refl
distinct size (e ∷ es) o = and_from (not (is_among (vars es) e.lit.var)) (is_distinct (vars es)) (not_from_false (is_among (vars es) e.lit.var) (absent es e.lit o.1)) (distinct size es o.2)

within : (size : ℕ) (es : List Entry) → IsOrdered size es → AllByRecursion (λ v. v < size) (vars es)
within size [] o = tt
within size (e ∷ es) o = (o.0, within size es o.2)

as_many : (es : List Entry) → length (vars es) ≡ length es
as_many [] = refl
as_many (e ∷ es) = ap suc (as_many es)

-- a trail has no more entries than there are variables
pub few : (size : ℕ) (es : List Entry) → IsOrdered size es → length es ≤ size
few size es o = let all = few_distinct size (vars es) (distinct size es o) (within size es o) in let same = as_many es in omega (arith, all, same)

-- what a clause forces is of the problem's variables
pub forced_var : (problem : List (List Constraint)) (lemmas : List (List Lit)) (trail : List Lit) (l : Lit) (hint : Hint) (clause : List Lit) → IsClosed problem → AreClauses problem lemmas → clause_of problem lemmas hint ≡ Ok clause → forced trail clause ≡ Some l → l.var < length problem
forced_var problem lemmas trail l hint clause closed a c f =
    let new = forced_new trail clause l f in
    below_in (length problem) clause l (named_below problem lemmas closed a hint clause c) new.0

pub forced_unknown : (trail clause : List Lit) (l : Lit) → forced trail clause ≡ Some l → IsUnknown trail l
forced_unknown trail clause l f = let new = forced_new trail clause l f in (new.1, new.2)

both_settled : (problem : List (List Constraint)) (lemmas : List (List Lit)) (trail : List Lit) → ScansGiven problem lemmas trail Settled → ScansLemmas problem lemmas trail Settled → Scans problem lemmas trail Settled
both_settled problem lemmas trail g s (LemmaHint number) clause e = s number clause (ok_some (slice_get lemmas number) NoSuchHint clause e)
both_settled problem lemmas trail g s (Given v place members) clause e =
    let some = ok_some (option_and_then (λ c. given_clause v c members) (constraint_at problem v place)) BadGiven clause e in
    let (c, there, given) = under (λ c. given_clause v c members) (constraint_at problem v place) clause some in
    g v place c there members clause given

-- where the problem's clauses are settled, it is as the lemmas say
pub both : (problem : List (List Constraint)) (lemmas : List (List Lit)) (trail : List Lit) (scan : Scan) → ScansGiven problem lemmas trail Settled → ScansLemmas problem lemmas trail scan → Scans problem lemmas trail scan
both problem lemmas trail (Forces l reason) g s = s
both problem lemmas trail (Conflict reason) g s = s
both problem lemmas trail Settled g s = both_settled problem lemmas trail g s

-- what the problem's clauses say, where they aren't settled
pub given_only : (problem : List (List Constraint)) (lemmas : List (List Lit)) (trail : List Lit) (scan : Scan) → (scan ≡ Settled → ⊥) → ScansGiven problem lemmas trail scan → Scans problem lemmas trail scan
given_only problem lemmas trail Settled n s = absurd (n refl)
given_only problem lemmas trail (Forces l reason) n s = s
given_only problem lemmas trail (Conflict reason) n s = s
