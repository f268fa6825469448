-- The walk down a trail: what is needed at each turn is refuted by the hints so far.
use Rattle.std.proofs.Common.{◌≡◌, ℕ, ◌<◌, Bool, true, false, cond, ◌||◌, List, [], ◌∷◌, length, refl, sym, ap, ◌∙◌, subst, arith, inl, inr, Option, Some, None, Ok}
use Rattle.std.specs.List.{list_all}
use Rattle.std.proofs.lemmas.Bool.{or_cases, or_left, or_right, or_parts, or_from, and_parts, and_from}
use Rattle.op_constraints.specs.declared.Lit.{Lit}
use Rattle.op_constraints.specs.declared.Constraint.{Constraint}
use Rattle.op_constraints.specs.Meets.{at}
use Rattle.derivations.specs.declared.Hint.{Hint}
use Rattle.derivations.specs.declared.LogCause.{LogCause}
use Rattle.derivations.specs.declared.LogCause.TheVariants.{NoConflict}
use Rattle.derivations.specs.Clauses.{denial, is_same, is_in}
use Rattle.derivations.specs.Follows.{clause_of, left, forced, after_forced, unit_fault, is_nothing, last_fault, hints_fault, all_hints_fault}
use Rattle.clause_trail.specs.declared.Entry.{Entry}
use Rattle.clause_trail.specs.Trails.{literals, IsUnknown, IsOrdered}
use Rattle.clause_trail.proofs.Literals.{same_itself, forced_alone, forced_new, all_false, forced_others, nothing_others}
use Rattle.clause_analysis.specs.Needs.{with_marked, needed_of}
use Rattle.clause_analysis.proofs.Marking.{kept, marked}
use Rattle.clause_analysis.proofs.Needed.{in_ordered, in_needed, needed_in}

-- each part that has all that is needed, and says nothing of what was passed, is refuted by the hints
pub record IsRefuting (problem : List (List Constraint)) (earlier : List (List Lit)) (needed passed : List Lit) (hints : List Hint) : Type 0 where
  pub refutes : (part : List Lit) → ((l : Lit) → is_in passed l ≡ true → IsUnknown part l) → ((l : Lit) → is_in needed l ≡ true → is_in part l ≡ true) → all_hints_fault problem earlier part hints ≡ None

-- the denials of what isn't of the literal are in the part
others_needed : (needed : List Bool) (trail : List Entry) (size : ℕ) (part : List Lit) (l : Lit) (clause : List Lit) → IsOrdered size trail → ((k : Lit) → is_in clause k ≡ true → k.var < size → at needed k.var ≡ true) → ((m : Lit) → is_in (literals (needed_of needed trail)) m ≡ true → is_in part m ≡ true) → list_all (λ k. is_same k l || is_in (literals trail) (denial k)) clause ≡ true → list_all (λ k. is_same k l || is_in part (denial k)) clause ≡ true
others_needed needed trail size part l [] o f has a = refl
others_needed needed trail size part l (k ∷ ks) o f has a =
    let parts = and_parts (is_same k l || is_in (literals trail) (denial k)) (list_all (λ k. is_same k l || is_in (literals trail) (denial k)) ks) a in
    and_from (is_same k l || is_in part (denial k)) (list_all (λ k. is_same k l || is_in part (denial k)) ks)
    (elim (or_cases (is_same k l) (is_in (literals trail) (denial k)) parts.0) [
      | inl same ↦ or_left (is_same k l) (is_in part (denial k)) same
      | inr known ↦
          (let var : k.var < size = in_ordered size trail (denial k) o known in
          let is : at needed k.var ≡ true = f k (or_left (is_same k k) (is_in ks k) (same_itself k)) var in
          or_right (is_same k l) (is_in part (denial k)) (has (denial k) (in_needed needed trail (denial k) known is)))
    ])
    (others_needed needed trail size part l ks o (λ m i. f m (or_right (is_same k m) (is_in ks m) i)) has parts.1)

all_needed : (needed : List Bool) (trail : List Entry) (size : ℕ) (part clause : List Lit) → IsOrdered size trail → ((k : Lit) → is_in clause k ≡ true → k.var < size → at needed k.var ≡ true) → ((m : Lit) → is_in (literals (needed_of needed trail)) m ≡ true → is_in part m ≡ true) → list_all (λ k. is_in (literals trail) (denial k)) clause ≡ true → list_all (λ k. is_in part (denial k)) clause ≡ true
all_needed needed trail size part [] o f has a = refl
all_needed needed trail size part (k ∷ ks) o f has a =
    let parts = and_parts (is_in (literals trail) (denial k)) (list_all (λ k. is_in (literals trail) (denial k)) ks) a in
    let var : k.var < size = in_ordered size trail (denial k) o parts.0 in
    let is : at needed k.var ≡ true = f k (or_left (is_same k k) (is_in ks k) (same_itself k)) var in
    and_from (is_in part (denial k)) (list_all (λ k. is_in part (denial k)) ks)
    (has (denial k) (in_needed needed trail (denial k) parts.0 is))
    (all_needed needed trail size part ks o (λ m i. f m (or_right (is_same k m) (is_in ks m) i)) has parts.1)

conflict : (problem : List (List Constraint)) (earlier : List (List Lit)) (clause : List Lit) (hint : Hint) (part : List Lit) → clause_of problem earlier hint ≡ Ok clause → list_all (λ k. is_in part (denial k)) clause ≡ true → hints_fault problem earlier part hint [] ≡ None
conflict problem earlier clause hint part c a =
    ap (λ r. last_fault part r) c ∙ ap (λ ls. cond (is_nothing ls) None (Some NoConflict)) (all_false part clause a)

-- the walk begins at the clause that is false
pub at_conflict : (problem : List (List Constraint)) (earlier : List (List Lit)) (trail : List Entry) (size : ℕ) (none needed : List Bool) (clause : List Lit) (hint : Hint)
    → IsOrdered size trail
    → length none ≡ size
    → needed ≡ with_marked none clause
    → clause_of problem earlier hint ≡ Ok clause
    → is_nothing (left (literals trail) clause) ≡ true
    → IsRefuting problem earlier (literals (needed_of needed trail)) [] (hint ∷ [])
at_conflict problem earlier trail size none needed clause hint o n is c e = record {
  refutes = λ part silent has.
      let f : (k : Lit) → is_in clause k ≡ true → k.var < size → at needed k.var ≡ true = λ k i var. subst (λ (row : List Bool). at row k.var ≡ true) (sym is) (marked none clause k i (omega (arith, n, var))) in
      conflict problem earlier clause hint part c (all_needed needed trail size part clause o f has (nothing_others (literals trail) clause e));
}

resolved : (problem : List (List Constraint)) (earlier : List (List Lit)) (clause : List Lit) (l : Lit) (hint : Hint) (hints : List Hint) (part : List Lit)
    → clause_of problem earlier hint ≡ Ok clause
    → is_in clause l ≡ true
    → is_in part l ≡ false
    → is_in part (denial l) ≡ false
    → list_all (λ k. is_same k l || is_in part (denial k)) clause ≡ true
    → all_hints_fault problem earlier (l ∷ part) hints ≡ None
    → all_hints_fault problem earlier part (hint ∷ hints) ≡ None
resolved problem earlier clause l hint [] part c h untrue unfalse a rest = absurd (let bad : Some NoConflict ≡ None = rest in cc)
resolved problem earlier clause l hint (next ∷ hints) part c h untrue unfalse a rest =
    let more : Lit → Option LogCause = λ m. hints_fault problem earlier (m ∷ part) next hints in
    ap (λ r. unit_fault part r more) c ∙ (ap (λ o. after_forced o more) (forced_alone part clause l h untrue unfalse a) ∙ rest)

-- an entry that isn't needed is passed over
pub passing : (problem : List (List Constraint)) (earlier : List (List Lit)) (needed needed' passed passed' : List Lit) (hints : List Hint)
    → needed ≡ needed'
    → ((m : Lit) → is_in passed m ≡ true → is_in passed' m ≡ true)
    → IsRefuting problem earlier needed passed hints
    → IsRefuting problem earlier needed' passed' hints
passing problem earlier needed needed' passed passed' hints same more r = record {
  refutes = λ part silent has. r.refutes part (λ m i. silent m (more m i)) (λ m i. has m (subst (λ (ls : List Lit). is_in ls m ≡ true) same i));
}

-- an entry that a clause forced is replaced by what that clause needed
pub resolving : (problem : List (List Constraint)) (earlier : List (List Lit)) (e : Entry) (older : List Entry) (size : ℕ) (needed needed' : List Bool) (passed passed' : List Lit) (clause : List Lit) (hint : Hint) (hints : List Hint)
    → IsOrdered size older
    → length needed ≡ size
    → needed' ≡ with_marked needed clause
    → clause_of problem earlier hint ≡ Ok clause
    → forced (literals older) clause ≡ Some e.lit
    → ((m : Lit) → is_in passed m ≡ true → is_in passed' m ≡ true)
    → is_in passed' e.lit ≡ true
    → ((m : Lit) → is_in passed m ≡ true → IsUnknown (literals (e ∷ older)) m)
    → IsRefuting problem earlier (literals (needed_of needed (e ∷ older))) passed hints
    → IsRefuting problem earlier (literals (needed_of needed' older)) passed' (hint ∷ hints)
resolving problem earlier e older size needed needed' passed passed' clause hint hints o n is c f more last apart r = record {
  refutes = λ part silent has.
      let l = e.lit in
      let u : IsUnknown part l = silent l last in
      let new = forced_new (literals older) clause l f in
      let within : (k : Lit) → is_in clause k ≡ true → k.var < size → at needed' k.var ≡ true = λ k i var. subst (λ (row : List Bool). at row k.var ≡ true) (sym is) (marked needed clause k i (omega (arith, n, var))) in
      let others = others_needed needed' older size part l clause o within has (forced_others (literals older) clause l f) in
      let quiet : (m : Lit) → is_in passed m ≡ true → IsUnknown (l ∷ part) m =
      λ m i.
      let known = apart m i in
      let before = silent m (more m i) in
      let first = or_parts (is_same l m) (is_in (literals older) m) known.0 in
      let second = or_parts (is_same l (denial m)) (is_in (literals older) (denial m)) known.1 in
      (or_from (is_same l m) (is_in part m) first.0 before.0, or_from (is_same l (denial m)) (is_in part (denial m)) second.0 before.1)
      in
      let all : (m : Lit) → is_in (literals (needed_of needed (e ∷ older))) m ≡ true → is_in (l ∷ part) m ≡ true =
      λ m i.
      let parts = needed_in needed (e ∷ older) m i in
      elim (or_cases (is_same l m) (is_in (literals older) m) parts.0) [
        | inl same ↦ or_left (is_same l m) (is_in part m) same
        | inr rest ↦
            (let still : at needed' m.var ≡ true = subst (λ (row : List Bool). at row m.var ≡ true) (sym is) (kept needed clause m.var parts.1) in
            or_right (is_same l m) (is_in part m) (has m (in_needed needed' older m rest still)))
      ]
      in
      resolved problem earlier clause l hint hints part c new.0 u.0 u.1 others (r.refutes (l ∷ part) quiet all);
}
