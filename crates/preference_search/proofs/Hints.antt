-- The lemma of a partial walk follows: each candidate of its choice is denied by a clause that has become unit, and then the choice's own clause is false.
use Rattle.std.proofs.Common.{◌≡◌, ℕ, ◌<◌, ◌==◌, nat_lt, Bool, true, false, not, cond, ◌&&◌, ◌||◌, List, [], ◌∷◌, ◌++◌, length, map, refl, sym, ap, ◌∙◌, subst, inl, inr, Option, Some, None, Ok, eqb}
use Rattle.std.specs.Option.{option_and_then, ok_or}
use Rattle.std.specs.List.{list_all, filter, AllByRecursion}
use Rattle.std.proofs.lemmas.Bool.{cases_Bool, or_cases, or_left, or_right, and_parts, and_from, eqb-true, eq-eqb, both_ways, cond-true, cond-false, lt-ltb, not-true}
use mathlib.Core.Bool.{beq}
use Rattle.op_constraints.specs.declared.Lit.{Lit}
use Rattle.op_constraints.specs.declared.Constraint.{Constraint}
use Rattle.op_constraints.specs.declared.Constraint.TheVariants.{Dependency}
use Rattle.op_constraints.specs.Meets.{constraint_at}
use Rattle.op_constraints.specs.Walks.{is_among}
use Rattle.op_constraints.specs.Kept.{is_distinct}
use Rattle.derivations.specs.declared.Hint.{Hint}
use Rattle.derivations.specs.declared.Hint.TheVariants.{Given}
use Rattle.derivations.specs.declared.Lemma.{Lemma}
use Rattle.derivations.specs.declared.Refutation.{Refutation}
use Rattle.derivations.specs.declared.LogCause.{LogCause}
use Rattle.derivations.specs.declared.LogCause.TheVariants.{NoConflict, BadClause, BadGiven}
use Rattle.derivations.specs.Clauses.{positive, negative, denial, is_same, is_in, given_clause}
use Rattle.derivations.specs.Follows.{clause_of, clauses, left, sole, forced, after_forced, unit_fault, is_nothing, last_fault, hints_fault, all_hints_fault, is_clause, Follows}
use Rattle.derivations.specs.Accepted.{contains_clause}
use Rattle.preference_search.specs.Denials.{is_denied, IsDenial}
use Rattle.preference_search.proofs.Denying.{same_lit, among-pushed}

-- A clause of which all literals but one are false

left-but_one : (trail clause : List Lit) (l : Lit) → is_in trail (denial l) ≡ false → list_all (λ k. is_same k l || is_in trail (denial k)) clause ≡ true → left trail clause ≡ filter (λ k. is_same k l) clause
left-but_one trail [] l unfalse a = refl
left-but_one trail (k ∷ ks) l unfalse a =
    let parts = and_parts (is_same k l || is_in trail (denial k)) (list_all (λ k. is_same k l || is_in trail (denial k)) ks) a in
    let rest = left-but_one trail ks l unfalse parts.1 in
    elim (cases_Bool (is_same k l)) [
      | inl same ↦
          (let here : is_in trail (denial k) ≡ false = subst (λ (m : Lit). is_in trail (denial m) ≡ false) (sym (same_lit k l same)) unfalse in
          rw here (rw same (ap (λ xs. k ∷ xs) rest)))
      | inr other ↦
          elim (or_cases (is_same k l) (is_in trail (denial k)) parts.0) [
            | inl same ↦ absurd (both_ways (is_same k l) other same)
            | inr here ↦ rw here (rw other rest)
          ]
    ]

all_same : (ks : List Lit) (l : Lit) → list_all (λ m. is_same m l) (filter (λ k. is_same k l) ks) ≡ true
all_same [] l = refl
all_same (k ∷ ks) l =
    elim (cases_Bool (is_same k l)) [
      | inl same ↦ rw same (and_from (is_same k l) (list_all (λ m. is_same m l) (filter (λ k. is_same k l) ks)) same (all_same ks l))
      | inr other ↦ rw other (all_same ks l)
    ]

sole_same : (ks : List Lit) (l : Lit) → is_in ks l ≡ true → sole (filter (λ k. is_same k l) ks) ≡ Some l
sole_same [] l h = absurd (let bad : false ≡ true = h in cc)
sole_same (k ∷ ks) l h =
    elim (cases_Bool (is_same k l)) [
      | inl same ↦
          (let e : k ≡ l = same_lit k l same in
          let all : list_all (λ m. is_same m k) (filter (λ j. is_same j l) ks) ≡ true = subst (λ (n : Lit). list_all (λ m. is_same m n) (filter (λ j. is_same j l) ks) ≡ true) (sym e) (all_same ks l) in
          rw same (cond-true (list_all (λ m. is_same m k) (filter (λ j. is_same j l) ks)) (Some k) None all ∙ ap (λ m. Some m) e))
      | inr other ↦
          elim (or_cases (is_same k l) (is_in ks l) h) [
            | inl same ↦ absurd (both_ways (is_same k l) other same)
            | inr rest ↦ rw other (sole_same ks l rest)
          ]
    ]

-- the clause forces the one of its literals of which the trail says nothing, where the trail makes the others false
forced-alone : (trail clause : List Lit) (l : Lit) → is_in clause l ≡ true → is_in trail l ≡ false → is_in trail (denial l) ≡ false → list_all (λ k. is_same k l || is_in trail (denial k)) clause ≡ true → forced trail clause ≡ Some l
forced-alone trail clause l h untrue unfalse a =
    ap (λ o. option_and_then (λ m. cond (is_in trail m) None (Some m)) o) (ap sole (left-but_one trail clause l unfalse a) ∙ sole_same clause l h)
    ∙ cond-false (is_in trail l) None (Some l) untrue

-- Hints that force one literal each

-- from the trail, each hint in turn forces a literal more, up to the last trail
abbrev pub AreUnit : List (List Constraint) → List (List Lit) → List Lit → List Hint → List Lit → Type 0
AreUnit problem earlier trail [] end = trail ≡ end
AreUnit problem earlier trail (hint ∷ hints) end =
    (clause : List Lit) × (l : Lit) × (clause_of problem earlier hint ≡ Ok clause) × (forced trail clause ≡ Some l) × AreUnit problem earlier (l ∷ trail) hints end

unit-more : (problem : List (List Constraint)) (earlier : List (List Lit)) (trail : List Lit) (hints : List Hint) (end : List Lit) (hint : Hint) (clause : List Lit) (l : Lit) → AreUnit problem earlier trail hints end → clause_of problem earlier hint ≡ Ok clause → forced end clause ≡ Some l → AreUnit problem earlier trail (hints ++ hint ∷ []) (l ∷ end)
unit-more problem earlier trail [] end hint clause l u c f =
    (clause, l, c, ap (λ t. forced t clause) u ∙ f, ap (λ t. l ∷ t) u)
unit-more problem earlier trail (h ∷ hints) end hint clause l u c f =
    (u.0, u.1, u.2, u.3, unit-more problem earlier (u.1 ∷ trail) hints end hint clause l u.4 c f)

-- where the last clause is false then, the hints have no fault
unit-hints : (problem : List (List Constraint)) (earlier : List (List Lit)) (trail : List Lit) (hint : Hint) (hints : List Hint) (end : List Lit) (last : Hint) (clause : List Lit) → AreUnit problem earlier trail (hint ∷ hints) end → clause_of problem earlier last ≡ Ok clause → left end clause ≡ [] → hints_fault problem earlier trail hint (hints ++ last ∷ []) ≡ None
unit-hints problem earlier trail hint [] end last clause u c n =
    let more : Lit → Option LogCause = λ m. hints_fault problem earlier (m ∷ trail) last [] in
    ap (λ r. unit_fault trail r more) u.2 ∙ (ap (λ o. after_forced o more) u.3
    ∙ (ap (λ t. hints_fault problem earlier t last []) u.4
    ∙ (ap (λ r. last_fault end r) c ∙ ap (λ ls. cond (is_nothing ls) None (Some NoConflict)) n)))
unit-hints problem earlier trail hint (next ∷ hints) end last clause u c n =
    let more : Lit → Option LogCause = λ m. hints_fault problem earlier (m ∷ trail) next (hints ++ last ∷ []) in
    ap (λ r. unit_fault trail r more) u.2 ∙ (ap (λ o. after_forced o more) u.3
    ∙ unit-hints problem earlier (u.1 ∷ trail) next hints end last clause u.4 c n)

unit-end : (problem : List (List Constraint)) (earlier : List (List Lit)) (trail : List Lit) (hints : List Hint) (end : List Lit) (last : Hint) (clause : List Lit) → AreUnit problem earlier trail hints end → clause_of problem earlier last ≡ Ok clause → left end clause ≡ [] → all_hints_fault problem earlier trail (hints ++ last ∷ []) ≡ None
unit-end problem earlier trail [] end last clause u c n =
    ap (λ t. hints_fault problem earlier t last []) u ∙ (ap (λ r. last_fault end r) c ∙ ap (λ ls. cond (is_nothing ls) None (Some NoConflict)) n)
unit-end problem earlier trail (hint ∷ hints) end last clause u c n = unit-hints problem earlier trail hint hints end last clause u c n

-- What the trail says: the variables of the lemma are in, and the candidates that were denied so far are out

abbrev pub Says : List Lit → List ℕ → List ℕ → Type 0
Says trail vars out = (l : Lit) → is_in trail l ≡ cond l.positive (is_among vars l.var) (is_among out l.var)

first-says : (vars : List ℕ) → Says (map denial (map negative vars)) vars []
first-says [] l = same_false l.positive
  where
    same_false : (b : Bool) → false ≡ cond b false false
    same_false true = refl
    same_false false = refl
first-says (v ∷ vs) l = ap (λ b. ((v == l.var) && beq true l.positive) || b) (first-says vs l) ∙ split l.positive (v == l.var) (is_among vs l.var)
  where
    split : (p a b : Bool) → ((a && beq true p) || cond p b false) ≡ cond p (a || b) false
    split true true b = refl
    split true false b = refl
    split false true b = refl
    split false false b = refl

more-says : (trail : List Lit) (vars out : List ℕ) (m : ℕ) → Says trail vars out → Says (negative m ∷ trail) vars (m ∷ out)
more-says trail vars out m s l = ap (λ b. ((m == l.var) && beq false l.positive) || b) (s l) ∙ split l.positive (m == l.var) (is_among vars l.var) (is_among out l.var)
  where
    split : (p a x y : Bool) → ((a && beq false p) || cond p x y) ≡ cond p x (a || y)
    split true true x y = refl
    split true false x y = refl
    split false true x y = refl
    split false false x y = refl

again-says : (trail : List Lit) (vars out : List ℕ) (m : ℕ) → is_among out m ≡ true → Says trail vars out → Says trail vars (m ∷ out)
again-says trail vars out m h s l = s l ∙ ap (λ b. cond l.positive (is_among vars l.var) b) (same (m == l.var) refl)
  where
    same : (b : Bool) → (m == l.var) ≡ b → is_among out l.var ≡ (b || is_among out l.var)
    same true e = subst (λ (v : ℕ). is_among out v ≡ true) (eqb-true m l.var e) h
    same false e = refl

-- each literal that denies one of these, or the candidate, is false or is the candidate's
others-false : (trail : List Lit) (vars out : List ℕ) (m : ℕ) (lits clause : List Lit) → Says trail vars out → is_denied (is_among (vars ++ m ∷ [])) lits ≡ true → contains_clause lits clause ≡ true → list_all (λ k. is_same k (negative m) || is_in trail (denial k)) clause ≡ true
others-false trail vars out m lits [] s d a = refl
others-false trail vars out m lits (k ∷ ks) s d a =
    let parts = and_parts (is_in lits k) (contains_clause lits ks) a in
    let (out_here, var_in) = denied-in (is_among (vars ++ m ∷ [])) lits k d parts.0 in
    and_from (is_same k (negative m) || is_in trail (denial k)) (list_all (λ k. is_same k (negative m) || is_in trail (denial k)) ks)
    (elim (among-pushed vars m k.var var_in) [
      | inl inside ↦ or_right (is_same k (negative m)) (is_in trail (denial k))
          (s (denial k) ∙ (cond-true (not k.positive) (is_among vars k.var) (is_among out k.var) out_here ∙ inside))
      | inr last ↦ or_left (is_same k (negative m)) (is_in trail (denial k))
          (and_from (k.var == m) (beq k.positive false) (eq-eqb k.var m (sym last)) (ap (λ b. beq b false) (not-true k.positive out_here)))
    ])
    (others-false trail vars out m lits ks s d parts.1)
  where
    denied-in : (set : ℕ → Bool) (lits : List Lit) (k : Lit) → is_denied set lits ≡ true → is_in lits k ≡ true → (not k.positive ≡ true) × (set k.var ≡ true)
    denied-in set [] k d h = absurd (both_ways false refl h)
    denied-in set (l ∷ ls) k d h =
        let parts = and_parts (not l.positive && set l.var) (is_denied set ls) d in
        elim (or_cases (is_same l k) (is_in ls k) h) [
          | inl same ↦ (let e : l ≡ k = same_lit l k same in
              let P : Lit → Type 0 = λ j. (not j.positive ≡ true) × (set j.var ≡ true) in
              subst P e (and_parts (not l.positive) (set l.var) parts.0))
          | inr rest ↦ denied-in set ls k parts.1 rest
        ]

in-contained : (clause lits : List Lit) (l : Lit) → contains_clause clause lits ≡ true → is_in lits l ≡ true → is_in clause l ≡ true
in-contained clause [] l c h = absurd (both_ways false refl h)
in-contained clause (k ∷ ks) l c h =
    let parts = and_parts (is_in clause k) (contains_clause clause ks) c in
    elim (or_cases (is_same k l) (is_in ks l) h) [
      | inl same ↦ subst (λ (j : Lit). is_in clause j ≡ true) (same_lit k l same) parts.0
      | inr rest ↦ in-contained clause ks l parts.1 rest
    ]

-- the hints so far force that the candidates from here on are out
pub record AreOut (problem : List (List Constraint)) (log : List Lemma) (vars out : List ℕ) (hints : List Hint) : Type 0 where
  pub trail : List Lit
  pub units : AreUnit problem (clauses log) (map denial (map negative vars)) hints trail
  pub says : Says trail vars out

pub out-begun : (problem : List (List Constraint)) (log : List Lemma) (vars : List ℕ) → AreOut problem log vars [] []
out-begun problem log vars = record { trail = map denial (map negative vars); units = refl; says = first-says vars }

-- a candidate that stands again
pub out-again : (problem : List (List Constraint)) (log : List Lemma) (vars out : List ℕ) (hints : List Hint) (m : ℕ) → is_among out m ≡ true → AreOut problem log vars out hints → AreOut problem log vars (m ∷ out) hints
out-again problem log vars out hints m h a = record { trail = a.trail; units = a.units; says = again-says a.trail vars out m h a.says }

-- one candidate more
pub out-more : (problem : List (List Constraint)) (log : List Lemma) (vars out : List ℕ) (hints : List Hint) (m : ℕ) (d : Refutation) → is_among out m ≡ false → is_among vars m ≡ false → IsDenial problem log (is_among (vars ++ m ∷ [])) d → is_in d.lits (negative m) ≡ true → AreOut problem log vars out hints → AreOut problem log vars (m ∷ out) (hints ++ d.hints)
out-more problem log vars out hints m d new free i n a =
    let f : forced a.trail i.clause ≡ Some (negative m) =
    forced-alone a.trail i.clause (negative m) (in-contained i.clause d.lits (negative m) i.only n) (a.says (negative m) ∙ new) (a.says (positive m) ∙ free)
    (others-false a.trail vars out m d.lits i.clause a.says i.inside i.all) in
    let P : List Hint → Type 0 = λ hs. AreUnit problem (clauses log) (map denial (map negative vars)) (hints ++ hs) (negative m ∷ a.trail) in
    record {
      trail = negative m ∷ a.trail;
      units = subst P (sym i.single) (unit-more problem (clauses log) (map denial (map negative vars)) hints a.trail i.hint i.clause (negative m) a.units i.named f);
      says = more-says a.trail vars out m a.says;
    }

-- The lemma

pub vars-of : (vs : List ℕ) → map (λ (l : Lit). l.var) (map negative vs) ≡ vs
vars-of [] = refl
vars-of (v ∷ vs) = ap (λ ws. v ∷ ws) (vars-of vs)

all-lower : (n : ℕ) (vs : List ℕ) → AllByRecursion (λ v. v < n) vs → list_all (λ v. nat_lt v n) vs ≡ true
all-lower n [] a = refl
all-lower n (v ∷ vs) a = and_from (nat_lt v n) (list_all (λ v. nat_lt v n) vs) (lt-ltb v n a.0) (all-lower n vs a.1)

pub negatives-clause : (problem : List (List Constraint)) (vs : List ℕ) → AllByRecursion (λ v. v < length problem) vs → is_distinct vs ≡ true → is_clause problem (map negative vs) ≡ true
negatives-clause problem vs a d =
    ap (λ ws. list_all (λ v. nat_lt v (length problem)) ws && is_distinct ws) (vars-of vs)
    ∙ and_from (list_all (λ v. nat_lt v (length problem)) vs) (is_distinct vs) (all-lower (length problem) vs a) d

members-left : (trail : List Lit) (vars members ms : List ℕ) → Says trail vars members → ((m : ℕ) → is_among ms m ≡ true → is_among members m ≡ true) → left trail (map positive ms) ≡ []
members-left trail vars members [] s h = refl
members-left trail vars members (m ∷ ms) s h =
    let here : is_in trail (denial (positive m)) ≡ true = s (negative m) ∙ h m (or_left (eqb m m) (is_among ms m) (eq-eqb m m refl)) in
    rw here (members-left trail vars members ms s (λ n i. h n (or_right (eqb m n) (is_among ms n) i)))

-- where all candidates are out, the clause of their choice is false
pub lemma-follows : (problem : List (List Constraint)) (log : List Lemma) (vars members : List ℕ) (owner place : ℕ) (hints : List Hint)
    → AllByRecursion (λ v. v < length problem) vars
    → is_distinct vars ≡ true
    → is_among vars owner ≡ true
    → constraint_at problem owner place ≡ Some (Dependency members)
    → AreOut problem log vars members hints
    → Follows problem log (map negative vars) (hints ++ Given owner place [] ∷ [])
lemma-follows problem log vars members owner place hints within once owned at a =
    let trail = map denial (map negative vars) in
    let hint : Hint = Given owner place [] in
    let all = hints ++ hint ∷ [] in
    let given : clause_of problem (clauses log) hint ≡ Ok (negative owner ∷ map positive members) =
    ap (λ o. ok_or (option_and_then (λ c. given_clause owner c []) o) BadGiven) at in
    let here : is_in a.trail (denial (negative owner)) ≡ true = a.says (positive owner) ∙ owned in
    let none : left a.trail (negative owner ∷ map positive members) ≡ [] = rw here (members-left a.trail vars members members a.says (λ m i. i)) in
    cond-true (is_clause problem (map negative vars)) (all_hints_fault problem (clauses log) trail all) (Some BadClause) (negatives-clause problem vars within once)
    ∙ unit-end problem (clauses log) trail hints a.trail hint (negative owner ∷ map positive members) a.units given none
