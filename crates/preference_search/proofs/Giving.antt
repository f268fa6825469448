-- Which clauses of a constraint deny a set, and which set a constraint allows.
use Rattle.std.proofs.Common.{◌≡◌, ℕ, zero, suc, ◌+◌, ◌≤◌, ◌<◌, ◌==◌, Bool, true, false, not, cond, ◌&&◌, List, [], ◌∷◌, length, map, refl, sym, ap, ◌∙◌, subst, arith, inl, inr, Option, Some, None, Result, Ok, Err, IfOk, IfSome, IfNone, nat_lt, eqb}
use Rattle.std.proofs.Math.Bool.{or-false}
use Rattle.std.specs.Option.{ok_or, option_and_then}
use Rattle.std.specs.List.{list_all, count_by}
use Rattle.std.proofs.lemmas.Bool.{cases_eq, or_left, and_parts, and_from, both_ways, not_from_false, false_from_ne_true, eq-eqb, eqb-true, ne_eqb, lt-ltb, cond-true, cond-false}
use Rattle.op_constraints.specs.declared.Lit.{Lit}
use Rattle.op_constraints.specs.declared.Constraint.{Constraint}
use Rattle.op_constraints.specs.declared.Constraint.TheVariants.{Mandatory, Prohibited, Dependency, Conflict, AtMost}
use Rattle.op_constraints.specs.Meets.{constraints_of, at}
use Rattle.op_constraints.specs.Walks.{is_among}
use Rattle.op_constraints.specs.Kept.{is_distinct}
use Rattle.derivations.specs.declared.Hint.TheVariants.{Given}
use Rattle.derivations.specs.declared.Lemma.{Lemma}
use Rattle.derivations.specs.declared.Refutation.{Refutation}
use Rattle.derivations.specs.declared.LogCause.TheVariants.{BadGiven}
use Rattle.derivations.specs.Clauses.{positive, negative, is_same, is_in, is_too_many, given_clause}
use Rattle.derivations.specs.Accepted.{contains_clause}
use Rattle.derivations.proofs.Sound.{named_count}
use Rattle.preference_search.specs.Denials.{is_denied, IsAllowed, IsDenial, IsGivenDenial, IsDeniedByOne}
use Rattle.preference_search.specs.Pairs.{both_once}
use Rattle.preference_search.proofs.Denying.{same_itself}
use Rattle.preference_search.proofs.Hints.{vars-of}
use Rattle.preference_search.proofs.Logs.{contains-itself}

-- Denials

denied-all : (set : ℕ → Bool) (vs : List ℕ) → list_all set vs ≡ true → is_denied set (map negative vs) ≡ true
denied-all set [] a = refl
denied-all set (v ∷ vs) a = let parts = and_parts (set v) (list_all set vs) a in and_from (set v) (is_denied set (map negative vs)) parts.0 (denied-all set vs parts.1)

all-denied : (set : ℕ → Bool) (vs : List ℕ) → is_denied set (map negative vs) ≡ true → list_all set vs ≡ true
all-denied set [] a = refl
all-denied set (v ∷ vs) a = let parts = and_parts (set v) (is_denied set (map negative vs)) a in and_from (set v) (list_all set vs) parts.0 (all-denied set vs parts.1)

given-denial : (set : ℕ → Bool) (v place : ℕ) (c : Constraint) (named vs : List ℕ) (clause : List Lit) (d : Refutation) → given_clause v c named ≡ Some clause → d.hints ≡ Given v place named ∷ [] → d.lits ≡ map negative vs → contains_clause (map negative vs) clause ≡ true → contains_clause clause (map negative vs) ≡ true → is_distinct vs ≡ true → list_all set vs ≡ true → IsGivenDenial set v place c d
given-denial set v place c named vs clause d given hints lits all only once inside = record {
  named = named;
  clause = clause;
  given = given;
  single = hints;
  all = ap (λ ls. contains_clause ls clause) lits ∙ all;
  only = ap (λ ls. contains_clause clause ls) lits ∙ only;
  once = ap (λ (ls : List Lit). is_distinct (map (λ l. l.var) ls)) lits ∙ (ap is_distinct (vars-of vs) ∙ once);
  inside = ap (is_denied set) lits ∙ denied-all set vs inside;
}

one-in : (set : ℕ → Bool) (v : ℕ) → set v ≡ true → list_all set (v ∷ []) ≡ true
one-in set v h = and_from (set v) true h refl

pub prohibited-denies : (set : ℕ → Bool) (v place : ℕ) (d : Refutation) → d.lits ≡ map negative (v ∷ []) → d.hints ≡ Given v place [] ∷ [] → set v ≡ true → IsGivenDenial set v place Prohibited d
prohibited-denies set v place d lits hints h = given-denial set v place Prohibited [] (v ∷ []) (negative v ∷ []) d refl hints lits (contains-itself (negative v ∷ [])) (contains-itself (negative v ∷ [])) refl (one-in set v h)

pub empty-denies : (set : ℕ → Bool) (v place : ℕ) (members : List ℕ) (d : Refutation) → members ≡ [] → d.lits ≡ map negative (v ∷ []) → d.hints ≡ Given v place [] ∷ [] → set v ≡ true → IsGivenDenial set v place (Dependency members) d
empty-denies set v place members d none lits hints h =
    given-denial set v place (Dependency members) [] (v ∷ []) (negative v ∷ []) d (ap (λ ms. Some (negative v ∷ map positive ms)) none) hints lits (contains-itself (negative v ∷ [])) (contains-itself (negative v ∷ [])) refl (one-in set v h)

pub many-deny : (set : ℕ → Bool) (v place most : ℕ) (members named : List ℕ) (d : Refutation) → d.lits ≡ map negative named → d.hints ≡ Given v place named ∷ [] → is_too_many most members named ≡ true → list_all set named ≡ true → IsGivenDenial set v place (AtMost most members) d
many-deny set v place most members named d lits hints many inside =
    let parts = and_parts (length named == (most + 1)) (is_distinct named && list_all (λ u. is_among members u) named) many in
    let more = and_parts (is_distinct named) (list_all (λ u. is_among members u) named) parts.1 in
    given-denial set v place (AtMost most members) named named (map negative named) d (cond-true (is_too_many most members named) (Some (map negative named)) None many) hints lits (contains-itself (map negative named)) (contains-itself (map negative named)) more.0 inside

pub conflict-denies : (set : ℕ → Bool) (v o place : ℕ) (d : Refutation) → d.lits ≡ map negative (both_once v o) → d.hints ≡ Given v place [] ∷ [] → (set v && set o) ≡ true → IsGivenDenial set v place (Conflict o) d
conflict-denies set v o place d lits hints both =
    let clause : List Lit = negative v ∷ negative o ∷ [] in
    let inside = and_parts (set v) (set o) both in
    elim (cases_eq v o) [
      | inl same ↦
          (let one : both_once v o ≡ v ∷ [] = cond-true (v == o) (v ∷ []) (v ∷ o ∷ []) (eq-eqb v o same) in
          let mine : is_in (negative v ∷ []) (negative v) ≡ true = or_left (is_same (negative v) (negative v)) false (same_itself (negative v)) in
          let other : is_in (negative v ∷ []) (negative o) ≡ true = subst (λ (u : ℕ). is_in (negative v ∷ []) (negative u) ≡ true) same mine in
          given-denial set v place (Conflict o) [] (v ∷ []) clause d refl hints (lits ∙ ap (map negative) one)
          (and_from (is_in (negative v ∷ []) (negative v)) (is_in (negative v ∷ []) (negative o) && true) mine (and_from (is_in (negative v ∷ []) (negative o)) true other refl))
          (and_from (is_in clause (negative v)) true (or_left (is_same (negative v) (negative v)) (is_in (negative o ∷ []) (negative v)) (same_itself (negative v))) refl)
          refl (one-in set v inside.0))
      | inr apart ↦
          (let two : both_once v o ≡ v ∷ o ∷ [] = cond-false (v == o) (v ∷ []) (v ∷ o ∷ []) (ne_eqb v o apart) in
          let away : is_among (o ∷ []) v ≡ false = false_from_ne_true (is_among (o ∷ []) v) (λ e. apart (sym (only o v e))) in
          given-denial set v place (Conflict o) [] (v ∷ o ∷ []) clause d refl hints (lits ∙ ap (map negative) two)
          (contains-itself clause) (contains-itself clause)
          (and_from (not (is_among (o ∷ []) v)) true (not_from_false (is_among (o ∷ []) v) away) refl)
          (and_from (set v) (set o && true) inside.0 (and_from (set o) true inside.1 refl)))
    ]
  where
    only : (o v : ℕ) → is_among (o ∷ []) v ≡ true → o ≡ v
    only o v e = eqb-true o v (sym (or-false (eqb o v)) ∙ e)

-- What is allowed

pub mandatory-allowed : (set : ℕ → Bool) (v : ℕ) → IsAllowed set v Mandatory
mandatory-allowed set v = λ named clause given. allowed named clause given
  where
    allowed : (named : List ℕ) (clause : List Lit) → given_clause v Mandatory named ≡ Some clause → is_denied set clause ≡ false
    allowed [] clause given = (let is : (positive v ∷ []) ≡ clause = cc in ap (is_denied set) (sym is))
    allowed (x ∷ xs) clause given = absurd (let bad : None ≡ Some clause = given in cc)

one-out : (set : ℕ → Bool) (v : ℕ) → set v ≡ false → is_denied set (negative v ∷ []) ≡ false
one-out set v h = false_from_ne_true (is_denied set (negative v ∷ [])) (λ e. let parts = and_parts (set v) true e in both_ways (set v) h parts.0)

pub prohibited-allowed : (set : ℕ → Bool) (v : ℕ) → set v ≡ false → IsAllowed set v Prohibited
prohibited-allowed set v h = λ named clause given. allowed named clause given
  where
    allowed : (named : List ℕ) (clause : List Lit) → given_clause v Prohibited named ≡ Some clause → is_denied set clause ≡ false
    allowed [] clause given = (let is : (negative v ∷ []) ≡ clause = cc in ap (is_denied set) (sym is) ∙ one-out set v h)
    allowed (x ∷ xs) clause given = absurd (let bad : None ≡ Some clause = given in cc)

pub empty-allowed : (set : ℕ → Bool) (v : ℕ) (members : List ℕ) → set v ≡ false → IsAllowed set v (Dependency members)
empty-allowed set v members h = λ named clause given. allowed named clause given
  where
    allowed : (named : List ℕ) (clause : List Lit) → given_clause v (Dependency members) named ≡ Some clause → is_denied set clause ≡ false
    allowed [] clause given =
        (let is : (negative v ∷ map positive members) ≡ clause = cc in
        ap (is_denied set) (sym is) ∙ false_from_ne_true (is_denied set (negative v ∷ map positive members)) (λ e. let parts = and_parts (set v) (is_denied set (map positive members)) e in both_ways (set v) h parts.0))
    allowed (x ∷ xs) clause given = absurd (let bad : None ≡ Some clause = given in cc)

pub some-allowed : (set : ℕ → Bool) (v : ℕ) (members : List ℕ) → (members ≡ [] → ⊥) → IsAllowed set v (Dependency members)
some-allowed set v members some = λ named clause given. allowed members some named clause given
  where
    allowed : (members : List ℕ) → (members ≡ [] → ⊥) → (named : List ℕ) (clause : List Lit) → given_clause v (Dependency members) named ≡ Some clause → is_denied set clause ≡ false
    allowed [] some [] clause given = absurd (some refl)
    allowed (m ∷ ms) some [] clause given =
        (let is : (negative v ∷ map positive (m ∷ ms)) ≡ clause = cc in
        ap (is_denied set) (sym is) ∙ false_from_ne_true (is_denied set (negative v ∷ map positive (m ∷ ms))) (λ e. let parts = and_parts (set v) (is_denied set (map positive (m ∷ ms))) e in both_ways false refl parts.1))
    allowed members some (x ∷ xs) clause given = absurd (let bad : None ≡ Some clause = given in cc)

pub conflict-allowed : (set : ℕ → Bool) (v o : ℕ) → (set v && set o) ≡ false → IsAllowed set v (Conflict o)
conflict-allowed set v o h = λ named clause given. allowed named clause given
  where
    allowed : (named : List ℕ) (clause : List Lit) → given_clause v (Conflict o) named ≡ Some clause → is_denied set clause ≡ false
    allowed [] clause given =
        (let is : (negative v ∷ negative o ∷ []) ≡ clause = cc in
        ap (is_denied set) (sym is) ∙ false_from_ne_true (is_denied set (negative v ∷ negative o ∷ [])) (λ e.
        let parts = and_parts (set v) (set o && true) e in
        let other = and_parts (set o) true parts.1 in
        both_ways (set v && set o) h (and_from (set v) (set o) parts.0 other.0)))
    allowed (x ∷ xs) clause given = absurd (let bad : None ≡ Some clause = given in cc)

pub named-clause : (b : Bool) (xs ys : List Lit) → cond b (Some xs) None ≡ Some ys → (b ≡ true) × (xs ≡ ys)
named-clause true xs ys e = (refl, (let same : xs ≡ ys = cc in same))
named-clause false xs ys e = absurd (let bad : None ≡ Some ys = e in cc)

pub few-allowed : (set : ℕ → Bool) (v most : ℕ) (members : List ℕ) → count_by set members ≤ most → IsAllowed set v (AtMost most members)
few-allowed set v most members few = λ named clause given.
    let parts = named-clause (is_too_many most members named) (map negative named) clause given in
    let many = and_parts (length named == (most + 1)) (is_distinct named && list_all (λ u. is_among members u) named) parts.0 in
    let more = and_parts (is_distinct named) (list_all (λ u. is_among members u) named) many.1 in
    ap (is_denied set) (sym parts.1) ∙ false_from_ne_true (is_denied set (map negative named)) (λ e.
    let count = named_count set members named more.0 more.1 (all-denied set named e) in
    let size = eqb-true (length named) (most + 1) many.0 in
    absurd (omega (arith, count, size, few)))

-- By number of variable and constraint

in-range : (bits : List Bool) (v : ℕ) → at bits v ≡ true → v < length bits
in-range [] v e = absurd (both_ways false refl e)
in-range (b ∷ bits) zero e = omega arith
in-range (b ∷ bits) (suc v) e = let rest = in-range bits v e in omega (arith, rest)

lower-all : (bits : List Bool) (n : ℕ) (lits : List Lit) → length bits ≡ n → is_denied (at bits) lits ≡ true → list_all (λ v. nat_lt v n) (map (λ (l : Lit). l.var) lits) ≡ true
lower-all bits n [] s d = refl
lower-all bits n (l ∷ ls) s d =
    let parts = and_parts (not l.positive && at bits l.var) (is_denied (at bits) ls) d in
    let here = and_parts (not l.positive) (at bits l.var) parts.0 in
    let low = in-range bits l.var here.1 in
    and_from (nat_lt l.var n) (list_all (λ v. nat_lt v n) (map (λ (k : Lit). k.var) ls)) (lt-ltb l.var n (omega (arith, low, s))) (lower-all bits n ls s parts.1)

-- a denial by a given clause is a denial, whatever the log
pub given-is-denial : (problem : List (List Constraint)) (log : List Lemma) (bits : List Bool) (v : ℕ) (d : Refutation) → length bits ≡ length problem → IsDeniedByOne (at bits) v (constraints_of problem v) d → IsDenial problem log (at bits) d
given-is-denial problem log bits v d size o =
    let g = o.gives in
    record {
      hint = Given v o.place g.named;
      clause = g.clause;
      single = g.single;
      named = ap (λ x. ok_or (option_and_then (λ c. given_clause v c g.named) x) BadGiven) o.at ∙ ap (λ x. ok_or x BadGiven) g.given;
      all = g.all;
      only = g.only;
      good = and_from (list_all (λ u. nat_lt u (length problem)) (map (λ (l : Lit). l.var) d.lits)) (is_distinct (map (λ (l : Lit). l.var) d.lits)) (lower-all bits (length problem) d.lits size g.inside) g.once;
      inside = g.inside;
    }

-- Answers

pub conflict-answer : {E : Type 0} (set : ℕ → Bool) (v o place : ℕ) (c : Constraint) (r : Result (Option Refutation) E) → c ≡ Conflict o
    → IfOk r (λ found. IfSome found (λ d. d.lits ≡ map negative (both_once v o)))
    → IfOk r (λ found. IfSome found (λ d. d.hints ≡ Given v place [] ∷ []))
    → IfOk r (λ found. IfSome found (λ d. (set v && set o) ≡ true))
    → IfOk r (λ found. IfSome found (λ d. IsGivenDenial set v place c d))
conflict-answer set v o place c (Ok (Some d)) e lits hints both =
    let P : Constraint → Type 0 = λ k. IsGivenDenial set v place k d in subst P (sym e) (conflict-denies set v o place d lits hints both)
conflict-answer set v o place c (Ok None) e lits hints both = tt
conflict-answer set v o place c (Err error) e lits hints both = tt

pub few-answer : {E : Type 0} (set : ℕ → Bool) (v most : ℕ) (members ms : List ℕ) (c : Constraint) (r : Result (Option Refutation) E) → c ≡ AtMost most members → ms ≡ members
    → IfOk r (λ found. IfNone found (count_by set ms ≤ most))
    → IfOk r (λ found. IfNone found (IsAllowed set v c))
few-answer set v most members ms c (Ok None) e same few =
    let P : Constraint → Type 0 = λ k. IsAllowed set v k in
    let Q : List ℕ → Type 0 = λ xs. count_by set xs ≤ most in
    subst P (sym e) (few-allowed set v most members (subst Q same few))
few-answer set v most members ms c (Ok (Some d)) e same few = tt
few-answer set v most members ms c (Err error) e same few = tt
