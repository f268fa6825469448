-- From what one clause says to what a constraint says, and to what a problem says.
use Rattle.std.proofs.Common.{◌≡◌, ℕ, suc, zero, ◌+◌, ◌<◌, ◌≤◌, true, List, [], ◌∷◌, ◌++◌, length, map, take, refl, sym, ap, ◌∙◌, subst, arith, Option, Some, None, Result, Ok, Err, IfOk, slice_get, get_or}
use Rattle.std.specs.Option.{option_and_then, ok_or}
use Rattle.std.specs.List.{filter, count_by}
use Rattle.op_constraints.specs.declared.Lit.{Lit}
use Rattle.op_constraints.specs.declared.Constraint.{Constraint}
use Rattle.op_constraints.specs.declared.Constraint.TheVariants.{Dependency, AtMost}
use Rattle.op_constraints.specs.Meets.{constraint_at, constraints_of}
use Rattle.op_constraints.specs.Walks.{is_among}
use Rattle.op_constraints.specs.Kept.{is_distinct}
use Rattle.derivations.specs.declared.Hint.TheVariants.{Given}
use Rattle.derivations.specs.declared.LogCause.TheVariants.{BadGiven}
use Rattle.derivations.specs.Clauses.{positive, negative, given_clause}
use Rattle.derivations.specs.Follows.{clause_of, left, forced, is_nothing}
use Rattle.clause_trail.specs.declared.Reason.{Reason}
use Rattle.clause_trail.specs.declared.Scan.{Scan}
use Rattle.clause_trail.specs.declared.Scan.TheVariants.{Settled, Unit as Forces, Conflict}
use Rattle.clause_trail.specs.Trails.{IsUnknown, IsSettled}
use Rattle.clause_trail.specs.Scans.{IsGivenBy, IsGivenByOne, ScansClause, ScansConstraint, ScansVariable, ScansGiven}
use Rattle.clause_trail.proofs.Counting.{is_known_in, many-given, many-false, full-given, full-forced}

pub map_ok : {E : Type 0} (P Q : Scan → Type 0) (r : Result Scan E) → ((s : Scan) → P s → Q s) → IfOk r P → IfOk r Q
map_ok P Q (Ok s) f h = f s h
map_ok P Q (Err e) f h = tt

dependency-settled : (trail : List Lit) (v : ℕ) (members : List ℕ) → IsSettled trail (negative v ∷ map positive members) → (named : List ℕ) (clause : List Lit) → given_clause v (Dependency members) named ≡ Some clause → IsSettled trail clause
dependency-settled trail v members s [] clause g =
    let is : (negative v ∷ map positive members) ≡ clause = cc in subst (λ (c : List Lit). IsSettled trail c) is s
dependency-settled trail v members s (n ∷ ns) clause g = absurd (let none : None ≡ Some clause = g in cc)

pub dependency-scan : (trail : List Lit) (v place : ℕ) (members : List ℕ) (scan : Scan) → ScansClause trail (Given v place []) (negative v ∷ map positive members) scan → ScansConstraint trail v place (Dependency members) scan
dependency-scan trail v place members Settled s = dependency-settled trail v members s
dependency-scan trail v place members (Forces l reason) s = (
  record { named = []; hint = s.0; given = ap (λ (c : List Lit). Some c) (sym s.1) },
  subst (λ (c : List Lit). forced trail c ≡ Some l) (sym s.1) s.2,
)
dependency-scan trail v place members (Conflict reason) s = (
  record { named = []; hint = s.0; given = ap (λ (c : List Lit). Some c) (sym s.1) },
  subst (λ (c : List Lit). is_nothing (left trail c) ≡ true) (sym s.1) s.2,
)

pub many-scan : (trail : List Lit) (v place most : ℕ) (members first all named : List ℕ) (reason : Reason) → is_distinct members ≡ true → most < count_by (is_known_in trail) members
    → first ≡ [] → all ≡ first ++ filter (is_known_in trail) members → named ≡ take (most + 1) all
    → reason.hint ≡ Given v place named → reason.lits ≡ map negative named
    → ScansConstraint trail v place (AtMost most members) (Conflict reason)
many-scan trail v place most members first all named reason d h f a n hint lits =
    let is : named ≡ take (most + 1) (filter (is_known_in trail) members) = n ∙ ap (λ xs. take (most + 1) xs) (a ∙ ap (λ xs. xs ++ filter (is_known_in trail) members) f) in
    let chosen : List ℕ = take (most + 1) (filter (is_known_in trail) members) in
    let row : reason.lits ≡ map negative chosen = lits ∙ ap (map negative) is in (
      record {
        named = chosen;
        hint = hint ∙ ap (λ ns. Given v place ns) is;
        given = many-given trail v most members d h ∙ ap (λ (c : List Lit). Some c) (sym row);
      },
      subst (λ (c : List Lit). is_nothing (left trail c) ≡ true) (sym row) (many-false trail most members),
    )

pub full-scan : (trail : List Lit) (v place most : ℕ) (members first named : List ℕ) (w : ℕ) (reason : Reason) → is_distinct members ≡ true → count_by (is_known_in trail) members ≡ most → IsUnknown trail (negative w) → is_among members w ≡ true
    → first ≡ w ∷ [] → named ≡ first ++ filter (is_known_in trail) members
    → reason.hint ≡ Given v place named → reason.lits ≡ map negative named
    → ScansConstraint trail v place (AtMost most members) (Forces (negative w) reason)
full-scan trail v place most members first named w reason d n u m f a hint lits =
    let chosen : List ℕ = w ∷ filter (is_known_in trail) members in
    let is : named ≡ chosen = a ∙ ap (λ xs. xs ++ filter (is_known_in trail) members) f in
    let row : reason.lits ≡ map negative chosen = lits ∙ ap (map negative) is in (
      record {
        named = chosen;
        hint = hint ∙ ap (λ ns. Given v place ns) is;
        given = full-given trail v most members w d n u m ∙ ap (λ (c : List Lit). Some c) (sym row);
      },
      subst (λ (c : List Lit). forced trail c ≡ Some (negative w)) (sym row) (full-forced trail members w u),
    )

one-given : (v : ℕ) (constraints : List Constraint) (reason : Reason) (place : ℕ) (c : Constraint) → slice_get constraints place ≡ Some c → IsGivenBy v place c reason → IsGivenByOne v constraints reason
one-given v constraints reason place c e g = record { place = place; constraint = c; at = e; gives = g }

-- a constraint that says something says it among those of the variable
pub found-scan : (trail : List Lit) (v : ℕ) (constraints : List Constraint) (place : ℕ) (c : Constraint) (scan : Scan) → slice_get constraints place ≡ Some c → (scan ≡ Settled → ⊥) → ScansConstraint trail v place c scan → ScansVariable trail v constraints scan
found-scan trail v constraints place c Settled e n s = absurd (n refl)
found-scan trail v constraints place c (Forces l reason) e n s = (one-given v constraints reason place c e s.0, s.1)
found-scan trail v constraints place c (Conflict reason) e n s = (one-given v constraints reason place c e s.0, s.1)

clause-at : (problem : List (List Constraint)) (earlier : List (List Lit)) (v : ℕ) (reason : Reason) → IsGivenByOne v (constraints_of problem v) reason → clause_of problem earlier reason.hint ≡ Ok reason.lits
clause-at problem earlier v reason g =
    ap (clause_of problem earlier) g.gives.hint
    ∙ ap (λ o. ok_or o BadGiven) (ap (λ o. option_and_then (λ k. given_clause v k g.gives.named) o) g.at ∙ g.gives.given)

-- what the constraints of a variable say, the problem says
pub given-scan : (problem : List (List Constraint)) (earlier : List (List Lit)) (trail : List Lit) (v : ℕ) (scan : Scan) → (scan ≡ Settled → ⊥) → ScansVariable trail v (constraints_of problem v) scan → ScansGiven problem earlier trail scan
given-scan problem earlier trail v Settled n s = absurd (n refl)
given-scan problem earlier trail v (Forces l reason) n s = (clause-at problem earlier v reason s.0, s.1)
given-scan problem earlier trail v (Conflict reason) n s = (clause-at problem earlier v reason s.0, s.1)

pub got : (constraints : List Constraint) (i : ℕ) (c : Constraint) → i < length constraints → c ≡ get_or constraints i c → slice_get constraints i ≡ Some c
got [] i c h e = absurd (omega arith)
got (d ∷ ds) zero c h e = ap (λ (k : Constraint). Some k) (sym e)
got (d ∷ ds) (suc i) c h e = got ds i c (omega arith) e

pub got-same : (constraints : List Constraint) (i : ℕ) (c k : Constraint) → i < length constraints → c ≡ get_or constraints i c → slice_get constraints i ≡ Some k → c ≡ k
got-same constraints i c k h e g = let is : Some c ≡ Some k = sym (got constraints i c h e) ∙ g in cc

pub got-within : (constraints : List Constraint) (i : ℕ) (c : Constraint) → slice_get constraints i ≡ Some c → i < length constraints
got-within [] i c e = absurd (let bad : None ≡ Some c = e in cc)
got-within (d ∷ ds) zero c e = omega arith
got-within (d ∷ ds) (suc i) c e = let rest = got-within ds i c e in omega (arith, rest)

pub at-within : (problem : List (List Constraint)) (v place : ℕ) (c : Constraint) → constraint_at problem v place ≡ Some c → v < length problem
at-within [] v place c e = absurd (let bad : None ≡ Some c = e in cc)
at-within (cs ∷ css) zero place c e = omega arith
at-within (cs ∷ css) (suc v) place c e = let rest = at-within css v place c e in omega (arith, rest)
