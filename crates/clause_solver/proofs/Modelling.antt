-- Over a trail that says something of each variable, and by which each clause is settled, the set of those that are in meets the problem.
use Rattle.std.proofs.Common.{◌≡◌, ℕ, ◌<◌, ◌==◌, Bool, true, false, not, cond, ◌&&◌, ◌||◌, List, [], ◌∷◌, length, map, refl, sym, ap, ◌∙◌, subst, inl, inr, Some}
use Rattle.std.specs.Option.{option_and_then, ok_or}
use Rattle.std.specs.List.{list_all, filter, AllByRecursion}
use Rattle.std.proofs.lemmas.Bool.{cases_Bool, or_cases, or_left, or_right, and_from, both_ways, not_from_false}
use mathlib.Core.Bool.{beq}
use Rattle.op_constraints.specs.declared.Lit.{Lit}
use Rattle.op_constraints.specs.declared.Constraint.{Constraint}
use Rattle.op_constraints.specs.Meets.{constraint_at, IsClosed, Meets}
use Rattle.op_constraints.specs.Walks.{is_among}
use Rattle.op_constraints.specs.Kept.{HasDistinctMembers}
use Rattle.derivations.specs.declared.Hint.TheVariants.{Given}
use Rattle.derivations.specs.declared.LogCause.TheVariants.{BadGiven}
use Rattle.derivations.specs.Clauses.{positive, negative, denial, is_same, is_in, lit_holds, clause_holds, given_clause}
use Rattle.derivations.specs.Follows.{left, is_nothing}
use Rattle.derivations.proofs.Converse.{clauses_are_problem}
use Rattle.clause_trail.specs.declared.Entry.{Entry}
use Rattle.clause_trail.specs.Trails.{literals, IsKnown, IsOrdered}
use Rattle.clause_trail.specs.Scans.{AllSettled}
use Rattle.clause_trail.proofs.Literals.{same_lit, same_itself}
use Rattle.clause_analysis.proofs.Forcing.{denial_twice}
use Rattle.clause_solver.proofs.Below.{IsBelow, named_below}

and_true : (b : Bool) → (b && true) ≡ b
and_true true = refl
and_true false = refl

and_false : (b : Bool) → (b && false) ≡ false
and_false true = refl
and_false false = refl

-- the variables that are in
pub in_positive : (es : List Entry) (v : ℕ) → is_among (map (λ e. e.lit.var) (filter (λ e. e.lit.positive) es)) v ≡ is_in (literals es) (positive v)
in_positive [] v = refl
in_positive (e ∷ es) v =
    let rest = in_positive es v in
    elim (cases_Bool e.lit.positive) [
      | inl here ↦ rw here (ap (λ b. b || is_among (map (λ e. e.lit.var) (filter (λ e. e.lit.positive) es)) v) (sym (and_true (e.lit.var == v))) ∙ ap (λ b. ((e.lit.var == v) && true) || b) rest)
      | inr other ↦ rw other (rest ∙ ap (λ b. b || is_in (literals es) (positive v)) (sym (and_false (e.lit.var == v))))
    ]

false_from : (b : Bool) → (b ≡ true → ⊥) → b ≡ false
false_from true n = absurd (n refl)
false_from false n = refl

beq_not : (a p : Bool) → (a && beq p (not p)) ≡ true → ⊥
beq_not false p e = let bad : false ≡ true = e in cc
beq_not true true e = let bad : false ≡ true = e in cc
beq_not true false e = let bad : false ≡ true = e in cc

opposite : (l : Lit) → is_same l (denial l) ≡ true → ⊥
opposite l e = beq_not (l.var == l.var) l.positive e

-- a trail doesn't say both
one_way : (size : ℕ) (es : List Entry) (l : Lit) → IsOrdered size es → is_in (literals es) l ≡ true → is_in (literals es) (denial l) ≡ true → ⊥
one_way size [] l o i j = let bad : false ≡ true = i in cc
one_way size (e ∷ es) l o i j =
    elim (or_cases (is_same e.lit l) (is_in (literals es) l) i) [
      | inl here ↦
          (let is : e.lit ≡ l = same_lit e.lit l here in
          elim (or_cases (is_same e.lit (denial l)) (is_in (literals es) (denial l)) j) [
            | inl there ↦ opposite e.lit (subst (λ (m : Lit). is_same e.lit (denial m) ≡ true) (sym is) there)
            | inr rest ↦ both_ways (is_in (literals es) (denial e.lit)) o.1.1 (subst (λ (m : Lit). is_in (literals es) (denial m) ≡ true) (sym is) rest)
          ])
      | inr rest ↦
          elim (or_cases (is_same e.lit (denial l)) (is_in (literals es) (denial l)) j) [
            | inl there ↦
                (let is : e.lit ≡ denial l = same_lit e.lit (denial l) there in
                let back : denial e.lit ≡ l = ap denial is ∙ denial_twice l in
                both_ways (is_in (literals es) (denial e.lit)) o.1.1 (subst (λ (m : Lit). is_in (literals es) m ≡ true) (sym back) rest))
            | inr more ↦ one_way size es l o.2 rest more
          ]
    ]

says_in : (trail : List Lit) (v : ℕ) (b : Bool) → is_in trail (record { var = v; positive = b }) ≡ true → (is_in trail (record { var = v; positive = not b }) ≡ true → ⊥) → lit_holds (λ w. is_in trail (positive w)) (record { var = v; positive = b }) ≡ true
says_in trail v true i n = i
says_in trail v false i n = not_from_false (is_in trail (positive v)) (false_from (is_in trail (positive v)) n)

-- a literal of the trail is true
true_in : (size : ℕ) (es : List Entry) (l : Lit) → IsOrdered size es → is_in (literals es) l ≡ true → lit_holds (λ w. is_in (literals es) (positive w)) l ≡ true
true_in size es l o i = says_in (literals es) l.var l.positive i (one_way size es l o i)

each_true : (test : Lit → Bool) (ls : List Lit) → ((l : Lit) → is_in ls l ≡ true → test l ≡ true) → list_all test ls ≡ true
each_true test [] f = refl
each_true test (l ∷ ls) f = and_from (test l) (list_all test ls) (f l (or_left (is_same l l) (is_in ls l) (same_itself l))) (each_true test ls (λ m i. f m (or_right (is_same l m) (is_in ls m) i)))

known_lit : (trail : List Lit) (v : ℕ) (b : Bool) → IsKnown trail v → is_in trail (record { var = v; positive = not b }) ≡ false → is_in trail (record { var = v; positive = b }) ≡ true
known_lit trail v true k f =
    elim (or_cases (is_in trail (positive v)) (is_in trail (negative v)) k) [
      | inl here ↦ here
      | inr other ↦ absurd (both_ways (is_in trail (negative v)) f other)
    ]
known_lit trail v false k f =
    elim (or_cases (is_in trail (positive v)) (is_in trail (negative v)) k) [
      | inl other ↦ absurd (both_ways (is_in trail (positive v)) f other)
      | inr here ↦ here
    ]

-- a clause that isn't false holds
holds : (n : ℕ) (es : List Entry) (size : ℕ) (clause : List Lit) → IsOrdered size es → ((v : ℕ) → v < n → IsKnown (literals es) v) → IsBelow n clause → is_nothing (left (literals es) clause) ≡ false → clause_holds (λ w. is_in (literals es) (positive w)) clause ≡ true
holds n es size [] o k b f = absurd (let bad : true ≡ false = f in cc)
holds n es size (l ∷ ls) o k b f =
    let set : ℕ → Bool = λ w. is_in (literals es) (positive w) in
    elim (cases_Bool (is_in (literals es) (denial l))) [
      | inl here ↦ (let f' = rw here at f in or_right (lit_holds set l) (clause_holds set ls) (holds n es size ls o k b.1 f'))
      | inr other ↦ or_left (lit_holds set l) (clause_holds set ls) (true_in size es l o (known_lit (literals es) l.var l.positive (k l.var b.0) other))
    ]

holds_same : (f g : ℕ → Bool) (l : Lit) → ((v : ℕ) → f v ≡ g v) → lit_holds f l ≡ lit_holds g l
holds_same f g l e = ap (λ b. cond l.positive b (not b)) (e l.var)

clause_same : (f g : ℕ → Bool) (ls : List Lit) → ((v : ℕ) → f v ≡ g v) → clause_holds f ls ≡ clause_holds g ls
clause_same f g [] e = refl
clause_same f g (l ∷ ls) e = ap (λ b. b || clause_holds f ls) (holds_same f g l e) ∙ ap (λ b. lit_holds g l || b) (clause_same f g ls e)

-- the set of the variables that are in meets the problem
pub meets : (problem : List (List Constraint)) (lemmas : List (List Lit)) (size : ℕ) (es : List Entry) (set : ℕ → Bool) → IsClosed problem → AllByRecursion (λ cs. AllByRecursion HasDistinctMembers cs) problem → IsOrdered size es → ((v : ℕ) → v < length problem → IsKnown (literals es) v) → AllSettled problem lemmas (literals es) → ((v : ℕ) → set v ≡ is_in (literals es) (positive v)) → ((v place : ℕ) (c : Constraint) (named : List ℕ) (clause : List Lit) → constraint_at problem v place ≡ Some c → given_clause v c named ≡ Some clause → IsBelow (length problem) clause) → Meets problem set
meets problem lemmas size es set closed distinct o known settled same below =
    let both = clauses_are_problem problem set distinct in
    both.1 (λ v place c named clause there given.
    let named_so = ap (λ q. ok_or q BadGiven) (ap (λ q. option_and_then (λ k. given_clause v k named) q) there ∙ given) in
    let s = settled (Given v place named) clause named_so in
    clause_same set (λ w. is_in (literals es) (positive w)) clause same ∙ holds (length problem) es size clause o known (below v place c named clause there given) s.unfalse)

pub given_below : (problem : List (List Constraint)) → IsClosed problem → (v place : ℕ) (c : Constraint) (named : List ℕ) (clause : List Lit) → constraint_at problem v place ≡ Some c → given_clause v c named ≡ Some clause → IsBelow (length problem) clause
given_below problem closed v place c named clause there given =
    named_below problem [] closed tt (Given v place named) clause (ap (λ q. ok_or q BadGiven) (ap (λ q. option_and_then (λ k. given_clause v k named) q) there ∙ given))

-- and each literal of the trail is true of it
pub all_true : (size : ℕ) (es : List Entry) (set : ℕ → Bool) → IsOrdered size es → ((v : ℕ) → set v ≡ is_in (literals es) (positive v)) → list_all (λ l. lit_holds set l) (literals es) ≡ true
all_true size es set o same = each_true (λ l. lit_holds set l) (literals es) (λ l i. holds_same set (λ w. is_in (literals es) (positive w)) l same ∙ true_in size es l o i)

-- the variables that are in are of the problem
pub vars_within : (size : ℕ) (es : List Entry) → IsOrdered size es → AllByRecursion (λ v. v < size) (map (λ e. e.lit.var) (filter (λ e. e.lit.positive) es))
vars_within size [] o = tt
vars_within size (e ∷ es) o =
    let rest = vars_within size es o.2 in
    elim (cases_Bool e.lit.positive) [
      | inl here ↦ rw here (o.0, rest)
      | inr other ↦ rw other rest
    ]
