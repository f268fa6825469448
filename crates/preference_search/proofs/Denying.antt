-- What a denial means: it is what a refutation needs, and no walk that chooses all of its set succeeds.
use Rattle.std.proofs.Common.{◌≡◌, ℕ, ◌==◌, Bool, true, false, not, cond, ◌&&◌, ◌||◌, List, [], ◌∷◌, ◌++◌, map, refl, sym, ap, ◌∙◌, inl, inr, Some, None, eqb, ◌⊎◌}
use Rattle.std.proofs.Math.Bool.{and-false}
use Rattle.std.specs.List.{list_all, AllByRecursion}
use Rattle.std.proofs.lemmas.Bool.{or_cases, or_left, or_right, or_from, or_parts, and_parts, and_from, eqb-true, eq-eqb, both_ways, not_from_true, not-true, false_from_ne_true, cond-true}
use mathlib.Core.Bool.{beq}
use Rattle.op_constraints.specs.declared.Lit.{Lit}
use Rattle.op_constraints.specs.declared.Constraint.{Constraint}
use Rattle.op_constraints.specs.Meets.{Meets}
use Rattle.op_constraints.specs.Walks.{is_among, walk, walk_from, Succeeds}
use Rattle.op_constraints.proofs.WalkLaws.{under, chosen_stays}
use Rattle.op_constraints.proofs.Prefixes.{walk-append}
use Rattle.derivations.specs.declared.Lemma.{Lemma}
use Rattle.derivations.specs.declared.Refutation.{Refutation}
use Rattle.derivations.specs.declared.LogCause.TheVariants.{BadClause, NoConflict}
use Rattle.derivations.specs.Clauses.{negative, denial, is_same, is_in, lit_holds, clause_holds}
use Rattle.derivations.specs.Follows.{clause_of, clauses, left, is_nothing, last_fault, all_hints_fault, is_clause, LogFollows}
use Rattle.derivations.specs.Accepted.{denies, Refutes, contains_clause, ContainsNoGiven}
use Rattle.derivations.proofs.Grows.{clause_of-grows}
use Rattle.derivations.proofs.Sound.{beq_same, fault_of-holds, log_fault-hold}
use Rattle.preference_search.specs.Denials.{is_denied, IsDenial, AllowsSet}

-- Literals

pub beq_refl : (b : Bool) → beq b b ≡ true
beq_refl true = refl
beq_refl false = refl

beq_not : (a b : Bool) → beq (not a) (not b) ≡ beq a b
beq_not true true = refl
beq_not true false = refl
beq_not false true = refl
beq_not false false = refl

pub same_lit : (k l : Lit) → is_same k l ≡ true → k ≡ l
same_lit k l e =
    let parts = and_parts (k.var == l.var) (beq k.positive l.positive) e in
    let with_var : ℕ → Lit = λ v. record { var = v; positive = k.positive } in
    let with_sign : Bool → Lit = λ b. record { var = l.var; positive = b } in
    ap with_var (eqb-true k.var l.var parts.0) ∙ ap with_sign (beq_same k.positive l.positive parts.1)

pub same_itself : (l : Lit) → is_same l l ≡ true
same_itself l = and_from (l.var == l.var) (beq l.positive l.positive) (eq-eqb l.var l.var refl) (beq_refl l.positive)

-- the denials of a clause hold the denial of a literal exactly where the clause holds the literal
pub in_denials : (lits : List Lit) (l : Lit) → is_in (map denial lits) (denial l) ≡ is_in lits l
in_denials [] l = refl
in_denials (k ∷ ks) l = ap (λ b. ((k.var == l.var) && b) || is_in (map denial ks) (denial l)) (beq_not k.positive l.positive) ∙ ap (λ b. is_same k l || b) (in_denials ks l)

-- a literal is in what denies these exactly where it denies one of them
pub in_negatives : (vs : List ℕ) (l : Lit) → is_in (map negative vs) l ≡ (not l.positive && is_among vs l.var)
in_negatives [] l = sym (and-false (not l.positive))
in_negatives (v ∷ vs) l = ap (λ b. ((v == l.var) && beq false l.positive) || b) (in_negatives vs l) ∙ distribute l.positive (v == l.var) (is_among vs l.var)
  where
    distribute : (p a b : Bool) → ((a && beq false p) || (not p && b)) ≡ (not p && (a || b))
    distribute true true b = refl
    distribute true false b = refl
    distribute false true b = refl
    distribute false false b = refl

-- What denies a set

contains_denied : (vs : List ℕ) (clause : List Lit) → contains_clause (map negative vs) clause ≡ is_denied (is_among vs) clause
contains_denied vs [] = refl
contains_denied vs (l ∷ ls) = ap (λ b. b && contains_clause (map negative vs) ls) (in_negatives vs l) ∙ ap (λ b. (not l.positive && is_among vs l.var) && b) (contains_denied vs ls)

-- what denies a set denies each set that has more
pub denied-more : (f g : ℕ → Bool) (clause : List Lit) → ((v : ℕ) → f v ≡ true → g v ≡ true) → is_denied f clause ≡ true → is_denied g clause ≡ true
denied-more f g [] h d = refl
denied-more f g (l ∷ ls) h d =
    let parts = and_parts (not l.positive && f l.var) (is_denied f ls) d in
    let here = and_parts (not l.positive) (f l.var) parts.0 in
    and_from (not l.positive && g l.var) (is_denied g ls)
    (and_from (not l.positive) (g l.var) here.0 (h l.var here.1))
    (denied-more f g ls h parts.1)

pub undenied-less : (f g : ℕ → Bool) (clause : List Lit) → ((v : ℕ) → g v ≡ true → f v ≡ true) → is_denied f clause ≡ false → is_denied g clause ≡ false
undenied-less f g clause h d = false_from_ne_true (is_denied g clause) (λ e. both_ways (is_denied f clause) d (denied-more g f clause h e))

-- a set with less is allowed too
pub allowed-less : (problem : List (List Constraint)) (f g : ℕ → Bool) → ((v : ℕ) → g v ≡ true → f v ≡ true) → AllowsSet problem f → AllowsSet problem g
allowed-less problem f g h a = λ v place c at named clause given. undenied-less f g clause h (a v place c at named clause given)

-- the lemma of an allowed set contains no given clause
pub contains-no_given : (problem : List (List Constraint)) (vs : List ℕ) → AllowsSet problem (is_among vs) → ContainsNoGiven problem (map negative vs)
contains-no_given problem vs a = λ v place c named clause at given. contains_denied vs clause ∙ a v place c at named clause given

-- and no lemma that doesn't deny the set
pub contains-no_lemma : (vs : List ℕ) (cs : List (List Lit)) → AllByRecursion (λ clause. is_denied (is_among vs) clause ≡ false) cs → AllByRecursion (λ clause. contains_clause (map negative vs) clause ≡ false) cs
contains-no_lemma vs [] a = tt
contains-no_lemma vs (c ∷ cs) a = (contains_denied vs c ∙ a.0, contains-no_lemma vs cs a.1)

-- a denial is one of a set with more
pub denial-more : (problem : List (List Constraint)) (log : List Lemma) (f g : ℕ → Bool) (d : Refutation) → ((v : ℕ) → f v ≡ true → g v ≡ true) → IsDenial problem log f d → IsDenial problem log g d
denial-more problem log f g d h i = record {
  hint = i.hint;
  clause = i.clause;
  single = i.single;
  named = i.named;
  all = i.all;
  only = i.only;
  good = i.good;
  inside = denied-more f g d.lits h i.inside;
}

pub among-pushed : (vs : List ℕ) (m v : ℕ) → is_among (vs ++ m ∷ []) v ≡ true → (is_among vs v ≡ true) ⊎ (m ≡ v)
among-pushed [] m v e = elim (or_cases (eqb m v) false e) [ inl same ↦ inr (eqb-true m v same) | inr bad ↦ absurd (both_ways false refl bad) ]
among-pushed (w ∷ ws) m v e =
    elim (or_cases (eqb w v) (is_among (ws ++ m ∷ []) v) e) [
      | inl same ↦ inl (or_left (eqb w v) (is_among ws v) same)
      | inr rest ↦ elim (among-pushed ws m v rest) [
        | inl here ↦ inl (or_right (eqb w v) (is_among ws v) here)
        | inr last ↦ inr last
      ]
    ]

pub unnamed-denied : (vs : List ℕ) (m : ℕ) (lits : List Lit) → is_in lits (negative m) ≡ false → is_denied (is_among (vs ++ m ∷ [])) lits ≡ true → is_denied (is_among vs) lits ≡ true
unnamed-denied vs m [] n d = refl
unnamed-denied vs m (l ∷ ls) n d =
    let parts = and_parts (not l.positive && is_among (vs ++ m ∷ []) l.var) (is_denied (is_among (vs ++ m ∷ [])) ls) d in
    let here = and_parts (not l.positive) (is_among (vs ++ m ∷ []) l.var) parts.0 in
    let names = or_parts (is_same l (negative m)) (is_in ls (negative m)) n in
    elim (among-pushed vs m l.var here.1) [
      | inl inside ↦ and_from (not l.positive && is_among vs l.var) (is_denied (is_among vs) ls)
          (and_from (not l.positive) (is_among vs l.var) here.0 inside) (unnamed-denied vs m ls names.1 parts.1)
      | inr last ↦ absurd (both_ways (is_same l (negative m)) names.0
          (and_from (l.var == m) (beq l.positive false) (eq-eqb l.var m (sym last)) (ap (λ b. beq b false) (not-true l.positive here.0))))
    ]

-- a denial that doesn't name the last one is a denial of those before it
pub denial-without : (problem : List (List Constraint)) (log : List Lemma) (vs : List ℕ) (m : ℕ) (d : Refutation) → is_in d.lits (negative m) ≡ false → IsDenial problem log (is_among (vs ++ m ∷ [])) d → IsDenial problem log (is_among vs) d
denial-without problem log vs m d n i = record {
  hint = i.hint;
  clause = i.clause;
  single = i.single;
  named = i.named;
  all = i.all;
  only = i.only;
  good = i.good;
  inside = unnamed-denied vs m d.lits n i.inside;
}

-- Longer logs

pub clauses-push : (log : List Lemma) (lemma : Lemma) → clauses (log ++ lemma ∷ []) ≡ clauses log ++ lemma.lits ∷ []
clauses-push [] lemma = refl
clauses-push (l ∷ ls) lemma = ap (λ cs. l.lits ∷ cs) (clauses-push ls lemma)

-- a denial stays one where a lemma comes to the log
pub denial-grows : (problem : List (List Constraint)) (log : List Lemma) (lemma : Lemma) (set : ℕ → Bool) (d : Refutation) → IsDenial problem log set d → IsDenial problem (log ++ lemma ∷ []) set d
denial-grows problem log lemma set d i = record {
  hint = i.hint;
  clause = i.clause;
  single = i.single;
  named = ap (λ cs. clause_of problem cs i.hint) (clauses-push log lemma) ∙ clause_of-grows problem (clauses log) (lemma.lits ∷ []) i.hint i.clause i.named;
  all = i.all;
  only = i.only;
  good = i.good;
  inside = i.inside;
}

-- What a denial shows

none-left : (lits clause : List Lit) → contains_clause lits clause ≡ true → left (map denial lits) clause ≡ []
none-left lits [] a = refl
none-left lits (k ∷ ks) a =
    let parts = and_parts (is_in lits k) (contains_clause lits ks) a in
    let here : is_in (map denial lits) (denial k) ≡ true = in_denials lits k ∙ parts.0 in
    rw here (none-left lits ks parts.1)

-- a denial is a refutation
pub denial-refutes : (problem : List (List Constraint)) (log : List Lemma) (vs : List ℕ) (d : Refutation) → IsDenial problem log (is_among vs) d → Refutes problem log vs d
denial-refutes problem log vs d i =
    let trail = map denial d.lits in (
      i.inside,
      cond-true (is_clause problem d.lits) (all_hints_fault problem (clauses log) trail d.hints) (Some BadClause) i.good
          ∙ (ap (λ hs. all_hints_fault problem (clauses log) trail hs) i.single
          ∙ (ap (λ r. last_fault trail r) i.named
          ∙ ap (λ ls. cond (is_nothing ls) None (Some NoConflict)) (none-left d.lits i.clause i.all))),
    )

fails : (positive inside : Bool) → not positive ≡ true → inside ≡ true → cond positive inside (not inside) ≡ false
fails true inside p i = absurd (let bad : false ≡ true = p in cc)
fails false inside p i = not_from_true inside i

denied-fails : (vs : List ℕ) (set : ℕ → Bool) (lits : List Lit) → ((v : ℕ) → is_among vs v ≡ true → set v ≡ true) → list_all (λ l. denies vs l) lits ≡ true → clause_holds set lits ≡ false
denied-fails vs set [] h d = refl
denied-fails vs set (l ∷ ls) h d =
    let parts = and_parts (denies vs l) (list_all (λ l. denies vs l) ls) d in
    let here = and_parts (not l.positive) (is_among vs l.var) parts.0 in
    or_from (lit_holds set l) (clause_holds set ls) (fails l.positive (set l.var) here.0 (h l.var here.1)) (denied-fails vs set ls h parts.1)

-- where not all of these can be in, no set that has them all meets the problem
pub refuted : (problem : List (List Constraint)) (log : List Lemma) (vs : List ℕ) (r : Refutation) (set : ℕ → Bool) → LogFollows problem log → Refutes problem log vs r → ((v : ℕ) → is_among vs v ≡ true → set v ≡ true) → Meets problem set → ⊥
refuted problem log vs r set l i h m =
    both_ways (clause_holds set r.lits) (denied-fails vs set r.lits h i.0)
    (fault_of-holds problem (clauses log) r.lits r.hints set i.1 m (log_fault-hold problem [] log set l m tt))

-- and no walk that goes on from there succeeds
pub refuted-walks : (problem : List (List Constraint)) (log : List Lemma) (vs numbers rest : List ℕ) (r : Refutation) → LogFollows problem log → walk problem numbers ≡ Some vs → Refutes problem log vs r → Succeeds problem (numbers ++ rest) → ⊥
refuted-walks problem log vs numbers rest r l w i s =
    let (end, is, later) = under (λ e. walk_from problem e rest) (walk problem numbers) s.chosen (sym (walk-append problem numbers rest) ∙ s.walked) in
    let same : end ≡ vs = (let e : Some end ≡ Some vs = sym is ∙ w in cc) in
    let onward : walk_from problem vs rest ≡ Some s.chosen = ap (λ e. walk_from problem e rest) (sym same) ∙ later in
    refuted problem log vs r (is_among s.chosen) l i (λ v h. chosen_stays problem vs rest s.chosen v onward h) s.met
