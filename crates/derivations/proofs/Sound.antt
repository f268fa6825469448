-- What follows holds of every set that meets the problem.
use Rattle.std.proofs.Common.{◌≡◌, ℕ, zero, suc, ◌+◌, ◌≤◌, ◌==◌, nat_le, Bool, true, false, not, cond, ◌&&◌, ◌||◌, List, [], ◌∷◌, ◌++◌, length, map, refl, sym, ap, ◌∙◌, subst, arith, inl, inr, Option, Some, None, Result, Ok, Err, slice_get}
use Rattle.std.specs.Option.{option_and_then, option_map, option_or, ok_or}
use Rattle.std.specs.List.{list_any, list_all, filter, count_by, AllByRecursion}
use Rattle.std.proofs.lemmas.Bool.{cases_Bool, not-true, not-false, or_cases, or_left, or_right, or_parts, and_parts, and_from, eqb-true, leb-true, both_ways, true_from_ne_false, eqb-false, ne_eqb, eq-eqb, cases_eq, or_from, not_from_false, cond-true, cond-false}
use mathlib.Core.Bool.{beq}
use Rattle.op_constraints.specs.declared.Lit.{Lit}
use Rattle.op_constraints.specs.declared.Constraint.{Constraint}
use Rattle.op_constraints.specs.declared.Constraint.TheVariants.{Mandatory, Prohibited, Dependency, Conflict, AtMost}
use Rattle.op_constraints.specs.Meets.{constraint_at, is_true_of, Meets}
use Rattle.op_constraints.specs.Walks.{is_among}
use Rattle.derivations.specs.declared.Hint.{Hint}
use Rattle.derivations.specs.declared.Hint.TheVariants.{Lemma as LemmaHint, Given}
use Rattle.derivations.specs.declared.Lemma.{Lemma}
use Rattle.derivations.specs.declared.LogCause.{LogCause}
use Rattle.derivations.specs.declared.LogCause.TheVariants.{BadClause, NoSuchHint, BadGiven, HintNotUnit, NoConflict}
use Rattle.derivations.specs.declared.LogFault.{LogFault}
use Rattle.derivations.specs.Clauses.{positive, negative, denial, is_same, is_in, lit_holds, clause_holds, is_too_many, given_clause}
use Rattle.op_constraints.specs.Kept.{is_distinct}
use Rattle.derivations.specs.Follows.{clause_of, left, sole, forced, after_forced, unit_fault, is_nothing, last_fault, hints_fault, all_hints_fault, is_clause, fault_of, log_fault, clauses}
use Rattle.op_constraints.proofs.Full.{count_by-cons}
use Rattle.op_constraints.proofs.WalkLaws.{under}
use Rattle.derivations.specs.Laws.{AllHold}

-- Literals

denied : (b s : Bool) → cond (not b) s (not s) ≡ not (cond b s (not s))
denied true true = refl
denied true false = refl
denied false true = refl
denied false false = refl

pub lit_holds-denial : (set : ℕ → Bool) (l : Lit) → lit_holds set (denial l) ≡ not (lit_holds set l)
lit_holds-denial set l = denied l.positive (set l.var)

pub beq_same : (a b : Bool) → beq a b ≡ true → a ≡ b
beq_same true true e = refl
beq_same true false e = cc
beq_same false true e = cc
beq_same false false e = refl

pub same-holds : (set : ℕ → Bool) (l m : Lit) → is_same l m ≡ true → lit_holds set l ≡ lit_holds set m
same-holds set l m e =
    let parts = and_parts (l.var == m.var) (beq l.positive m.positive) e in
    let vars : l.var ≡ m.var = eqb-true l.var m.var parts.0 in
    let signs : l.positive ≡ m.positive = beq_same l.positive m.positive parts.1 in
    cc

-- Trails: each of their literals holds

abbrev pub Holds : (ℕ → Bool) → List Lit → Type 0
Holds set trail = AllByRecursion (λ l. lit_holds set l ≡ true) trail

pub in_trail : (set : ℕ → Bool) (trail : List Lit) (l : Lit) → Holds set trail → is_in trail l ≡ true → lit_holds set l ≡ true
in_trail set [] l h e = cc
in_trail set (m ∷ trail) l h e =
    elim (or_cases (is_same m l) (is_in trail l) e) [
      | inl same ↦ sym (same-holds set m l same) ∙ h.0
      | inr rest ↦ in_trail set trail l h.1 rest
    ]

pub left-holds : (set : ℕ → Bool) (trail clause : List Lit) → Holds set trail → clause_holds set clause ≡ true → clause_holds set (left trail clause) ≡ true
left-holds set trail [] h e = e
left-holds set trail (l ∷ ls) h e =
    elim (cases_Bool (is_in trail (denial l))) [
      | inl false_here ↦
          let out : lit_holds set l ≡ false = not-true (lit_holds set l) (sym (lit_holds-denial set l) ∙ in_trail set trail (denial l) h false_here) in
          let rest : clause_holds set ls ≡ true = ap (λ b. b || clause_holds set ls) (sym out) ∙ e in
          rw false_here (left-holds set trail ls h rest)
      | inr open_here ↦
          rw open_here (elim (or_cases (lit_holds set l) (clause_holds set ls) e) [
            | inl here ↦ or_left (lit_holds set l) (clause_holds set (left trail ls)) here
            | inr rest ↦ or_right (lit_holds set l) (clause_holds set (left trail ls)) (left-holds set trail ls h rest)
          ])
    ]

same-all : (set : ℕ → Bool) (l : Lit) (ls : List Lit) → list_all (λ m. is_same m l) ls ≡ true → clause_holds set ls ≡ true → lit_holds set l ≡ true
same-all set l [] a e = cc
same-all set l (m ∷ ls) a e =
    let parts = and_parts (is_same m l) (list_all (λ m. is_same m l) ls) a in
    elim (or_cases (lit_holds set m) (clause_holds set ls) e) [
      | inl here ↦ sym (same-holds set m l parts.0) ∙ here
      | inr rest ↦ same-all set l ls parts.1 rest
    ]

pub sole-holds : (set : ℕ → Bool) (ls : List Lit) (l : Lit) → sole ls ≡ Some l → clause_holds set ls ≡ true → lit_holds set l ≡ true
sole-holds set [] l s e = cc
sole-holds set (m ∷ ls) l s e =
    elim (cases_Bool (list_all (λ k. is_same k m) ls)) [
      | inl all ↦
          let same : m ≡ l = cc (sym (cond-true (list_all (λ k. is_same k m) ls) (Some m) None all) ∙ s) in
          subst (λ (k : Lit). lit_holds set k ≡ true) same
          (elim (or_cases (lit_holds set m) (clause_holds set ls) e) [ inl here ↦ here | inr rest ↦ same-all set m ls all rest ])
      | inr not_all ↦ absurd (let none : None ≡ Some l = sym (cond-false (list_all (λ k. is_same k m) ls) (Some m) None not_all) ∙ s in cc)
    ]

kept_some : (b : Bool) (k l : Lit) → cond b None (Some k) ≡ Some l → k ≡ l
kept_some true k l e = absurd (let bad : None ≡ Some l = e in cc)
kept_some false k l e = cc

-- what a clause forces holds
pub forced-holds : (set : ℕ → Bool) (trail clause : List Lit) (l : Lit) → Holds set trail → clause_holds set clause ≡ true → forced trail clause ≡ Some l → lit_holds set l ≡ true
forced-holds set trail clause l h e f =
    let (k, is, kept) = under (λ k. cond (is_in trail k) None (Some k)) (sole (left trail clause)) l f in
    subst (λ (m : Lit). lit_holds set m ≡ true) (kept_some (is_in trail k) k l kept)
    (sole-holds set (left trail clause) k is (left-holds set trail clause h e))

-- Given clauses

pub positive-any : (set : ℕ → Bool) (vs : List ℕ) → clause_holds set (map positive vs) ≡ list_any set vs
positive-any set [] = refl
positive-any set (v ∷ vs) = ap (λ b. set v || b) (positive-any set vs)

-- where no denial of these holds, all of them are in
all_in : (set : ℕ → Bool) (vs : List ℕ) → clause_holds set (map negative vs) ≡ false → list_all set vs ≡ true
all_in set [] e = refl
all_in set (v ∷ vs) e =
    let parts = or_parts (not (set v)) (clause_holds set (map negative vs)) e in
    and_from (set v) (list_all set vs) (not-false (set v) parts.0) (all_in set vs parts.1)

abbrev without : ℕ → List ℕ → List ℕ
without m vs = filter (λ n. not (m == n)) vs

without-absent : (m : ℕ) (vs : List ℕ) → is_among vs m ≡ false → length (without m vs) ≡ length vs
without-absent m [] e = refl
without-absent m (n ∷ ns) e =
    let parts = or_parts (n == m) (is_among ns m) e in
    let differ : (m == n) ≡ false = ne_eqb m n (λ s. eqb-false n m parts.0 (sym s)) in
    rw differ (ap suc (without-absent m ns parts.1))

without-length : (m : ℕ) (vs : List ℕ) → is_distinct vs ≡ true → length vs ≤ length (without m vs) + cond (is_among vs m) 1 0
without-length m [] d = omega arith
without-length m (n ∷ ns) d =
    let parts = and_parts (not (is_among ns n)) (is_distinct ns) d in
    elim (cases_eq m n) [
      | inl same ↦
          let here : (m == n) ≡ true = eq-eqb m n same in
          let there : (n == m) ≡ true = eq-eqb n m (sym same) in
          let absent : is_among ns m ≡ false = subst (λ (k : ℕ). is_among ns k ≡ false) (sym same) (not-true (is_among ns n) parts.0) in
          rw here (rw there (omega (arith, without-absent m ns absent)))
      | inr other ↦
          let here : (m == n) ≡ false = ne_eqb m n other in
          let there : (n == m) ≡ false = ne_eqb n m (λ s. other (sym s)) in
          rw here (rw there (omega (arith, without-length m ns parts.1)))
    ]

without-among : (m : ℕ) (vs : List ℕ) (v : ℕ) → is_among vs v ≡ false → is_among (without m vs) v ≡ false
without-among m [] v e = e
without-among m (n ∷ ns) v e =
    let parts = or_parts (n == v) (is_among ns v) e in
    elim (cases_Bool (m == n)) [
      | inl here ↦ rw here (without-among m ns v parts.1)
      | inr there ↦ rw there (or_from (n == v) (is_among (without m ns) v) parts.0 (without-among m ns v parts.1))
    ]

without-distinct : (m : ℕ) (vs : List ℕ) → is_distinct vs ≡ true → is_distinct (without m vs) ≡ true
without-distinct m [] d = refl
without-distinct m (n ∷ ns) d =
    let parts = and_parts (not (is_among ns n)) (is_distinct ns) d in
    elim (cases_Bool (m == n)) [
      | inl here ↦ rw here (without-distinct m ns parts.1)
      | inr there ↦ rw there (and_from (not (is_among (without m ns) n)) (is_distinct (without m ns)) (not_from_false (is_among (without m ns) n) (without-among m ns n (not-true (is_among ns n) parts.0))) (without-distinct m ns parts.1))
    ]

without-within : (m : ℕ) (ms vs : List ℕ) → list_all (λ v. is_among (m ∷ ms) v) vs ≡ true → list_all (λ v. is_among ms v) (without m vs) ≡ true
without-within m ms [] a = refl
without-within m ms (n ∷ ns) a =
    let parts = and_parts (is_among (m ∷ ms) n) (list_all (λ v. is_among (m ∷ ms) v) ns) a in
    elim (cases_Bool (m == n)) [
      | inl here ↦ rw here (without-within m ms ns parts.1)
      | inr there ↦ rw there (and_from (is_among ms n) (list_all (λ v. is_among ms v) (without m ns))
          (elim (or_cases (m == n) (is_among ms n) parts.0) [ inl here ↦ absurd (both_ways (m == n) there here) | inr rest ↦ rest ])
          (without-within m ms ns parts.1))
    ]

without-all : (set : ℕ → Bool) (m : ℕ) (vs : List ℕ) → list_all set vs ≡ true → list_all set (without m vs) ≡ true
without-all set m [] a = refl
without-all set m (n ∷ ns) a =
    let parts = and_parts (set n) (list_all set ns) a in
    elim (cases_Bool (m == n)) [
      | inl here ↦ rw here (without-all set m ns parts.1)
      | inr there ↦ rw there (and_from (set n) (list_all set (without m ns)) parts.0 (without-all set m ns parts.1))
    ]

among-all : (set : ℕ → Bool) (m : ℕ) (vs : List ℕ) → list_all set vs ≡ true → is_among vs m ≡ true → set m ≡ true
among-all set m [] a e = cc
among-all set m (n ∷ ns) a e =
    let parts = and_parts (set n) (list_all set ns) a in
    elim (or_cases (n == m) (is_among ns m) e) [
      | inl here ↦ subst (λ (k : ℕ). set k ≡ true) (eqb-true n m here) parts.0
      | inr rest ↦ among-all set m ns parts.1 rest
    ]

-- as many distinct members as are named are in the set
pub named_count : (set : ℕ → Bool) (members named : List ℕ) → is_distinct named ≡ true → list_all (λ v. is_among members v) named ≡ true → list_all set named ≡ true → length named ≤ count_by set members
named_count set [] [] d w a = omega arith
named_count set [] (n ∷ ns) d w a = absurd (let bad : false ≡ true = w in cc)
named_count set (m ∷ ms) named d w a =
    let rest = named_count set ms (without m named) (without-distinct m named d) (without-within m ms named w) (without-all set m named a) in
    elim (cases_Bool (is_among named m)) [
      | inl here ↦
          let more = count_by-cons set m ms true (among-all set m named a here) in
          let long = rw here at (without-length m named d) in
          omega (arith, rest, long, more)
      | inr absent ↦
          let long = rw absent at (without-length m named d) in
          let more = count_by-cons set m ms (set m) refl in
          omega (arith, rest, long, more)
    ]

too_many-holds : (set : ℕ → Bool) (most : ℕ) (members named : List ℕ) → nat_le (count_by set members) most ≡ true → is_too_many most members named ≡ true → clause_holds set (map negative named) ≡ true
too_many-holds set most members named h t =
    true_from_ne_false (clause_holds set (map negative named)) (λ none.
    let parts = and_parts (length named == (most + 1)) (is_distinct named && list_all (λ v. is_among members v) named) t in
    let inner = and_parts (is_distinct named) (list_all (λ v. is_among members v) named) parts.1 in
    let long : length named ≡ most + 1 = eqb-true (length named) (most + 1) parts.0 in
    let count = named_count set members named inner.0 inner.1 (all_in set named none) in
    let small : count_by set members ≤ most = leb-true (count_by set members) most h in
    omega (arith, long, count, small))

pub given_holds : (set : ℕ → Bool) (v : ℕ) (c : Constraint) (named : List ℕ) (clause : List Lit) → is_true_of set v c ≡ true → given_clause v c named ≡ Some clause → clause_holds set clause ≡ true
given_holds set v Mandatory [] clause h g =
    let is : (positive v ∷ []) ≡ clause = cc in subst (λ (c : List Lit). clause_holds set c ≡ true) is (or_left (set v) false h)
given_holds set v Prohibited [] clause h g =
    let is : (negative v ∷ []) ≡ clause = cc in subst (λ (c : List Lit). clause_holds set c ≡ true) is (or_left (not (set v)) false h)
given_holds set v (Dependency members) [] clause h g =
    let is : (negative v ∷ map positive members) ≡ clause = cc in
    subst (λ (c : List Lit). clause_holds set c ≡ true) is (ap (λ b. not (set v) || b) (positive-any set members) ∙ h)
given_holds set v (Conflict other) [] clause h g =
    let is : (negative v ∷ negative other ∷ []) ≡ clause = cc in
    subst (λ (c : List Lit). clause_holds set c ≡ true) is (elim (or_cases (not (set v)) (not (set other)) h) [
      | inl here ↦ or_left (not (set v)) (not (set other) || false) here
      | inr there ↦ or_right (not (set v)) (not (set other) || false) (or_left (not (set other)) false there)
    ])
given_holds set v (AtMost most members) named clause h g =
    elim (cases_Bool (is_too_many most members named)) [
      | inl holds ↦
          let is : map negative named ≡ clause = cc (sym (cond-true (is_too_many most members named) (Some (map negative named)) None holds) ∙ g) in
          subst (λ (c : List Lit). clause_holds set c ≡ true) is (too_many-holds set most members named h holds)
      | inr fails ↦ absurd (let none : None ≡ Some clause = sym (cond-false (is_too_many most members named) (Some (map negative named)) None fails) ∙ g in cc)
    ]
given_holds set v Mandatory (n ∷ ns) clause h g = absurd (let none : None ≡ Some clause = g in cc)
given_holds set v Prohibited (n ∷ ns) clause h g = absurd (let none : None ≡ Some clause = g in cc)
given_holds set v (Dependency members) (n ∷ ns) clause h g = absurd (let none : None ≡ Some clause = g in cc)
given_holds set v (Conflict other) (n ∷ ns) clause h g = absurd (let none : None ≡ Some clause = g in cc)

-- Hints

ok_or_ok : {A E : Type 0} (o : Option A) (e : E) (x : A) → ok_or o e ≡ Ok x → o ≡ Some x
ok_or_ok None e x h = absurd (let bad : Err e ≡ Ok x = h in cc)
ok_or_ok (Some y) e x h = cc

at_holds : (set : ℕ → Bool) (earlier : List (List Lit)) (n : ℕ) (clause : List Lit) → AllHold set earlier → slice_get earlier n ≡ Some clause → clause_holds set clause ≡ true
at_holds set [] n clause a e = absurd (let bad : None ≡ Some clause = e in cc)
at_holds set (c ∷ cs) zero clause a e = let is : c ≡ clause = cc in subst (λ (k : List Lit). clause_holds set k ≡ true) is a.0
at_holds set (c ∷ cs) (suc n) clause a e = at_holds set cs n clause a.1 e

pub clause_of-holds : (problem : List (List Constraint)) (earlier : List (List Lit)) (set : ℕ → Bool) (hint : Hint) (clause : List Lit) → Meets problem set → AllHold set earlier → clause_of problem earlier hint ≡ Ok clause → clause_holds set clause ≡ true
clause_of-holds problem earlier set (LemmaHint number) clause m a e = at_holds set earlier number clause a (ok_or_ok (slice_get earlier number) NoSuchHint clause e)
clause_of-holds problem earlier set (Given v place members) clause m a e =
    let some = ok_or_ok (option_and_then (λ c. given_clause v c members) (constraint_at problem v place)) BadGiven clause e in
    let (c, there, given) = under (λ c. given_clause v c members) (constraint_at problem v place) clause some in
    given_holds set v c members clause (m v place c there) given

nothing_left : (set : ℕ → Bool) (ls : List Lit) → clause_holds set ls ≡ true → cond (is_nothing ls) None (Some NoConflict) ≡ None → ⊥
nothing_left set [] h e = cc
nothing_left set (l ∷ ls) h e = let bad : Some NoConflict ≡ None = e in cc

last_false : (set : ℕ → Bool) (trail : List Lit) (r : Result (List Lit) LogCause) → Holds set trail → ((clause : List Lit) → r ≡ Ok clause → clause_holds set clause ≡ true) → last_fault trail r ≡ None → ⊥
last_false set trail (Err cause) h sound e = let bad : Some cause ≡ None = e in cc
last_false set trail (Ok clause) h sound e = nothing_left set (left trail clause) (left-holds set trail clause h (sound clause refl)) e

after_false : (set : ℕ → Bool) (o : Option Lit) (rest : Lit → Option LogCause) → ((l : Lit) → o ≡ Some l → lit_holds set l ≡ true) → ((l : Lit) → lit_holds set l ≡ true → rest l ≡ None → ⊥) → after_forced o rest ≡ None → ⊥
after_false set None rest forces more e = let bad : Some HintNotUnit ≡ None = e in cc
after_false set (Some l) rest forces more e = more l (forces l refl) e

unit_false : (set : ℕ → Bool) (trail : List Lit) (r : Result (List Lit) LogCause) (rest : Lit → Option LogCause) → Holds set trail → ((clause : List Lit) → r ≡ Ok clause → clause_holds set clause ≡ true) → ((l : Lit) → lit_holds set l ≡ true → rest l ≡ None → ⊥) → unit_fault trail r rest ≡ None → ⊥
unit_false set trail (Err cause) rest h sound more e = let bad : Some cause ≡ None = e in cc
unit_false set trail (Ok clause) rest h sound more e = after_false set (forced trail clause) rest (λ l f. forced-holds set trail clause l h (sound clause refl) f) more e

-- no set that meets the problem lets the literals of the trail hold
pub hints_false : (problem : List (List Constraint)) (earlier : List (List Lit)) (set : ℕ → Bool) (trail : List Lit) (hint : Hint) (hints : List Hint) → Meets problem set → AllHold set earlier → Holds set trail → hints_fault problem earlier trail hint hints ≡ None → ⊥
hints_false problem earlier set trail hint [] m a h e = last_false set trail (clause_of problem earlier hint) h (λ clause is. clause_of-holds problem earlier set hint clause m a is) e
hints_false problem earlier set trail hint (next ∷ hints) m a h e =
    unit_false set trail (clause_of problem earlier hint) (λ l. hints_fault problem earlier (l ∷ trail) next hints) h (λ clause is. clause_of-holds problem earlier set hint clause m a is)
    (λ l holds rest. hints_false problem earlier set (l ∷ trail) next hints m a (holds, h) rest) e

all_hints_false : (problem : List (List Constraint)) (earlier : List (List Lit)) (set : ℕ → Bool) (trail : List Lit) (hints : List Hint) → Meets problem set → AllHold set earlier → Holds set trail → all_hints_fault problem earlier trail hints ≡ None → ⊥
all_hints_false problem earlier set trail [] m a h e = let bad : Some NoConflict ≡ None = e in cc
all_hints_false problem earlier set trail (hint ∷ hints) m a h e = hints_false problem earlier set trail hint hints m a h e

denials-hold : (set : ℕ → Bool) (lits : List Lit) → clause_holds set lits ≡ false → Holds set (map denial lits)
denials-hold set [] e = tt
denials-hold set (l ∷ ls) e =
    let parts = or_parts (lit_holds set l) (clause_holds set ls) e in
    (lit_holds-denial set l ∙ not_from_false (lit_holds set l) parts.0, denials-hold set ls parts.1)

no_fault : (b : Bool) (o : Option LogCause) → cond b o (Some BadClause) ≡ None → o ≡ None
no_fault true o e = e
no_fault false o e = absurd (let bad : Some BadClause ≡ None = e in cc)

-- what follows holds of every set that meets the problem and of which the earlier clauses hold
pub fault_of-holds : (problem : List (List Constraint)) (earlier : List (List Lit)) (lits : List Lit) (hints : List Hint) (set : ℕ → Bool) → fault_of problem earlier lits hints ≡ None → Meets problem set → AllHold set earlier → clause_holds set lits ≡ true
fault_of-holds problem earlier lits hints set f m a =
    true_from_ne_false (clause_holds set lits) (λ none.
    all_hints_false problem earlier set (map denial lits) hints m a (denials-hold set lits none)
    (no_fault (is_clause problem lits) (all_hints_fault problem earlier (map denial lits) hints) f))

pub AllHold-push : (set : ℕ → Bool) (cs : List (List Lit)) (c : List Lit) → AllHold set cs → clause_holds set c ≡ true → AllHold set (cs ++ c ∷ [])
AllHold-push set [] c a h = (h, tt)
AllHold-push set (k ∷ ks) c a h = (a.0, AllHold-push set ks c a.1 h)

pub or_none : {A : Type 0} (o p : Option A) → option_or o p ≡ None → (o ≡ None) × (p ≡ None)
or_none None p e = (refl, e)
or_none (Some x) p e = absurd (let bad : Some x ≡ None = e in cc)

pub map_none : {A B : Type 0} (f : A → B) (o : Option A) → option_map f o ≡ None → o ≡ None
map_none f None e = refl
map_none f (Some x) e = absurd (let bad : Some (f x) ≡ None = e in cc)

pub log_fault-hold : (problem : List (List Constraint)) (earlier : List (List Lit)) (log : List Lemma) (set : ℕ → Bool) → log_fault problem earlier log ≡ None → Meets problem set → AllHold set earlier → AllHold set (clauses log)
log_fault-hold problem earlier [] set f m a = tt
log_fault-hold problem earlier (lemma ∷ lemmas) set f m a =
    let name : LogCause → LogFault = λ cause. record { number = length earlier; cause = cause } in
    let parts = or_none (option_map name (fault_of problem earlier lemma.lits lemma.hints)) (log_fault problem (earlier ++ lemma.lits ∷ []) lemmas) f in
    let here = fault_of-holds problem earlier lemma.lits lemma.hints set (map_none name (fault_of problem earlier lemma.lits lemma.hints) parts.0) m a in
    (here, log_fault-hold problem (earlier ++ lemma.lits ∷ []) lemmas set parts.1 m (AllHold-push set earlier lemma.lits a here))
