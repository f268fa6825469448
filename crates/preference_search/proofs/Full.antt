-- What a full walk chose meets the problem, where no given clause denies it.
use Rattle.std.proofs.Common.{◌≡◌, ℕ, Bool, true, false, not, cond, List, [], ◌∷◌, map, refl, ap, ◌∙◌, subst, arith, inl, inr, Some, None}
use Rattle.std.specs.List.{AllByRecursion}
use Rattle.std.proofs.lemmas.Bool.{cases_Bool, or_left, or_right, and_from, both_ways, not_from_false, false_from_ne_true}
use Rattle.op_constraints.specs.declared.Lit.{Lit}
use Rattle.op_constraints.specs.declared.Constraint.{Constraint}
use Rattle.op_constraints.specs.declared.Constraint.TheVariants.{Mandatory, Prohibited, Dependency, Conflict, AtMost}
use Rattle.op_constraints.specs.Meets.{constraints_of, constraint_at, Meets}
use Rattle.op_constraints.specs.Walks.{is_among, mandatory, agenda, waiting, walk}
use Rattle.op_constraints.specs.Kept.{HasDistinctMembers}
use Rattle.op_constraints.proofs.Full.{has_agenda, all_passed, any_mandatory, among_mandatory}
use Rattle.op_constraints.proofs.WalkLaws.{chosen_stays}
use Rattle.derivations.specs.Clauses.{positive, negative, clause_holds, is_too_many, given_clause}
use Rattle.derivations.specs.Laws.{GivenHold}
use Rattle.derivations.proofs.Sound.{positive-any}
use Rattle.derivations.proofs.Converse.{clauses_are_problem}
use Rattle.preference_search.specs.Denials.{is_denied, IsAllowed, AllowsSet}

-- one that doesn't deny the set holds of it
negatives-hold : (set : ℕ → Bool) (vs : List ℕ) → is_denied set (map negative vs) ≡ false → clause_holds set (map negative vs) ≡ true
negatives-hold set [] d = absurd (both_ways true d refl)
negatives-hold set (v ∷ vs) d =
    elim (cases_Bool (set v)) [
      | inl here ↦ or_right (not (set v)) (clause_holds set (map negative vs))
          (negatives-hold set vs (false_from_ne_true (is_denied set (map negative vs)) (λ e. both_ways (is_denied set (map negative (v ∷ vs))) d (and_from (set v) (is_denied set (map negative vs)) here e))))
      | inr out ↦ or_left (not (set v)) (clause_holds set (map negative vs)) (not_from_false (set v) out)
    ]

named-clause : (b : Bool) (xs ys : List Lit) → cond b (Some xs) None ≡ Some ys → xs ≡ ys
named-clause true xs ys e = cc
named-clause false xs ys e = absurd (let bad : None ≡ Some ys = e in cc)

-- each given clause holds
clause-holds : (problem : List (List Constraint)) (chosen : List ℕ) → ((v : ℕ) → is_among (mandatory problem) v ≡ true → is_among chosen v ≡ true) → waiting problem chosen ≡ [] → (v place : ℕ) (c : Constraint) (named : List ℕ) (clause : List Lit) → constraint_at problem v place ≡ Some c → given_clause v c named ≡ Some clause → IsAllowed (is_among chosen) v c → clause_holds (is_among chosen) clause ≡ true
clause-holds problem chosen m full v place Mandatory [] clause at given a =
    let is : (positive v ∷ []) ≡ clause = cc in
    let here = m v (among_mandatory 0 problem v v (omega arith) (any_mandatory (constraints_of problem v) place at)) in
    subst (λ (ls : List Lit). clause_holds (is_among chosen) ls ≡ true) is (or_left (is_among chosen v) false here)
clause-holds problem chosen m full v place Prohibited [] clause at given a =
    let is : map negative (v ∷ []) ≡ clause = cc in
    subst (λ (ls : List Lit). clause_holds (is_among chosen) ls ≡ true) is (negatives-hold (is_among chosen) (v ∷ []) (ap (is_denied (is_among chosen)) is ∙ a [] clause given))
clause-holds problem chosen m full v place (Conflict o) [] clause at given a =
    let is : map negative (v ∷ o ∷ []) ≡ clause = cc in
    subst (λ (ls : List Lit). clause_holds (is_among chosen) ls ≡ true) is (negatives-hold (is_among chosen) (v ∷ o ∷ []) (ap (is_denied (is_among chosen)) is ∙ a [] clause given))
clause-holds problem chosen m full v place (Dependency ms) [] clause at given a =
    let is : (negative v ∷ map positive ms) ≡ clause = cc in
    let set : ℕ → Bool = is_among chosen in
    subst (λ (ls : List Lit). clause_holds set ls ≡ true) is
    (elim (cases_Bool (set v)) [
      | inl here ↦ or_right (not (set v)) (clause_holds set (map positive ms)) (positive-any set ms ∙ all_passed set (agenda problem chosen) ms full (has_agenda problem chosen v place ms here at))
      | inr out ↦ or_left (not (set v)) (clause_holds set (map positive ms)) (not_from_false (set v) out)
    ])
clause-holds problem chosen m full v place (AtMost most ms) named clause at given a =
    let is : map negative named ≡ clause = named-clause (is_too_many most ms named) (map negative named) clause given in
    subst (λ (ls : List Lit). clause_holds (is_among chosen) ls ≡ true) is (negatives-hold (is_among chosen) named (ap (is_denied (is_among chosen)) is ∙ a named clause given))
clause-holds problem chosen m full v place Mandatory (x ∷ xs) clause at given a = absurd (let bad : None ≡ Some clause = given in cc)
clause-holds problem chosen m full v place Prohibited (x ∷ xs) clause at given a = absurd (let bad : None ≡ Some clause = given in cc)
clause-holds problem chosen m full v place (Conflict o) (x ∷ xs) clause at given a = absurd (let bad : None ≡ Some clause = given in cc)
clause-holds problem chosen m full v place (Dependency ms) (x ∷ xs) clause at given a = absurd (let bad : None ≡ Some clause = given in cc)

pub allowed-meets : (problem : List (List Constraint)) (numbers chosen : List ℕ) → AllByRecursion (λ cs. AllByRecursion HasDistinctMembers cs) problem → walk problem numbers ≡ Some chosen → waiting problem chosen ≡ [] → AllowsSet problem (is_among chosen) → Meets problem (is_among chosen)
allowed-meets problem numbers chosen distinct w full allowed =
    let holds : GivenHold problem (is_among chosen) = λ v place c named clause at given.
    clause-holds problem chosen (λ u h. chosen_stays problem (mandatory problem) numbers chosen u w h) full v place c named clause at given (allowed v place c at) in
    (clauses_are_problem problem (is_among chosen) distinct).1 holds
