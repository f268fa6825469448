-- What a problem keeps of a constraint.
use Rattle.std.proofs.Common.{◌≡◌, ℕ, ◌+◌, ◌<◌, ◌≤◌, Bool, true, false, not, cond, ◌||◌, List, [], ◌∷◌, ◌++◌, refl, sym, ap, ◌∙◌, arith, inl, inr, length, map, take, get_or, eqb}
use Rattle.std.proofs.Math.Bool.{or-false}
use Rattle.std.specs.List.{filter, AllByRecursion}
use Rattle.std.proofs.lemmas.Bool.{cases_Bool, cases_eq, or_cases, or_left, or_right, or_from, or_parts, and_from, and_parts, eqb-true, eq-eqb, ne_eqb, not-true, not-false, not_from_false, not_from_true, both_ways, cond-true, cond-false}
use Rattle.std.proofs.lemmas.List.Elements.{filter-append}
use Rattle.std.proofs.lemmas.List.{append-nil, length-append, length-map, take_more}
use Rattle.std.proofs.lemmas.List.Folds.{list_any_more}
use Rattle.op_constraints.specs.declared.Constraint.{Constraint}
use Rattle.op_constraints.specs.declared.Constraint.TheVariants.{Mandatory, Prohibited, Dependency, Conflict, AtMost}
use Rattle.op_constraints.specs.Walks.{is_among}
use Rattle.op_constraints.specs.Kept.{is_distinct, each_once, kept, HasFewMembers, HasDistinctMembers, HasFewConstraints, IsKept}
use Rattle.op_constraints.specs.declared.TheConstants.{VAR_LIMIT}

-- v is not x and is among the others, so it stays where x is taken out
among-filter : (x v : ℕ) (vs : List ℕ) → (x ≡ v → ⊥) → is_among (filter (λ w. not (eqb w x)) vs) v ≡ is_among vs v
among-filter x v [] ne = refl
among-filter x v (w ∷ vs) ne =
    let rest = among-filter x v vs ne in
    elim (cases_eq w x) [
      | inl same ↦
          (let yes' : eqb w x ≡ true = eq-eqb w x same in
          let out : eqb w v ≡ false = ne_eqb w v (λ e. ne (sym same ∙ e)) in
          rw yes' (rw out rest))
      | inr other ↦
          (let no' : eqb w x ≡ false = ne_eqb w x other in
          rw no' (ap (λ b. eqb w v || b) rest))
    ]

-- where x is taken out, it is gone
gone-filter : (x : ℕ) (vs : List ℕ) → is_among (filter (λ w. not (eqb w x)) vs) x ≡ false
gone-filter x [] = refl
gone-filter x (w ∷ vs) =
    elim (cases_Bool (eqb w x)) [
      | inl same ↦ rw same (gone-filter x vs)
      | inr other ↦ rw other (or_from (eqb w x) (is_among (filter (λ w. not (eqb w x)) vs) x) other (gone-filter x vs))
    ]

distinct-filter : (x : ℕ) (vs : List ℕ) → is_distinct vs ≡ true → is_distinct (filter (λ w. not (eqb w x)) vs) ≡ true
distinct-filter x [] d = refl
distinct-filter x (w ∷ vs) d =
    let (apart, later) = and_parts (not (is_among vs w)) (is_distinct vs) d in
    let rest = distinct-filter x vs later in
    elim (cases_eq w x) [
      | inl same ↦ (let yes' : eqb w x ≡ true = eq-eqb w x same in rw yes' rest)
      | inr other ↦
          (let no' : eqb w x ≡ false = ne_eqb w x other in
          rw no' (and_from (not (is_among (filter (λ w. not (eqb w x)) vs) w)) (is_distinct (filter (λ w. not (eqb w x)) vs))
          (not_from_false (is_among (filter (λ w. not (eqb w x)) vs) w) (among-filter x w vs (λ e. other (sym e)) ∙ not-true (is_among vs w) apart)) rest))
    ]

pub each_once-distinct : (vs : List ℕ) → is_distinct (each_once vs) ≡ true
each_once-distinct [] = refl
each_once-distinct (v ∷ vs) =
    and_from (not (is_among (filter (λ w. not (eqb w v)) (each_once vs)) v)) (is_distinct (filter (λ w. not (eqb w v)) (each_once vs)))
    (not_from_false (is_among (filter (λ w. not (eqb w v)) (each_once vs)) v) (gone-filter v (each_once vs)))
    (distinct-filter v (each_once vs) (each_once-distinct vs))

-- each number is kept, and no other
pub each_once-among : (vs : List ℕ) (v : ℕ) → is_among (each_once vs) v ≡ is_among vs v
each_once-among [] v = refl
each_once-among (w ∷ vs) v =
    elim (cases_eq w v) [
      | inl same ↦
          (let here : eqb w v ≡ true = eq-eqb w v same in
          or_left (eqb w v) (is_among (filter (λ x. not (eqb x w)) (each_once vs)) v) here ∙ sym (or_left (eqb w v) (is_among vs v) here))
      | inr other ↦ ap (λ b. eqb w v || b) (among-filter w v (each_once vs) other ∙ each_once-among vs v)
    ]

length-filter-le : (x : ℕ) (vs : List ℕ) → length (filter (λ w. not (eqb w x)) vs) ≤ length vs
length-filter-le x [] = omega arith
length-filter-le x (w ∷ vs) =
    let rest = length-filter-le x vs in
    elim (cases_Bool (eqb w x)) [
      | inl same ↦ rw same (omega (arith, rest))
      | inr other ↦ rw other (omega (arith, rest))
    ]

pub length-each_once : (vs : List ℕ) → length (each_once vs) ≤ length vs
length-each_once [] = omega arith
length-each_once (v ∷ vs) =
    let rest = length-each_once vs in
    let less = length-filter-le v (each_once vs) in
    omega (arith, rest, less)

-- one more number: kept last where it wasn't there
pub each_once-new : (vs : List ℕ) (v : ℕ) → is_among vs v ≡ false → each_once (vs ++ v ∷ []) ≡ each_once vs ++ v ∷ []
each_once-new [] v e = refl
each_once-new (w ∷ vs) v e =
    let (apart, never) = or_parts (eqb w v) (is_among vs v) e in
    let stays : not (eqb v w) ≡ true = not_from_false (eqb v w) (ne_eqb v w (λ s. both_ways (eqb w v) apart (eq-eqb w v (sym s)))) in
    ap (λ xs. w ∷ filter (λ x. not (eqb x w)) xs) (each_once-new vs v never)
    ∙ ap (λ xs. w ∷ xs) (filter-append (λ x. not (eqb x w)) (each_once vs) (v ∷ [])
    ∙ ap (λ xs. filter (λ x. not (eqb x w)) (each_once vs) ++ xs) (cond-true (not (eqb v w)) (v ∷ []) [] stays))

-- and not again where it was
pub each_once-seen : (vs : List ℕ) (v : ℕ) → is_among vs v ≡ true → each_once (vs ++ v ∷ []) ≡ each_once vs
each_once-seen [] v e = absurd (let bad : false ≡ true = e in cc)
each_once-seen (w ∷ vs) v e =
    elim (cases_Bool (is_among vs v)) [
      | inl later ↦ ap (λ xs. w ∷ filter (λ x. not (eqb x w)) xs) (each_once-seen vs v later)
      | inr never ↦
          elim (or_cases (eqb w v) (is_among vs v) e) [
            | inl same ↦
                (let gone : not (eqb v w) ≡ false = not_from_true (eqb v w) (eq-eqb v w (sym (eqb-true w v same))) in
                ap (λ xs. w ∷ filter (λ x. not (eqb x w)) xs) (each_once-new vs v never)
                ∙ ap (λ xs. w ∷ xs) (filter-append (λ x. not (eqb x w)) (each_once vs) (v ∷ [])
                ∙ (ap (λ xs. filter (λ x. not (eqb x w)) (each_once vs) ++ xs) (cond-false (not (eqb v w)) (v ∷ []) [] gone)
                ∙ append-nil (filter (λ x. not (eqb x w)) (each_once vs)))))
            | inr later ↦ absurd (both_ways (is_among vs v) never later)
          ]
    ]

-- a kept constraint has as few members, and distinct ones
pub kept-few : (c : Constraint) → HasFewMembers c → HasFewMembers (kept c)
kept-few Mandatory h = h
kept-few Prohibited h = h
kept-few (Dependency ms) h = h
kept-few (Conflict o) h = h
kept-few (AtMost n ms) h = let less = length-each_once ms in omega (arith, h, less)

pub kept-distinct : (c : Constraint) → HasDistinctMembers (kept c)
kept-distinct Mandatory = tt
kept-distinct Prohibited = tt
kept-distinct (Dependency ms) = tt
kept-distinct (Conflict o) = tt
kept-distinct (AtMost n ms) = each_once-distinct ms

pub all-kept-few : (cs : List Constraint) → AllByRecursion HasFewMembers cs → AllByRecursion HasFewMembers (map kept cs)
all-kept-few [] h = tt
all-kept-few (c ∷ cs) h = (kept-few c h.0, all-kept-few cs h.1)

pub all-kept-distinct : (cs : List Constraint) → AllByRecursion HasDistinctMembers (map kept cs)
all-kept-distinct [] = tt
all-kept-distinct (c ∷ cs) = (kept-distinct c, all-kept-distinct cs)

pub all-push : {X : Type 0} (P : X → Type 0) (xs : List X) (y : X) → AllByRecursion P xs → P y → AllByRecursion P (xs ++ y ∷ [])
all-push P [] y h p = (p, tt)
all-push P (x ∷ xs) y h p = (h.0, all-push P xs y h.1 p)

-- a problem stays one with a variable more, whose constraints are kept
pub IsKept-push : (problem : List (List Constraint)) (cs : List Constraint) → IsKept problem → length problem < VAR_LIMIT → length cs ≤ VAR_LIMIT → AllByRecursion HasFewMembers cs → IsKept (problem ++ map kept cs ∷ [])
IsKept-push problem cs h room few small =
    let size : length (problem ++ map kept cs ∷ []) ≡ length problem + 1 = length-append problem (map kept cs ∷ []) in
    let same : length (map kept cs) ≡ length cs = length-map cs kept in
    record {
      few_variables = omega (arith, size, room);
      few_constraints = all-push HasFewConstraints problem (map kept cs) h.few_constraints (omega (arith, same, few));
      few_members = all-push (λ ds. AllByRecursion HasFewMembers ds) problem (map kept cs) h.few_members (all-kept-few cs small);
      distinct_members = all-push (λ ds. AllByRecursion HasDistinctMembers ds) problem (map kept cs) h.distinct_members (all-kept-distinct cs);
    }

-- one step of going over the members: those seen, and those kept
pub seen_more : (vs : List ℕ) (i v q : ℕ) (b : Bool) → i < length vs → v ≡ get_or vs i v → b ≡ is_among (take i vs) q → cond (eqb v q) true b ≡ is_among (take (i + 1) vs) q
seen_more vs i v q b h is e =
    let more : is_among (take (i + 1) vs) q ≡ (is_among (take i vs) q || eqb v q) = list_any_more (λ w. eqb w q) vs i v h ∙ ap (λ u. is_among (take i vs) q || eqb u q) (sym is) in
    elim (cases_Bool (eqb v q)) [
      | inl here ↦ cond-true (eqb v q) true b here ∙ sym (more ∙ or_right (is_among (take i vs) q) (eqb v q) here)
      | inr other ↦ cond-false (eqb v q) true b other ∙ (e ∙ sym (more ∙ (ap (λ t. is_among (take i vs) q || t) other ∙ or-false (is_among (take i vs) q))))
    ]

pub once_more-new : (vs once : List ℕ) (i v : ℕ) (b fresh : Bool) → i < length vs → v ≡ get_or vs i v → once ≡ each_once (take i vs) → b ≡ is_among (take i vs) v → fresh ≡ not b → fresh ≡ true → once ++ v ∷ [] ≡ each_once (take (i + 1) vs)
once_more-new vs once i v b fresh h is e seen added new =
    let unseen : is_among (take i vs) v ≡ false = sym seen ∙ not-true b (sym added ∙ new) in
    ap (λ xs. xs ++ v ∷ []) e ∙ (sym (each_once-new (take i vs) v unseen) ∙ ap each_once (ap (λ u. take i vs ++ u ∷ []) is ∙ sym (take_more vs i v h)))

pub once_more-seen : (vs once : List ℕ) (i v : ℕ) (b fresh : Bool) → i < length vs → v ≡ get_or vs i v → once ≡ each_once (take i vs) → b ≡ is_among (take i vs) v → fresh ≡ not b → fresh ≡ false → once ≡ each_once (take (i + 1) vs)
once_more-seen vs once i v b fresh h is e seen added old =
    let there : is_among (take i vs) v ≡ true = sym seen ∙ not-false b (sym added ∙ old) in
    e ∙ (sym (each_once-seen (take i vs) v there) ∙ ap each_once (ap (λ u. take i vs ++ u ∷ []) is ∙ sym (take_more vs i v h)))
