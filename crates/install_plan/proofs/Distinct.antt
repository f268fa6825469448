-- Steps among which no two with one key are found have distinct keys.
use Rattle.std.proofs.Common.{◌≡◌, ◌<◌, ◌≤◌, ◌+◌, ℕ, zero, suc, Bool, true, false, not, List, [], ◌∷◌, length, Option, Some, None, nat_lt, if◌then◌else◌, slice_get, cond, refl, sym, ap, ◌∙◌, subst, arith}
use Rattle.std.specs.List.{position, position_or_len, prefix_len}
use Rattle.std.specs.Option.{unwrap_or}
use Rattle.std.proofs.lemmas.Bool.{lt-ltb, ltb-false}
use Rattle.cluster_objects.specs.Keys.{same_key}
use Rattle.cluster_objects.specs.declared.keys.Key.{Key}
use Rattle.cluster_objects.specs.declared.plans.PlanFault.{PlanFault}
use Rattle.cluster_objects.specs.declared.plans.PlanFault.TheVariants.{SameKey}
use Rattle.cluster_objects.specs.declared.plans.Step.{Step}
use Rattle.cluster_objects.proofs.Ordering.{same_key-refl}
use Rattle.install_plan.specs.Plans.{first_with, repeated, same_key_fault}
use Rattle.install_plan.proofs.Members.{none_is_some}

-- the first place at which a test passes is no later than one at which it does
first_place : {A : Type 0} (p : A → Bool) (xs : List A) (i : ℕ) (x : A) → slice_get xs i ≡ Some x → p x ≡ true
    → (position_or_len p xs ≤ i) × (i < length xs)
first_place p [] i x e h = absurd (none_is_some x e)
first_place p (y ∷ ys) zero x e h =
    let same : y ≡ x = cc e in
    let passes : p y ≡ true = ap p same ∙ h in
    let here : position_or_len p (y ∷ ys) ≡ 0 = ap (λ b. cond (not b) (1 + prefix_len (λ x. not (p x)) ys) 0) passes in
    (omega (arith, here), omega arith)
first_place p (y ∷ ys) (suc i) x e h =
    let later = first_place p ys i x e h in
    let step : position_or_len p (y ∷ ys) ≤ 1 + position_or_len p ys = within (not (p y)) (prefix_len (λ x. not (p x)) ys) in
    (omega (arith, step, later.0), omega (arith, later.1))
  where
    within : (b : Bool) (n : ℕ) → cond b (1 + n) 0 ≤ 1 + n
    within true n = omega arith
    within false n = omega arith

first_found : (steps : List Step) (key : Key) (default i : ℕ) (s : Step) → slice_get steps i ≡ Some s → same_key s.key key ≡ true
    → unwrap_or (first_with steps key) default ≤ i
first_found steps key default i s e h =
    let place = first_place (λ step. same_key step.key key) steps i s e h in
    let n = position_or_len (λ step. same_key step.key key) steps in
    let inside : n < length steps = omega (arith, place.0, place.1) in
    subst (λ b. unwrap_or (cond b (Some n) None) default ≤ i) (sym (lt-ltb n (length steps) inside)) place.0

abbrev Later : List Step → ℕ → Step → ℕ → Type 0
Later all place s k = nat_lt (unwrap_or (first_with all s.key) (place + k)) (place + k) ≡ false

none_from : (all : List Step) (place : ℕ) (t : Step) (steps : List Step) (s : Step)
    → (repeated all (place + 1) steps ≡ None → (k : ℕ) → slice_get steps k ≡ Some s → Later all (place + 1) s k)
    → (b : Bool) → nat_lt (unwrap_or (first_with all t.key) place) place ≡ b
    → (if b then Some (SameKey (unwrap_or (first_with all t.key) place) place) else repeated all (place + 1) steps) ≡ None
    → (k : ℕ) → slice_get (t ∷ steps) k ≡ Some s → Later all place s k
none_from all place t steps s later true is none k e = absurd (none_is_some (SameKey (unwrap_or (first_with all t.key) place) place) (sym none))
none_from all place t steps s later false is none zero e =
    let same : t ≡ s = cc e in
    let zero_is : place ≡ place + 0 = omega arith in
    subst (λ (s : Step). Later all place s 0) same (subst (λ n. nat_lt (unwrap_or (first_with all t.key) n) n ≡ false) zero_is is)
none_from all place t steps s later false is none (suc k) e =
    let shift : place + 1 + k ≡ place + suc k = omega arith in
    subst (λ n. nat_lt (unwrap_or (first_with all s.key) n) n ≡ false) shift (later none k e)

-- none of the steps from the place on has a key that stands before it
none_before : (all : List Step) (place : ℕ) (steps : List Step) → repeated all place steps ≡ None → (k : ℕ) (s : Step) → slice_get steps k ≡ Some s
    → Later all place s k
none_before all place [] none k s e = absurd (none_is_some s e)
none_before all place (t ∷ steps) none k s e =
    none_from all place t steps s (λ none k e. none_before all (place + 1) steps none k s e) (nat_lt (unwrap_or (first_with all t.key) place) place) refl none k e

earlier : (steps : List Step) → same_key_fault steps ≡ None → (i j : ℕ) (s t : Step) → slice_get steps i ≡ Some s → slice_get steps j ≡ Some t
    → s.key ≡ t.key → j ≤ i
earlier steps none i j s t es et same =
    let before = none_before steps 0 steps none j t et in
    let found = first_found steps t.key (0 + j) i s es (subst (λ (key : Key). same_key key t.key ≡ true) (sym same) (same_key-refl t.key)) in
    let least = ltb-false (unwrap_or (first_with steps t.key) (0 + j)) (0 + j) before in
    omega (arith, found, least)

pub distinct : (steps : List Step) → same_key_fault steps ≡ None → (i j : ℕ) (s t : Step) → slice_get steps i ≡ Some s → slice_get steps j ≡ Some t
    → s.key ≡ t.key → i ≡ j
distinct steps none i j s t es et same =
    let one = earlier steps none i j s t es et same in
    let other = earlier steps none j i t s et es (sym same) in
    omega (arith, one, other)
