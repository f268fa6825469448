-- How far a plan got: a number that each write by Installer for it raises, and no write lowers.
use Rattle.std.proofs.Common.{◌≡◌, ◌≤◌, ◌+◌, ◌*◌, true, List, [], ◌∷◌, ℕ, zero, suc, Option, Some, None, refl, ap, arith, length}
use Rattle.std.specs.List.{slice_get}
use Rattle.std.specs.Prelude.{slice_set}
use Rattle.cluster_objects.specs.Stamps.{times}
use Rattle.cluster_history.specs.History.{History, slot}
use Rattle.lawful_history.specs.Installing.{step_stamp, with_phase, with_step}
use Rattle.cluster_objects.specs.declared.keys.Key.{Key}
use Rattle.cluster_objects.specs.declared.plans.Step.{Step}
use Rattle.cluster_objects.specs.declared.plans.StepState.{StepState}
use Rattle.cluster_objects.specs.declared.plans.StepState.TheVariants.{Unknown, Aimed, Created, Present, Overtaken}
use Rattle.cluster_objects.specs.declared.plans.PlanPhase.{PlanPhase}
use Rattle.cluster_objects.specs.declared.plans.PlanPhase.TheVariants as phase
use Rattle.cluster_objects.specs.declared.plans.PlanStatus.{PlanStatus}

-- a sum over a list, by place and item
pub weigh : (ℕ → Step → ℕ) → ℕ → List Step → ℕ
weigh f k [] = 0
weigh f k (s ∷ ss) = f k s + weigh f (k + 1) ss

shift : (k j : ℕ) → k + 1 + j ≡ k + suc j
shift k j = omega arith

module _ (f : ℕ → Step → ℕ) where
  -- one item changes
  pub weigh-set : (ss : List Step) (k j : ℕ) (s t : Step) → slice_get ss j ≡ Some s → weigh f k (slice_set ss j t) + f (k + j) s ≡ weigh f k ss + f (k + j) t
  unfolding weigh
  weigh-set [] k j s t at = absurd (cc)
  weigh-set (x ∷ ss) k zero s t at =
      let e : x ≡ s = cc in
      let z : k + 0 ≡ k = omega arith in
      omega (arith, ap (λ n. f n s) z, ap (λ n. f n t) z, ap (f k) e)
  weigh-set (x ∷ ss) k (suc j) s t at =
      let ih = weigh-set ss (k + 1) j s t at in
      omega (arith, ih, ap (λ n. f n s) (shift k j), ap (λ n. f n t) (shift k j))

  pub weigh-bound : (n : ℕ) (ss : List Step) (k : ℕ) → ((j : ℕ) (s : Step) → slice_get ss j ≡ Some s → f (k + j) s ≤ 3) → weigh f k ss ≤ 3 * length ss
  unfolding weigh
  weigh-bound n [] k each = omega arith
  weigh-bound n (x ∷ ss) k each =
      let first = each zero x refl in
      let longer : length (x ∷ ss) ≡ suc (length ss) = refl in
      let z : k + 0 ≡ k = omega arith in
      let rest = weigh-bound n ss (k + 1) (λ j s at. let e = each (suc j) s at in omega (arith, e, ap (λ m. f m s) (shift k j))) in
      omega (arith, first, rest, ap (λ m. f m x) z, longer)

module _ (f g : ℕ → Step → ℕ) where
  -- no item weighs less
  pub weigh-mono : (ss : List Step) (k : ℕ) → ((j : ℕ) (s : Step) → slice_get ss j ≡ Some s → f (k + j) s ≤ g (k + j) s) → weigh f k ss ≤ weigh g k ss
  unfolding weigh
  weigh-mono [] k each = omega arith
  weigh-mono (x ∷ ss) k each =
      let z : k + 0 ≡ k = omega arith in
      omega (
        arith,
        each zero x refl,
        ap (λ m. f m x) z,
        ap (λ m. g m x) z,
        weigh-mono ss (k + 1) (λ j s at. omega (arith, each (suc j) s at, ap (λ m. f m s) (shift k j), ap (λ m. g m s) (shift k j))),
      )

  -- and one weighs more
  pub weigh-more : (ss : List Step) (k i : ℕ) (t : Step) → slice_get ss i ≡ Some t → f (k + i) t + 1 ≤ g (k + i) t → ((j : ℕ) (s : Step) → slice_get ss j ≡ Some s → f (k + j) s ≤ g (k + j) s) → weigh f k ss + 1 ≤ weigh g k ss
  unfolding weigh
  weigh-more [] k i t at more each = absurd (cc)
  weigh-more (x ∷ ss) k zero t at more each =
      let e : x ≡ t = cc in
      let z : k + 0 ≡ k = omega arith in
      omega (
        arith,
        more,
        ap (λ m. f m t) z,
        ap (λ m. g m t) z,
        ap (f k) e,
        ap (g k) e,
        weigh-mono ss (k + 1) (λ j s at. omega (arith, each (suc j) s at, ap (λ m. f m s) (shift k j), ap (λ m. g m s) (shift k j))),
      )
  weigh-more (x ∷ ss) k (suc i) t at more each =
      let z : k + 0 ≡ k = omega arith in
      omega (
        arith,
        each zero x refl,
        ap (λ m. f m x) z,
        ap (λ m. g m x) z,
        weigh-more ss (k + 1) i t at (omega (arith, more, ap (λ m. f m t) (shift k i), ap (λ m. g m t) (shift k i)))
            (λ j s at. omega (arith, each (suc j) s at, ap (λ m. f m s) (shift k j), ap (λ m. g m s) (shift k j))),
      )

-- how many writes a step took
pub state_effort : StepState → ℕ → ℕ
state_effort Unknown n = 0
state_effort (Aimed v) n = 1 + n
state_effort Created n = 3
state_effort Present n = 1
state_effort Overtaken n = 2

pub unknown-effort : (n : ℕ) → state_effort Unknown n ≡ 0
unfolding state_effort
unknown-effort n = refl

pub present-effort : (n : ℕ) → state_effort Present n ≡ 1
unfolding state_effort
present-effort n = refl

pub aimed-effort : (v n : ℕ) → state_effort (Aimed v) n ≡ 1 + n
unfolding state_effort
aimed-effort v n = refl

pub created-effort : (n : ℕ) → state_effort Created n ≡ 3
unfolding state_effort
created-effort n = refl

pub overtaken-effort : (n : ℕ) → state_effort Overtaken n ≡ 2
unfolding state_effort
overtaken-effort n = refl

pub state_effort-mono : (st : StepState) (m n : ℕ) → m ≤ n → state_effort st m ≤ state_effort st n
unfolding state_effort
state_effort-mono Unknown m n le = omega arith
state_effort-mono (Aimed v) m n le = omega (arith, le)
state_effort-mono Created m n le = omega arith
state_effort-mono Present m n le = omega arith
state_effort-mono Overtaken m n le = omega arith

pub state_effort-bound : (st : StepState) (n : ℕ) → n ≤ 1 → state_effort st n ≤ 3
unfolding state_effort
state_effort-bound Unknown n le = omega arith
state_effort-bound (Aimed v) n le = omega (arith, le)
state_effort-bound Created n le = omega arith
state_effort-bound Present n le = omega arith
state_effort-bound Overtaken n le = omega arith

-- how many writes brought it into its phase
pub phase_effort : PlanPhase → ℕ
phase_effort phase.Nothing = 0
phase_effort phase.Planning = 0
phase_effort phase.RequiresApproval = 0
phase_effort phase.Installing = 1
phase_effort phase.Complete = 2
phase_effort phase.Failed = 2

pub planning-effort : phase_effort phase.Planning ≡ 0
unfolding phase_effort
planning-effort = refl

pub approval-effort : phase_effort phase.RequiresApproval ≡ 0
unfolding phase_effort
approval-effort = refl

pub installing-effort : phase_effort phase.Installing ≡ 1
unfolding phase_effort
installing-effort = refl

pub complete-effort : phase_effort phase.Complete ≡ 2
unfolding phase_effort
complete-effort = refl

pub failed-effort : phase_effort phase.Failed ≡ 2
unfolding phase_effort
failed-effort = refl

pub phase_effort-bound : (p : PlanPhase) → phase_effort p ≤ 2
unfolding phase_effort
phase_effort-bound phase.Nothing = omega arith
phase_effort-bound phase.Planning = omega arith
phase_effort-bound phase.RequiresApproval = omega arith
phase_effort-bound phase.Installing = omega arith
phase_effort-bound phase.Complete = omega arith
phase_effort-bound phase.Failed = omega arith

-- a step of the plan of this key and number
abbrev pub step_effort : History → Key → PlanStatus → ℕ → Step → ℕ
step_effort h key plan i s = state_effort s.state (times (step_stamp key plan i) (slot h s.key).stamps)

pub effort : History → Key → PlanStatus → ℕ
effort h key plan = phase_effort plan.phase + weigh (step_effort h key plan) 0 plan.steps

unfoldable pub last_effort : History → Key → Option PlanStatus → ℕ
last_effort h key None = 0
last_effort h key (Some plan) = effort h key plan

pub effort-is : (h : History) (key : Key) (plan : PlanStatus) → effort h key plan ≡ phase_effort plan.phase + weigh (step_effort h key plan) 0 plan.steps
unfolding effort
effort-is h key plan = refl

pub effort-phase : (h : History) (key : Key) (plan : PlanStatus) (x : PlanPhase) → effort h key (with_phase plan x) ≡ phase_effort x + weigh (step_effort h key plan) 0 plan.steps
unfolding effort
effort-phase h key plan x = refl

pub effort-approved : (h : History) (key : Key) (plan : PlanStatus) → effort h key (record plan { approved = true }) ≡ effort h key plan
unfolding effort
effort-approved h key plan = refl

-- a step that gets a state for which one write more was made
pub effort-step : (h : History) (key : Key) (plan : PlanStatus) (i : ℕ) (s : Step) (st : StepState) → slice_get plan.steps i ≡ Some s
    → state_effort s.state (times (step_stamp key plan i) (slot h s.key).stamps) + 1 ≤ state_effort st (times (step_stamp key plan i) (slot h s.key).stamps)
    → effort h key plan + 1 ≤ effort h key (with_step plan i s st)
unfolding effort
effort-step h key plan i s st at rises =
    let t : Step = record s { state = st } in
    let z : 0 + i ≡ i = omega arith in
    omega (
      arith,
      rises,
      weigh-set (step_effort h key plan) plan.steps 0 i s t at,
      ap (λ n. step_effort h key plan n s) z,
      ap (λ n. step_effort h key plan n t) z,
    )

-- a plan with so many steps took no more
pub effort-bound : (h : History) (key : Key) (plan : PlanStatus) → ((stamp : _) (k : Key) → times stamp (slot h k).stamps ≤ 1) → effort h key plan ≤ 3 * length plan.steps + 2
effort-bound h key plan once =
    omega (
      arith,
      effort-is h key plan,
      phase_effort-bound plan.phase,
      weigh-bound (step_effort h key plan) 0 plan.steps 0 (λ j s at. state_effort-bound s.state _ (once (step_stamp key plan (0 + j)) s.key)),
    )
