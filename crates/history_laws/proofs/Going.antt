-- What a plan's next move says of the plan, as an edge of it.
use Rattle.std.proofs.Common.{◌≡◌, Bool, true, false, cond, List, [], ◌∷◌, ℕ, zero, suc, ◌+◌, refl, sym, ap, inl, inr, subst, ◌||◌}
use Rattle.std.specs.List.{list_any}
use Rattle.cluster_objects.specs.declared.plans.Step.{Step}
use Rattle.cluster_objects.specs.declared.plans.StepState.{StepState}
use Rattle.cluster_objects.specs.declared.plans.StepState.TheVariants.{Unknown, Aimed, Created, Present, Overtaken}
use Rattle.cluster_objects.specs.declared.plans.PlanPhase.{PlanPhase}
use Rattle.cluster_objects.specs.declared.plans.PlanPhase.TheVariants as phase
use Rattle.cluster_objects.specs.declared.plans.PlanStatus.{PlanStatus}
use Rattle.cluster_history.specs.declared.slots.Slot.{Slot}
use Rattle.lawful_history.specs.Installing.{Rest, Begin, Finish, Fail, Aim, Land, next_step, next_move, is_overtaken, with_phase, with_step, aim, has_body, is_kept}
use Rattle.lawful_history.proofs.Moves.{MoveStep, IsStep}
use Rattle.history_laws.specs.Edges.{StateEdge, is_done, IsDone, HasOvertaken, Begins, BeginsApproved, Completes, Fails, PlanEdge, MovesPhase, MovesStep}

-- steps of which the first is done, and the others are
done_first : (s : Step) (steps : List Step) → is_done s.state ≡ true → IsDone steps → IsDone (s ∷ steps)
done_first s steps first rest zero t at = let e : s ≡ t = cc in subst (λ (x : Step). is_done x.state ≡ true) e first
done_first s steps first rest (suc i) t at = rest i t at

over_later : (s : Step) (steps : List Step) → HasOvertaken steps → HasOvertaken (s ∷ steps)
over_later s steps found = (suc found.0, found.1, found.2, found.3)

-- where no step is next, each is done
finish_done : (k : ℕ) (steps : List Step) → next_step k steps ≡ Finish → IsDone steps
finish_done k [] is = λ i t at. absurd (cc)
finish_done k (s ∷ steps) is = by_state s.state refl (finish_done (k + 1) steps) is
  where
    by_state : (st : StepState) → s.state ≡ st → (next_step (k + 1) steps ≡ Finish → IsDone steps)
        → elim st [ Unknown ↦ Aim k s | Aimed v ↦ Land k s v | Created ↦ next_step (k + 1) steps | Present ↦ next_step (k + 1) steps | Overtaken ↦ Fail ] ≡ Finish → IsDone (s ∷ steps)
    by_state Unknown e rest is = absurd (cc)
    by_state (Aimed v) e rest is = absurd (cc)
    by_state Created e rest is = done_first s steps (ap is_done e) (rest is)
    by_state Present e rest is = done_first s steps (ap is_done e) (rest is)
    by_state Overtaken e rest is = absurd (cc)

fail_over : (k : ℕ) (steps : List Step) → next_step k steps ≡ Fail → HasOvertaken steps
fail_over k [] is = absurd (cc)
fail_over k (s ∷ steps) is = by_state s.state refl (fail_over (k + 1) steps) is
  where
    by_state : (st : StepState) → s.state ≡ st → (next_step (k + 1) steps ≡ Fail → HasOvertaken steps)
        → elim st [ Unknown ↦ Aim k s | Aimed v ↦ Land k s v | Created ↦ next_step (k + 1) steps | Present ↦ next_step (k + 1) steps | Overtaken ↦ Fail ] ≡ Fail → HasOvertaken (s ∷ steps)
    by_state Unknown e rest is = absurd (cc)
    by_state (Aimed v) e rest is = absurd (cc)
    by_state Created e rest is = over_later s steps (rest is)
    by_state Present e rest is = over_later s steps (rest is)
    by_state Overtaken e rest is = (0, s, refl, e)

over_is : (s : Step) → is_overtaken s ≡ true → s.state ≡ Overtaken
over_is s is = by_state s.state refl is
  where
    by_state : (st : StepState) → s.state ≡ st → elim st [ Overtaken ↦ true | _ ↦ false ] ≡ true → s.state ≡ Overtaken
    by_state Unknown e is = absurd (cc)
    by_state (Aimed v) e is = absurd (cc)
    by_state Created e is = absurd (cc)
    by_state Present e is = absurd (cc)
    by_state Overtaken e is = e

any_over : (steps : List Step) → list_any is_overtaken steps ≡ true → HasOvertaken steps
any_over [] is = absurd (cc)
any_over (s ∷ steps) is = by_test (is_overtaken s) refl (any_over steps) is
  where
    by_test : (b : Bool) → is_overtaken s ≡ b → (list_any is_overtaken steps ≡ true → HasOvertaken steps) → (b || list_any is_overtaken steps) ≡ true → HasOvertaken (s ∷ steps)
    by_test true e rest is = (0, s, refl, over_is s e)
    by_test false e rest is = over_later s steps (rest is)

pub finishes : (plan : PlanStatus) → next_move plan ≡ Finish → IsDone plan.steps
finishes plan is = by_phase plan.phase is
  where
    installing : (b : Bool) → cond b Fail (next_step 0 plan.steps) ≡ Finish → IsDone plan.steps
    installing true is = absurd (cc)
    installing false is = finish_done 0 plan.steps is

    waiting : (b : Bool) → cond b Begin Rest ≡ Finish → IsDone plan.steps
    waiting true is = absurd (cc)
    waiting false is = absurd (cc)

    by_phase : (p : PlanPhase) → elim p [
      | phase.Planning ↦ Begin
      | phase.RequiresApproval ↦ cond plan.approved Begin Rest
      | phase.Installing ↦ cond (list_any is_overtaken plan.steps) Fail (next_step 0 plan.steps)
      | _ ↦ Rest
    ] ≡ Finish → IsDone plan.steps
    by_phase phase.Nothing is = absurd (cc)
    by_phase phase.Planning is = absurd (cc)
    by_phase phase.RequiresApproval is = waiting plan.approved is
    by_phase phase.Installing is = installing (list_any is_overtaken plan.steps) is
    by_phase phase.Complete is = absurd (cc)
    by_phase phase.Failed is = absurd (cc)

pub fails : (plan : PlanStatus) → next_move plan ≡ Fail → HasOvertaken plan.steps
fails plan is = by_phase plan.phase is
  where
    installing : (b : Bool) → list_any is_overtaken plan.steps ≡ b → cond b Fail (next_step 0 plan.steps) ≡ Fail → HasOvertaken plan.steps
    installing true e is = any_over plan.steps e
    installing false e is = fail_over 0 plan.steps is

    waiting : (b : Bool) → cond b Begin Rest ≡ Fail → HasOvertaken plan.steps
    waiting true is = absurd (cc)
    waiting false is = absurd (cc)

    by_phase : (p : PlanPhase) → elim p [
      | phase.Planning ↦ Begin
      | phase.RequiresApproval ↦ cond plan.approved Begin Rest
      | phase.Installing ↦ cond (list_any is_overtaken plan.steps) Fail (next_step 0 plan.steps)
      | _ ↦ Rest
    ] ≡ Fail → HasOvertaken plan.steps
    by_phase phase.Nothing is = absurd (cc)
    by_phase phase.Planning is = absurd (cc)
    by_phase phase.RequiresApproval is = waiting plan.approved is
    by_phase phase.Installing is = installing (list_any is_overtaken plan.steps) refl is
    by_phase phase.Complete is = absurd (cc)
    by_phase phase.Failed is = absurd (cc)

pub begins : (plan : PlanStatus) → MoveStep plan Begin → PlanEdge plan (with_phase plan phase.Installing)
begins plan (inl e) = MovesPhase phase.Installing (Begins e refl) refl
begins plan (inr e) = MovesPhase phase.Installing (BeginsApproved e.0 e.1 refl) refl

pub completes : (plan : PlanStatus) → next_move plan ≡ Finish → plan.phase ≡ phase.Installing → PlanEdge plan (with_phase plan phase.Complete)
completes plan is e = MovesPhase phase.Complete (Completes e (finishes plan is) refl) refl

pub gives_up : (plan : PlanStatus) → next_move plan ≡ Fail → plan.phase ≡ phase.Installing → PlanEdge plan (with_phase plan phase.Failed)
gives_up plan is e = MovesPhase phase.Failed (Fails e (fails plan is) refl) refl

pub aims : (plan : PlanStatus) (i : ℕ) (s : Step) (there : Slot) → IsStep plan i s Unknown → PlanEdge plan (with_step plan i s (aim there s))
aims plan i s there is = MovesStep i s (aim there s) is.installing is.at (subst (λ (x : StepState). StateEdge x (aim there s)) (sym is.state) (by_test (has_body there.object s.body || is_kept s.key there.object))) refl
  where
    by_test : (b : Bool) → StateEdge Unknown (cond b Present (Aimed there.version))
    by_test true = inr (inl refl)
    by_test false = inr (inr (there.version, refl))

pub lands : (plan : PlanStatus) (i : ℕ) (s : Step) (v : ℕ) → IsStep plan i s (Aimed v) → PlanEdge plan (with_step plan i s Created)
lands plan i s v is = MovesStep i s Created is.installing is.at (subst (λ (x : StepState). StateEdge x Created) (sym is.state) (inr (inl refl))) refl

pub loses : (plan : PlanStatus) (i : ℕ) (s : Step) (v : ℕ) → IsStep plan i s (Aimed v) → PlanEdge plan (with_step plan i s Overtaken)
loses plan i s v is = MovesStep i s Overtaken is.installing is.at (subst (λ (x : StepState). StateEdge x Overtaken) (sym is.state) (inr (inr refl))) refl
