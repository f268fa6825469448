-- What the installer may write in a view.
use Rattle.std.specs.Prelude.{Bool, true, false, List, [], ◌∷◌, ◌++◌, ℕ, ◌+◌, Option, Some, None, ◌&&◌, ◌||◌, ◌==◌, not, codes, nat_le, map, slice_set, if◌then◌else◌}
use Rattle.std.specs.List.{list_any}
use Rattle.std.specs.Fmt.{decimal}
use Rattle.cluster_objects.specs.Keys.{same_text}
use Rattle.cluster_objects.specs.Kinds.{operators, is_csv_key, is_subscription_key, is_plan_key, status_of}
use Rattle.cluster_objects.specs.Stamps.{times}
use Rattle.cluster_history.specs.History.{Slots, slot_in}
use Rattle.cluster_history.specs.Views.{View}
use Rattle.cluster_history.specs.declared.slots.Slot.{Slot}
use Rattle.cluster_objects.specs.declared.keys.Key.{Key}
use Rattle.cluster_objects.specs.declared.keys.Stamp.{Stamp}
use Rattle.cluster_objects.specs.declared.plans.Step.{Step}
use Rattle.cluster_objects.specs.declared.plans.StepState.{StepState}
use Rattle.cluster_objects.specs.declared.plans.StepState.TheVariants as step
use Rattle.cluster_objects.specs.declared.plans.PlanStatus.{PlanStatus}
use Rattle.cluster_objects.specs.declared.plans.PlanPhase.{PlanPhase}
use Rattle.cluster_objects.specs.declared.plans.PlanPhase.TheVariants as phase
use Rattle.cluster_objects.specs.declared.objects.Status.TheVariants as status
use Rattle.cluster_objects.specs.declared.objects.Object.{Object}
use Rattle.cluster_objects.specs.declared.objects.Write.{Write}
use Rattle.cluster_objects.specs.declared.objects.Writer.TheVariants as writer

-- the key of the InstallPlan `install-N` of a namespace
unfoldable pub install_key : List ℕ → ℕ → Key
install_key namespace number = record { group = operators; kind = codes "InstallPlan"; namespace = namespace; name = codes "install-" ++ decimal number }

-- the key of the plan that a stamp names
abbrev pub key_of : Stamp → Key
key_of stamp = install_key stamp.namespace stamp.plan

-- the stamp of a step of the plan at a key
abbrev pub step_stamp : Key → PlanStatus → ℕ → Stamp
step_stamp key plan i = record { namespace = key.namespace; plan = plan.number; step = i }

-- what comes next for a plan
pub data Move : Type 0 where
  Rest : Move
  Begin : Move
  Finish : Move
  Fail : Move
  Aim : (index : ℕ) → Step → Move
  Land : (index : ℕ) → Step → (version : ℕ) → Move

-- the first step that is neither Created nor Present, with its index from the first number on
abbrev pub next_step : ℕ → List Step → Move
next_step i [] = Finish
next_step i (s ∷ steps) = elim s.state [
  | step.Unknown ↦ Aim i s
  | step.Aimed v ↦ Land i s v
  | step.Created ↦ next_step (i + 1) steps
  | step.Present ↦ next_step (i + 1) steps
  | step.Overtaken ↦ Fail
]

abbrev pub is_overtaken : Step → Bool
is_overtaken s = elim s.state [ step.Overtaken ↦ true | _ ↦ false ]

-- A plan in Planning begins, and one in RequiresApproval once it is approved. One in Installing fails where a step was overtaken; else its first step that isn't done is next.
abbrev pub next_move : PlanStatus → Move
next_move plan = elim plan.phase [
  | phase.Planning ↦ Begin
  | phase.RequiresApproval ↦ (if plan.approved then Begin else Rest)
  | phase.Installing ↦ (if list_any is_overtaken plan.steps then Fail else next_step 0 plan.steps)
  | _ ↦ Rest
]

abbrev pub with_phase : PlanStatus → PlanPhase → PlanStatus
with_phase plan phase = record plan { phase = phase }

abbrev pub with_step : PlanStatus → ℕ → Step → StepState → PlanStatus
with_step plan i s state = record plan { steps = slice_set plan.steps i (record s { state = state }) }

-- the plan's object again, with this status
abbrev pub plan_write : View → Key → ℕ → Object → PlanStatus → Write
plan_write view key version object plan = record {
  by = writer.Installer;
  expect = version;
  key = key;
  object = Some (record object { status = status.Plan plan; stamp = None; seen = view.length });
}

abbrev pub owner_of : Option Object → Option (List ℕ)
owner_of None = None
owner_of (Some object) = object.owner

-- the step's object, with the owner of what it replaces, and the step's stamp
abbrev pub step_write : View → Key → Slot → ℕ → ℕ → Step → Write
step_write view key there number i s = record {
  by = writer.Installer;
  expect = there.version;
  key = s.key;
  object = Some (record {
    body = s.body;
    status = status_of s.made;
    owner = owner_of there.object;
    stamp = Some (record { namespace = view.namespace; plan = number; step = i });
    seen = view.length;
  });
}

-- a CSV or a Subscription that is there, by its key and its status
abbrev pub is_kept : Key → Option Object → Bool
is_kept key None = false
is_kept key (Some object) = elim object.status [ status.Csv x ↦ is_csv_key key | status.Subscription x ↦ is_subscription_key key | _ ↦ false ]

abbrev pub has_body : Option Object → List ℕ → Bool
has_body None body = false
has_body (Some object) body = same_text object.body body

-- what an Unknown step becomes: Present where its key holds the same body, or a CSV or a Subscription; else it is aimed at the key's version
abbrev pub aim : Slot → Step → StepState
aim there s = if has_body there.object s.body || is_kept s.key there.object then step.Present else step.Aimed there.version

-- The write of a plan's next move. The plan stands at the key in the object, and the key has this version. A step that is aimed is Created where its stamp stands in its key's slot; else its object is written where its key has the aimed version; else it is Overtaken.
abbrev pub move_write : View → Key → ℕ → Object → PlanStatus → Move → Option Write
move_write view key version object plan Rest = None
move_write view key version object plan Begin = Some (plan_write view key version object (with_phase plan phase.Installing))
move_write view key version object plan Finish = Some (plan_write view key version object (with_phase plan phase.Complete))
move_write view key version object plan Fail = Some (plan_write view key version object (with_phase plan phase.Failed))
move_write view key version object plan (Aim i s) =
    Some (plan_write view key version object (with_step plan i s (aim (slot_in view.slots s.key) s)))
move_write view key version object plan (Land i s v) =
    let there = slot_in view.slots s.key in
    let stamp : Stamp = record { namespace = view.namespace; plan = plan.number; step = i } in
    Some (
    if not (times stamp there.stamps == 0) then plan_write view key version object (with_step plan i s step.Created)
    else if there.version == v then step_write view s.key there plan.number i s
    else plan_write view key version object (with_step plan i s step.Overtaken)
    )

-- a write beside the number of its plan
abbrev pub Numbered : Type 0
Numbered = ℕ × Write

abbrev pub numbered : ℕ → Option Write → List Numbered
numbered number None = []
numbered number (Some w) = (number, w) ∷ []

-- the write of an entry of the view, where a plan of the namespace stands there that has one
abbrev pub entry_write : View → Key → Slot → List Numbered
entry_write view key there = elim there.object [
  | None ↦ []
  | Some object ↦ (elim object.status [
    | status.Plan plan ↦ (if is_plan_key key && same_text key.namespace view.namespace then numbered plan.number (move_write view key there.version object plan (next_move plan)) else [])
    | _ ↦ []
  ])
]

-- the writes of these entries, in their order
abbrev pub entry_writes : View → Slots → List Numbered
entry_writes view [] = []
entry_writes view (e ∷ entries) = entry_write view e.0 e.1 ++ entry_writes view entries

-- a numbered write at its place among ordered ones, before those with its number
abbrev pub placed : Numbered → List Numbered → List Numbered
placed x [] = x ∷ []
placed x (y ∷ ys) = if nat_le x.0 y.0 then x ∷ y ∷ ys else y ∷ placed x ys

abbrev pub by_number : List Numbered → List Numbered
by_number [] = []
by_number (x ∷ xs) = placed x (by_number xs)

-- one write for each plan of the namespace that has one, by the plans' numbers
abbrev pub installer_writes : View → List Write
installer_writes view = map (λ x. x.1) (by_number (entry_writes view view.slots))
