-- What the resolver may write in a view.
use Rattle.std.specs.Prelude.{◌≡◌, ◌⊎◌, ◌+◌, ◌-◌, ◌^◌, ◌==◌, ◌&&◌, not, ℕ, nat_lt, Bool, true, false, if◌then◌else◌, List, [], ◌∷◌, Option, Some, None, Result, Ok, Err}
use Rattle.std.specs.List.{list_any}
use Rattle.std.specs.Option.{option_map_or}
use Rattle.cluster_objects.specs.Kinds.{resolution_at}
use Rattle.cluster_objects.specs.Places.{resolution_key}
use Rattle.cluster_objects.specs.declared.objects.Object.{Object}
use Rattle.cluster_objects.specs.declared.objects.Status.{Status}
use Rattle.cluster_objects.specs.declared.objects.Status.TheVariants as status
use Rattle.cluster_objects.specs.declared.objects.Write.{Write}
use Rattle.cluster_objects.specs.declared.objects.Writer.TheVariants as writer
use Rattle.cluster_objects.specs.declared.plans.PlanFault.{PlanFault}
use Rattle.cluster_objects.specs.declared.plans.PlanStatus.{PlanStatus}
use Rattle.cluster_objects.specs.declared.resolutions.ResolutionStatus.{ResolutionStatus}
use Rattle.cluster_objects.specs.declared.resolutions.Taken.{Taken}
use Rattle.cluster_history.specs.History.{slot_in}
use Rattle.cluster_history.specs.Views.{View}
use Rattle.lawful_history.specs.Installing.{install_key}
use Rattle.view_basis.specs.Basis.{basis}
use Rattle.csv_phases.specs.States.{has_plan_under_way}
use Rattle.install_plan.specs.Plans.{failed_plan, plan_of, taken_by}
use Rattle.controller_rules.specs.Deciding.{IsResolutionOf}

-- ---- what is there

-- The resolution of the view's namespace, if it has one.
abbrev pub current : View → Option ResolutionStatus
current view = let key = resolution_key view.namespace in resolution_at key (slot_in view.slots key).object

-- The resolver rests while a plan of the namespace is under way.
abbrev pub is_resting : View → Bool
is_resting view = list_any (has_plan_under_way view) view.slots

-- A decision is due: there is none, or it is of another basis, or it is asked for again.
abbrev pub IsDue : View → Option ResolutionStatus → Type 0
IsDue view None = Unit {0}
IsDue view (Some found) = (found.basis ≡ basis view → ⊥) ⊎ (found.again ≡ true)

-- The resolution is of this basis, and isn't asked for again.
pub record Stands (view : View) (found : ResolutionStatus) : Type 0 where
  pub there : current view ≡ Some found
  pub basis : found.basis ≡ basis view
  pub again : found.again ≡ false

-- ---- a new resolution

-- The first number is 1. The number 2^64 - 1 has itself as its next.
abbrev pub next_number : Option ResolutionStatus → ℕ
next_number None = 1
next_number (Some found) = if nat_lt found.number (2 ^ 64 - 1) then found.number + 1 else found.number

-- The budget stays. The first one is 10,000.
abbrev pub next_budget : Option ResolutionStatus → ℕ
next_budget found = option_map_or (λ old. old.budget) found 10000

-- what follows the resolution that is there, if one is
pub record IsNext (view : View) (new : ResolutionStatus) : Type 0 where
  pub number : new.number ≡ next_number (current view)
  pub budget : new.budget ≡ next_budget (current view)
  pub again : new.again ≡ false
  pub basis : new.basis ≡ basis view
  pub decided : IsResolutionOf view new.budget new.outcome new.certificate

-- a new object, with an empty body and no owner
abbrev pub new_object : View → Status → Object
new_object view new = record { body = []; status = new; owner = None; stamp = None; seen = view.length }

-- A resolution that is there keeps its body and its owner. What stands there and is none is replaced by a new one.
abbrev pub resolution_object : View → Option ResolutionStatus → Option Object → ResolutionStatus → Object
resolution_object view None there new = new_object view (status.Resolution new)
resolution_object view (Some old) None new = new_object view (status.Resolution new)
resolution_object view (Some old) (Some object) new =
    record object { status = status.Resolution new; stamp = None; seen = view.length }

abbrev pub resolution_write : View → ResolutionStatus → Write
resolution_write view new =
    let key = resolution_key view.namespace in
    let there = slot_in view.slots key in
    record {
      by = writer.Resolver;
      expect = there.version;
      key = key;
      object = Some (resolution_object view (current view) there.object new);
    }

-- ---- a new plan

abbrev pub is_empty : List Taken → Bool
is_empty taken = elim taken [ [] ↦ true | one ∷ more ↦ false ]

-- The resolution takes something, and the key of its plan was never written.
abbrev pub has_no_plan : View → ResolutionStatus → Bool
has_no_plan view found =
    (slot_in view.slots (install_key view.namespace found.number)).version == 0 && not (is_empty (taken_by found.outcome))

-- the plan, or the failed one where there is a cause
abbrev pub plan_or_failed : ResolutionStatus → View → Result PlanStatus PlanFault → PlanStatus
plan_or_failed found view (Ok plan) = plan
plan_or_failed found view (Err fault) = failed_plan found view fault

abbrev pub plan_made : View → ResolutionStatus → PlanStatus
plan_made view found = plan_or_failed found view (plan_of found view)

abbrev pub new_plan_write : View → ResolutionStatus → Write
new_plan_write view found = record {
  by = writer.Resolver;
  expect = 0;
  key = install_key view.namespace found.number;
  object = Some (new_object view (status.Plan (plan_made view found)));
}

-- ---- the resolver's write

-- The resolver doesn't rest, and either decides, or makes the plan of the decision that stands.
pub data IsResolversWrite (view : View) (w : Write) : Type 0 where
  Decides : is_resting view ≡ false → IsDue view (current view) → (new : ResolutionStatus) → IsNext view new
      → w ≡ resolution_write view new → IsResolversWrite view w
  Plans : is_resting view ≡ false → (found : ResolutionStatus) → Stands view found → has_no_plan view found ≡ true
      → w ≡ new_plan_write view found → IsResolversWrite view w

-- The resolver has no write: it rests, or the decision that stands has no plan to be made.
pub data HasNoWrite (view : View) : Type 0 where
  Rests : is_resting view ≡ true → HasNoWrite view
  IsDone : (found : ResolutionStatus) → Stands view found → has_no_plan view found ≡ false → HasNoWrite view
