-- Which writes may follow a history, as far as its law needs it, and what is told of the plans in it.
use Rattle.std.specs.Prelude.{◌≡◌, ◌≤◌, ◌⊎◌, Bool, true, false, ℕ, List, [], Option, Some, None, ◌&&◌, ◌||◌, not, ◌==◌, length, slice_get, if◌then◌else◌}
use Rattle.std.specs.Option.{option_or}
use Rattle.cluster_objects.specs.Keys.{same_key}
use Rattle.cluster_objects.specs.Kinds.{is_catalog_key, is_subscription_key, is_csv_key, is_plan_key, is_resolution_key, as_plan, catalog_at, csv_at, subscription_at}
use Rattle.cluster_objects.specs.Stamps.{stamps_of}
use Rattle.cluster_history.specs.History.{History, Start, After, base_of, position, slot, slot_in}
use Rattle.cluster_history.specs.Views.{view}
use Rattle.lawful_history.specs.Installing.{install_key, installer_writes}
use Rattle.cluster_objects.specs.declared.keys.Key.{Key}
use Rattle.cluster_objects.specs.declared.plans.Step.{Step}
use Rattle.cluster_objects.specs.declared.plans.StepState.{StepState}
use Rattle.cluster_objects.specs.declared.plans.StepState.TheVariants.{Unknown, Aimed, Created, Present, Overtaken}
use Rattle.cluster_objects.specs.declared.plans.PlanStatus.{PlanStatus}
use Rattle.cluster_objects.specs.declared.plans.PlanPhase.{PlanPhase}
use Rattle.cluster_objects.specs.declared.plans.PlanPhase.TheVariants as phase
use Rattle.cluster_objects.specs.declared.statuses.CatalogStatus.{CatalogStatus}
use Rattle.cluster_objects.specs.declared.statuses.CsvStatus.{CsvStatus}
use Rattle.cluster_objects.specs.declared.statuses.CsvPhase.TheVariants as csv
use Rattle.cluster_objects.specs.declared.statuses.SubscriptionStatus.{SubscriptionStatus}
use Rattle.cluster_objects.specs.declared.statuses.SubState.TheVariants as sub
use Rattle.cluster_objects.specs.declared.statuses.Made.{Made}
use Rattle.cluster_objects.specs.declared.statuses.Made.TheVariants as made
use Rattle.cluster_objects.specs.declared.objects.Status.TheVariants as status
use Rattle.cluster_objects.specs.declared.objects.Object.{Object}
use Rattle.cluster_objects.specs.declared.objects.Write.{Write}
use Rattle.cluster_objects.specs.declared.objects.Writer.TheVariants as writer

-- the newest plan that was ever written at a key, also where it was removed since
unfoldable pub last_plan : History → Key → Option PlanStatus
last_plan (Start base) key = as_plan (slot_in base.slots key).object
last_plan (After w h) key = if same_key w.key key then option_or (as_plan w.object) (last_plan h key) else last_plan h key

abbrev pub is_installing_phase : PlanPhase → Bool
is_installing_phase p = elim p [ phase.Installing ↦ true | _ ↦ false ]

-- Planning or RequiresApproval
abbrev pub is_early : PlanPhase → Bool
is_early p = elim p [ phase.Planning ↦ true | phase.RequiresApproval ↦ true | _ ↦ false ]

-- what stands there is a plan in Installing
abbrev pub is_installing : Option Object → Bool
is_installing None = false
is_installing (Some object) = elim object.status [ status.Plan plan ↦ is_installing_phase plan.phase | _ ↦ false ]

-- what stands there is a plan in Planning or RequiresApproval
abbrev pub is_early_plan : Option Object → Bool
is_early_plan None = false
is_early_plan (Some object) = elim object.status [ status.Plan plan ↦ is_early plan.phase | _ ↦ false ]

-- Some write put the plan at the key into Installing. A plan that the base no longer holds, or holds in another phase than Planning or RequiresApproval, counts as one.
unfoldable pub started : History → Key → Bool
started (Start base) key = not ((slot_in base.slots key).version == 0) && not (is_early_plan (slot_in base.slots key).object)
started (After w h) key = (same_key w.key key && is_installing w.object) || started h key

-- A step's state goes from Unknown to Present, or from Unknown to Aimed and then to Created or Overtaken, and stays.
abbrev pub StateLater : StepState → StepState → Type 0
StateLater Unknown new = Unit {0}
StateLater (Aimed v) new = (new ≡ Aimed v) ⊎ ((new ≡ Created) ⊎ (new ≡ Overtaken))
StateLater Created new = new ≡ Created
StateLater Present new = new ≡ Present
StateLater Overtaken new = new ≡ Overtaken

pub record StepLater (old new : Step) : Type 0 where
  pub key : new.key ≡ old.key
  pub body : new.body ≡ old.body
  pub made : new.made ≡ old.made
  pub state : StateLater old.state new.state

-- Of a plan only the states of its steps and its phase change, and that it gets approved.
pub record PlanLater (old new : PlanStatus) : Type 0 where
  pub number : new.number ≡ old.number
  pub manual : new.manual ≡ old.manual
  pub approved : old.approved ≡ true → new.approved ≡ true
  pub count : length new.steps ≡ length old.steps
  pub steps : (i : ℕ) (s : Step) → slice_get old.steps i ≡ Some s → (t : Step) × (slice_get new.steps i ≡ Some t) × StepLater s t

-- A step makes a CSV or a Subscription exactly at a key of that kind, with phase or state None.
abbrev pub MakesItsKind : Key → Made → Type 0
MakesItsKind key made.Plain = (is_csv_key key ≡ false) × (is_subscription_key key ≡ false)
MakesItsKind key (made.Subscription x) = (is_subscription_key key ≡ true) × (x.state ≡ sub.Nothing)
MakesItsKind key (made.Csv x) = (is_csv_key key ≡ true) × (x.phase ≡ csv.Nothing)
MakesItsKind key (made.Deployment x) = (is_csv_key key ≡ false) × (is_subscription_key key ≡ false)

-- What a step of a plan at this key may be for: it is in the plan's namespace or in none, and of no InstallPlan, Resolution or CatalogSource.
pub record IsStepOf (key : Key) (step : Step) : Type 0 where
  pub place : (step.key.namespace ≡ key.namespace) ⊎ (step.key.namespace ≡ [])
  pub plan : is_plan_key step.key ≡ false
  pub resolution : is_resolution_key step.key ≡ false
  pub catalog : is_catalog_key step.key ≡ false
  pub makes : MakesItsKind step.key step.made

-- a plan bears its own number, and its steps have distinct keys
pub record IsPlan (key : Key) (plan : PlanStatus) : Type 0 where
  pub named : key ≡ install_key key.namespace plan.number
  pub distinct : (i j : ℕ) (s t : Step) → slice_get plan.steps i ≡ Some s → slice_get plan.steps j ≡ Some t → s.key ≡ t.key → i ≡ j
  pub steps : (i : ℕ) (s : Step) → slice_get plan.steps i ≡ Some s → IsStepOf key s

-- A plan that was just made isn't approved and each step is Unknown. It is Failed without a step, or in RequiresApproval where it is manual, or else in Planning.
pub record IsNew (plan : PlanStatus) : Type 0 where
  pub approved : plan.approved ≡ false
  pub unknown : (i : ℕ) (s : Step) → slice_get plan.steps i ≡ Some s → s.state ≡ Unknown
  pub phase : ((plan.phase ≡ phase.Failed) × (plan.steps ≡ [])) ⊎ (((plan.phase ≡ phase.RequiresApproval) × (plan.manual ≡ true)) ⊎ ((plan.phase ≡ phase.Planning) × (plan.manual ≡ false)))

abbrev pub body_of : Option Object → List ℕ
body_of None = []
body_of (Some object) = object.body

-- Where a CatalogSource stands, its body passes the test of a valid catalog.
abbrev pub HasValidCatalog : (List ℕ → Bool) → Key → Option Object → Type 0
HasValidCatalog is_valid key object = (c : CatalogStatus) → catalog_at key object ≡ Some c → is_valid (body_of object) ≡ true

-- The write may follow the history. The test says which bytes are a valid catalog.
pub data IsAllowed (is_valid : List ℕ → Bool) (h : History) (w : Write) : Type 0 where
  -- anybody writes what is no InstallPlan, without a stamp
  Aside : stamps_of w.object ≡ [] → is_plan_key w.key ≡ false → HasValidCatalog is_valid w.key w.object → IsAllowed is_valid h w
  -- a user removes a plan
  Removes : w.by ≡ writer.User → w.object ≡ None → IsAllowed is_valid h w
  -- a user approves the plan that is there
  Approves : w.by ≡ writer.User → (object : Object) (plan : PlanStatus) → is_plan_key w.key ≡ true → (slot h w.key).object ≡ Some object → object.status ≡ status.Plan plan
      → w.object ≡ Some (record object { status = status.Plan (record plan { approved = true }); stamp = None; seen = position h }) → IsAllowed is_valid h w
  -- a resolver makes a plan at a key that was never written
  Creates : w.by ≡ writer.Resolver → (object : Object) (plan : PlanStatus) → is_plan_key w.key ≡ true → w.expect ≡ 0 → w.object ≡ Some object → object.status ≡ status.Plan plan → object.stamp ≡ None
      → IsPlan w.key plan → IsNew plan → IsAllowed is_valid h w
  -- an installer goes on with a plan, as it saw it at some length of this history
  Installs : (namespace : List ℕ) (a i : ℕ) → (base_of h).length ≤ a → a ≤ position h → slice_get (installer_writes (view h namespace a)) i ≡ Some w → IsAllowed is_valid h w

-- the phase of a CSV that is written is the one that it had, and None for a new one
abbrev pub KeepsPhase : Key → Option Object → Option Object → Type 0
KeepsPhase key old new = (x : CsvStatus) → csv_at key new ≡ Some x → elim (csv_at key old) [ None ↦ x.phase ≡ csv.Nothing | Some y ↦ x.phase ≡ y.phase ]

-- the same of the state of a Subscription
abbrev pub KeepsState : Key → Option Object → Option Object → Type 0
KeepsState key old new = (x : SubscriptionStatus) → subscription_at key new ≡ Some x → elim (subscription_at key old) [ None ↦ x.state ≡ sub.Nothing | Some y ↦ x.state ≡ y.state ]

-- A neutral write has no stamp, is of no InstallPlan, Resolution or CatalogSource, and changes no phase and no state.
pub record IsNeutral (h : History) (w : Write) : Type 0 where
  pub bare : stamps_of w.object ≡ []
  pub plan : is_plan_key w.key ≡ false
  pub resolution : is_resolution_key w.key ≡ false
  pub catalog : is_catalog_key w.key ≡ false
  pub phase : KeepsPhase w.key (slot h w.key).object w.object
  pub state : KeepsState w.key (slot h w.key).object w.object
