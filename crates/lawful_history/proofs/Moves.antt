-- What is known of a plan by its next move, and what one step's new state makes of it.
use Rattle.cluster_history.specs.History.{History}
use Rattle.std.proofs.Common.{◌≡◌, ◌≢◌, ◌+◌, ◌⊎◌, Bool, true, false, cond, ◌&&◌, List, [], ◌∷◌, ◌++◌, length, ⊎_elim, ℕ, zero, suc, Option, Some, None, refl, sym, ap, ◌∙◌, arith, inl, inr, subst}
use Rattle.std.proofs.lemmas.Bool.{and_parts, cases_eq}
use Rattle.std.specs.List.{slice_get, list_any}
use Rattle.std.specs.Prelude.{slice_set, nat_le, map}
use Rattle.std.specs.BTreeMap.{is_at}
use Rattle.std.specs.Option.{unwrap_or}
use Rattle.std.proofs.lemmas.Map.Entries.{lookup-filter-keys}
use Rattle.cluster_objects.specs.Keys.{key_cmp, same_key, same_text}
use Rattle.cluster_history.specs.History.{Slots, slot, slot_in, first_writes, state, never_written}
use Rattle.cluster_history.specs.Views.{View, view, is_visible}
use Rattle.cluster_objects.specs.Kinds.{is_plan_key}
use Rattle.lawful_history.specs.Installing.{Move, Rest, Begin, Finish, Fail, Aim, Land, next_step, next_move, is_overtaken, with_step, move_write, numbered, Numbered, entry_write, entry_writes, placed, by_number, installer_writes}
use Rattle.lawful_history.specs.Lawful.{StateLater, StepLater, PlanLater}
use Rattle.cluster_objects.specs.declared.keys.Key.{Key}
use Rattle.cluster_history.specs.declared.slots.Slot.{Slot}
use Rattle.cluster_objects.specs.declared.objects.Object.{Object}
use Rattle.cluster_objects.specs.declared.objects.Status.{Status}
use Rattle.cluster_objects.specs.declared.objects.Status.TheVariants.{Plain, Catalog, Subscription, Csv, Deployment, Plan, Resolution, Strategy, Group, Claims, Lease}
use Rattle.cluster_objects.specs.declared.plans.Step.{Step}
use Rattle.cluster_objects.specs.declared.plans.StepState.{StepState}
use Rattle.cluster_objects.specs.declared.plans.StepState.TheVariants.{Unknown, Aimed, Created, Present, Overtaken}
use Rattle.cluster_objects.specs.declared.plans.PlanPhase.{PlanPhase}
use Rattle.cluster_objects.specs.declared.plans.PlanPhase.TheVariants as phase
use Rattle.cluster_objects.specs.declared.plans.PlanStatus.{PlanStatus}
use Rattle.cluster_objects.specs.declared.objects.Write.{Write}
use Rattle.cluster_objects.proofs.Ordering.{same_key-true}
use Rattle.cluster_objects.proofs.Stamping.{same_text-true}
use Rattle.lawful_history.proofs.Later.{StepLater-refl}

-- a view shows the slots of the first writes
pub slot_in-view : (h : History) (namespace : List ℕ) (a : ℕ) (key : Key) → is_visible namespace key ≡ true → slot_in (view h namespace a).slots key ≡ slot (first_writes a h) key
unfolding slot same_key
slot_in-view h namespace a key sees =
    ap (λ (o : Option Slot). unwrap_or o never_written)
    (lookup-filter-keys (is_at (key_cmp key)) (is_visible namespace) true (λ k at. ap (is_visible namespace) (sym (same_key-true key k at)) ∙ sees) (state (first_writes a h)))

-- the step of a move
pub record IsStep (plan : PlanStatus) (i : ℕ) (s : Step) (st : StepState) : Type 0 where
  pub at : slice_get plan.steps i ≡ Some s
  pub state : s.state ≡ st
  pub installing : plan.phase ≡ phase.Installing

-- what the search for the next step has found, in the steps from number k on
abbrev StepOf : List Step → ℕ → Move → Type 0
StepOf steps k (Aim i s) = (j : ℕ) × (i ≡ k + j) × (slice_get steps j ≡ Some s) × (s.state ≡ Unknown)
StepOf steps k (Land i s v) = (j : ℕ) × (i ≡ k + j) × (slice_get steps j ≡ Some s) × (s.state ≡ Aimed v)
StepOf steps k Rest = ⊥
StepOf steps k Begin = ⊥
StepOf steps k Finish = Unit {0}
StepOf steps k Fail = Unit {0}

further : (s : Step) (steps : List Step) (k : ℕ) (m : Move) → StepOf steps (k + 1) m → StepOf (s ∷ steps) k m
further s steps k Rest h = h
further s steps k Begin h = h
further s steps k Finish h = tt
further s steps k Fail h = tt
further s steps k (Aim i t) h = (suc h.0, omega (arith, h.1), h.2, h.3)
further s steps k (Land i t v) h = (suc h.0, omega (arith, h.1), h.2, h.3)

next_step_of : (k : ℕ) (steps : List Step) → StepOf steps k (next_step k steps)
next_step_of k [] = tt
next_step_of k (s ∷ steps) = by_state s.state refl (further s steps k (next_step (k + 1) steps) (next_step_of (k + 1) steps))
  where
    by_state : (st : StepState) → s.state ≡ st → StepOf (s ∷ steps) k (next_step (k + 1) steps)
        → StepOf (s ∷ steps) k (elim st [ Unknown ↦ Aim k s | Aimed v ↦ Land k s v | Created ↦ next_step (k + 1) steps | Present ↦ next_step (k + 1) steps | Overtaken ↦ Fail ])
    by_state Unknown e rest = (0, omega arith, refl, e)
    by_state (Aimed v) e rest = (0, omega arith, refl, e)
    by_state Created e rest = rest
    by_state Present e rest = rest
    by_state Overtaken e rest = tt

-- what a plan's next move says of the plan
abbrev pub MoveStep : PlanStatus → Move → Type 0
MoveStep plan (Aim i s) = IsStep plan i s Unknown
MoveStep plan (Land i s v) = IsStep plan i s (Aimed v)
MoveStep plan Rest = Unit {0}
MoveStep plan Begin = (plan.phase ≡ phase.Planning) ⊎ ((plan.phase ≡ phase.RequiresApproval) × (plan.approved ≡ true))
MoveStep plan Finish = plan.phase ≡ phase.Installing
MoveStep plan Fail = plan.phase ≡ phase.Installing

from_start : (plan : PlanStatus) (m : Move) → plan.phase ≡ phase.Installing → StepOf plan.steps 0 m → MoveStep plan m
from_start plan Rest e h = tt
from_start plan Begin e h = absurd h
from_start plan Finish e h = e
from_start plan Fail e h = e
from_start plan (Aim i s) e h = record { at = subst (λ n. slice_get plan.steps n ≡ Some s) (let e' : h.0 ≡ i = omega (arith, h.1) in e') h.2; state = h.3; installing = e }
from_start plan (Land i s v) e h = record { at = subst (λ n. slice_get plan.steps n ≡ Some s) (let e' : h.0 ≡ i = omega (arith, h.1) in e') h.2; state = h.3; installing = e }

pub next_move_of : (plan : PlanStatus) → MoveStep plan (next_move plan)
next_move_of plan = by_phase plan.phase refl
  where
    installing : plan.phase ≡ phase.Installing → (b : Bool) → MoveStep plan (cond b Fail (next_step 0 plan.steps))
    installing e true = e
    installing e false = from_start plan (next_step 0 plan.steps) e (next_step_of 0 plan.steps)

    waiting : plan.phase ≡ phase.RequiresApproval → (b : Bool) → plan.approved ≡ b → MoveStep plan (cond b Begin Rest)
    waiting e true is = inr (e, is)
    waiting e false is = tt

    by_phase : (p : PlanPhase) → plan.phase ≡ p → MoveStep plan (elim p [
      | phase.Planning ↦ Begin
      | phase.RequiresApproval ↦ cond plan.approved Begin Rest
      | phase.Installing ↦ cond (list_any is_overtaken plan.steps) Fail (next_step 0 plan.steps)
      | _ ↦ Rest
    ])
    by_phase phase.Nothing e = tt
    by_phase phase.Planning e = inl e
    by_phase phase.RequiresApproval e = waiting e plan.approved refl
    by_phase phase.Installing e = installing e (list_any is_overtaken plan.steps)
    by_phase phase.Complete e = tt
    by_phase phase.Failed e = tt

length-slice_set : {A : Type 0} (xs : List A) (i : ℕ) (y : A) → length (slice_set xs i y) ≡ length xs
length-slice_set [] i y = refl
length-slice_set (x ∷ xs) zero y = refl
length-slice_set (x ∷ xs) (suc i) y = ap suc (length-slice_set xs i y)

set_here : {A : Type 0} (xs : List A) (i : ℕ) (x y : A) → slice_get xs i ≡ Some x → slice_get (slice_set xs i y) i ≡ Some y
set_here [] i x y h = cc
set_here (z ∷ xs) zero x y h = refl
set_here (z ∷ xs) (suc i) x y h = set_here xs i x y h

set_there : {A : Type 0} (xs : List A) (i j : ℕ) (y : A) → j ≢ i → slice_get (slice_set xs i y) j ≡ slice_get xs j
set_there [] i j y ne = refl
set_there (z ∷ xs) zero zero y ne = absurd (ne refl)
set_there (z ∷ xs) zero (suc j) y ne = refl
set_there (z ∷ xs) (suc i) zero y ne = refl
set_there (z ∷ xs) (suc i) (suc j) y ne = set_there xs i j y (λ e. ne (ap suc e))

-- the steps of a plan after one got another state
pub with_step_cases : (plan : PlanStatus) (i : ℕ) (s : Step) (st : StepState) → slice_get plan.steps i ≡ Some s → (j : ℕ) (t : Step) → slice_get (with_step plan i s st).steps j ≡ Some t
    → ((j ≡ i) × (t ≡ record s { state = st })) ⊎ ((j ≢ i) × (slice_get plan.steps j ≡ Some t))
with_step_cases plan i s st at j t is = elim (cases_eq j i) [
  | inl e ↦
      let here : slice_get (with_step plan i s st).steps j ≡ Some (record s { state = st }) = subst (λ n. slice_get (with_step plan i s st).steps n ≡ Some (record s { state = st })) (sym e) (set_here plan.steps i s (record s { state = st }) at) in
      inl (e, let u : t ≡ record s { state = st } = cc in u)
  | inr ne ↦ inr (ne, sym (set_there plan.steps i j (record s { state = st }) ne) ∙ is)
]

pub with_step-later : (plan : PlanStatus) (i : ℕ) (s : Step) (st : StepState) → slice_get plan.steps i ≡ Some s → StateLater s.state st → PlanLater plan (with_step plan i s st)
with_step-later plan i s st at later = record {
  number = refl;
  manual = refl;
  approved = λ is. is;
  count = length-slice_set plan.steps i (record s { state = st });
  steps = λ j t is. elim (cases_eq j i) [
    | inl e ↦
        let same : s ≡ t = let u : slice_get plan.steps i ≡ Some t = subst (λ n. slice_get plan.steps n ≡ Some t) e is in cc in (
          record s { state = st },
          subst (λ n. slice_get (with_step plan i s st).steps n ≡ Some (record s { state = st })) (sym e) (set_here plan.steps i s (record s { state = st }) at),
          subst (λ (x : Step). StepLater x (record s { state = st })) same (record { key = refl; body = refl; made = refl; state = later }),
        )
    | inr ne ↦ (t, set_there plan.steps i j (record s { state = st }) ne ∙ is, StepLater-refl t)
  ];
}

-- an entry's write is a plan's
pub record IsPlanWrite (view : View) (key : Key) (there : Slot) (w : Write) : Type 0 where
  pub object : Object
  pub plan : PlanStatus
  pub is_there : there.object ≡ Some object
  pub status : object.status ≡ Plan plan
  pub kind : is_plan_key key ≡ true
  pub namespace : key.namespace ≡ view.namespace
  pub write : move_write view key there.version object plan (next_move plan) ≡ Some w

-- the write stands among these
pub Among : Write → List Numbered → Type 0
Among w [] = ⊥
Among w (x ∷ xs) = (x.1 ≡ w) ⊎ Among w xs

pub among_append : (w : Write) (xs ys : List Numbered) → Among w (xs ++ ys) → Among w xs ⊎ Among w ys
unfolding Among
among_append w [] ys is = inr is
among_append w (x ∷ xs) ys (inl e) = inl (inl e)
among_append w (x ∷ xs) ys (inr is) = ⊎_elim (λ l. inl (inr l)) (λ r. inr r) (among_append w xs ys is)

among_placed : (w : Write) (x : Numbered) (ys : List Numbered) → Among w (placed x ys) → (x.1 ≡ w) ⊎ Among w ys
unfolding Among
among_placed w x [] is = is
among_placed w x (y ∷ ys) is = by_test (nat_le x.0 y.0) (among_placed w x ys) is
  where
    by_test : (b : Bool) → (Among w (placed x ys) → (x.1 ≡ w) ⊎ Among w ys) → Among w (cond b (x ∷ y ∷ ys) (y ∷ placed x ys)) → (x.1 ≡ w) ⊎ ((y.1 ≡ w) ⊎ Among w ys)
    by_test true rest is = is
    by_test false rest (inl e) = inr (inl e)
    by_test false rest (inr is) = ⊎_elim (λ l. inl l) (λ r. inr (inr r)) (rest is)

among_by_number : (w : Write) (xs : List Numbered) → Among w (by_number xs) → Among w xs
unfolding Among
among_by_number w [] is = is
among_by_number w (x ∷ xs) is = ⊎_elim (λ l. inl l) (λ r. inr (among_by_number w xs r)) (among_placed w x (by_number xs) is)

among_map : (w : Write) (xs : List Numbered) (i : ℕ) → slice_get (map (λ (x : Numbered). x.1) xs) i ≡ Some w → Among w xs
unfolding Among
among_map w [] i is = absurd (cc)
among_map w (x ∷ xs) zero is = inl (let e : x.1 ≡ w = cc in e)
among_map w (x ∷ xs) (suc i) is = inr (among_map w xs i is)

pub entry_is_plan : (view : View) (key : Key) (there : Slot) (w : Write) → Among w (entry_write view key there) → IsPlanWrite view key there w
unfolding Among
entry_is_plan view key there w is = by_object there.object refl is
  where
    by_move : (object : Object) (plan : PlanStatus) (o : Option Write) → move_write view key there.version object plan (next_move plan) ≡ o → Among w (numbered plan.number o) → move_write view key there.version object plan (next_move plan) ≡ Some w
    by_move object plan None e is = absurd is
    by_move object plan (Some v) e (inl same) = e ∙ ap Some same
    by_move object plan (Some v) e (inr is) = absurd is

    by_test : (object : Object) (plan : PlanStatus) (b : Bool) → (is_plan_key key && same_text key.namespace view.namespace) ≡ b → there.object ≡ Some object → object.status ≡ Plan plan
        → Among w (cond b (numbered plan.number (move_write view key there.version object plan (next_move plan))) []) → IsPlanWrite view key there w
    by_test object plan true t e st is =
        let both = and_parts (is_plan_key key) (same_text key.namespace view.namespace) t in
        record { object = object; plan = plan; is_there = e; status = st; kind = both.0; namespace = same_text-true key.namespace view.namespace both.1; write = by_move object plan (move_write view key there.version object plan (next_move plan)) refl is }
    by_test object plan false t e st is = absurd is

    by_status : (object : Object) (st : Status) → there.object ≡ Some object → object.status ≡ st
        → Among w (elim st [ Plan plan ↦ cond (is_plan_key key && same_text key.namespace view.namespace) (numbered plan.number (move_write view key there.version object plan (next_move plan))) [] | _ ↦ [] ]) → IsPlanWrite view key there w
    by_status object (Plan plan) e st is = by_test object plan (is_plan_key key && same_text key.namespace view.namespace) refl e st is
    by_status object Plain e st is = absurd is
    by_status object (Catalog x) e st is = absurd is
    by_status object (Subscription x) e st is = absurd is
    by_status object (Csv x) e st is = absurd is
    by_status object (Deployment x) e st is = absurd is
    by_status object (Resolution x) e st is = absurd is
    by_status object (Strategy x) e st is = absurd is
    by_status object (Group x) e st is = absurd is
    by_status object (Claims x) e st is = absurd is
    by_status object (Lease x) e st is = absurd is

    by_object : (o : Option Object) → there.object ≡ o → Among w (elim o [
      | None ↦ []
      | Some object ↦ (elim object.status [
        | Plan plan ↦ cond (is_plan_key key && same_text key.namespace view.namespace) (numbered plan.number (move_write view key there.version object plan (next_move plan))) []
        | _ ↦ []
      ])
    ]) → IsPlanWrite view key there w
    by_object None e is = absurd is
    by_object (Some object) e is = by_status object object.status e refl is

-- a member of an installer's list is the write of an entry of the view
pub record IsEntryWrite (view : View) (w : Write) : Type 0 where
  pub key : Key
  pub there : Slot
  pub place : ℕ
  pub at : slice_get view.slots place ≡ Some (key, there)
  pub write : IsPlanWrite view key there w

among_entries : (view : View) (w : Write) (entries : Slots) → Among w (entry_writes view entries) → (i : ℕ) × (e : Key × Slot) × (slice_get entries i ≡ Some e) × IsPlanWrite view e.0 e.1 w
unfolding Among
among_entries view w [] is = absurd is
among_entries view w (e ∷ entries) is = ⊎_elim
    (λ l. (zero, e, refl, entry_is_plan view e.0 e.1 w l))
    (λ r. let rest = among_entries view w entries r in (suc rest.0, rest.1, rest.2, rest.3))
    (among_append w (entry_write view e.0 e.1) (entry_writes view entries) is)

pub member_is_entry : (view : View) (w : Write) (i : ℕ) → slice_get (installer_writes view) i ≡ Some w → IsEntryWrite view w
member_is_entry view w i is =
    let found = among_entries view w view.slots (among_by_number w (entry_writes view view.slots) (among_map w (by_number (entry_writes view view.slots)) i is)) in
    record { key = found.1.0; there = found.1.1; place = found.0; at = found.2; write = found.3 }
