-- Each allowed write, as far as plans and steps go.
use Rattle.std.proofs.Common.{◌≡◌, ◌≤◌, ◌⊎◌, Bool, true, false, cond, not, eqb, List, [], ℕ, Option, Some, None, refl, sym, ap, ◌∙◌, inl, inr, subst, arith, zero, ◌-◌}
use Rattle.std.specs.List.{slice_get}
use Rattle.cluster_objects.specs.Kinds.{as_plan, is_plan_key, status_of}
use Rattle.cluster_objects.specs.Stamps.{stamps_of, times}
use Rattle.cluster_objects.specs.declared.keys.Key.{Key}
use Rattle.cluster_objects.specs.declared.keys.Stamp.{Stamp}
use Rattle.cluster_objects.specs.declared.objects.Object.{Object}
use Rattle.cluster_objects.specs.declared.objects.Status.TheVariants as status
use Rattle.cluster_objects.specs.declared.objects.Write.{Write}
use Rattle.cluster_objects.specs.declared.objects.Writer.TheVariants as writer
use Rattle.cluster_objects.specs.declared.plans.Step.{Step}
use Rattle.cluster_objects.specs.declared.plans.StepState.TheVariants.{Created, Overtaken}
use Rattle.cluster_objects.specs.declared.plans.PlanStatus.{PlanStatus}
use Rattle.cluster_objects.specs.declared.statuses.Made.{Made}
use Rattle.cluster_history.specs.History.{History, After, IsInOrder, base_of, position, slot, slot_in, earlier, first_writes}
use Rattle.cluster_history.specs.Views.{View, view, is_visible}
use Rattle.cluster_history.specs.declared.slots.Slot.{Slot}
use Rattle.lawful_history.specs.Installing.{install_key, key_of, plan_write, step_write, with_step, owner_of, Move, Rest, Begin, Finish, Fail, Aim, Land, move_write, next_move}
use Rattle.lawful_history.specs.Lawful.{last_plan, IsNew, IsAllowed, Aside, Removes, Approves, Creates, Installs}
use Rattle.lawful_history.specs.Sound.{IsLawful}
use Rattle.lawful_history.proofs.Invariant.{IsSoundHistory, GoesOn}
use Rattle.lawful_history.proofs.Allowing.{as_plan-status, bare-none, step_visible}
use Rattle.lawful_history.proofs.Law.{Past, seen_entry, lawful-past, base_in_order}
use Rattle.lawful_history.proofs.Moves.{MoveStep, next_move_of, slot_in-view}
use Rattle.lawful_history.proofs.Steps.{Some-same}
use Rattle.lawful_history.proofs.Older.{first_older, now}
use Rattle.history_laws.specs.Edges.{PlanEdge, BecomesApproved}
use Rattle.history_laws.proofs.Going.{begins, completes, gives_up, aims, lands, loses}

-- the write puts no plan
pub record Apart (w : Write) : Type 0 where
  pub bare : stamps_of w.object ≡ []
  pub kind : (is_plan_key w.key ≡ false) ⊎ (w.object ≡ None)

-- the write puts the first plan of its key
pub record First (h : History) (w : Write) : Type 0 where
  pub bare : stamps_of w.object ≡ []
  pub none : last_plan h w.key ≡ None
  pub by : w.by ≡ writer.Resolver
  pub plan : PlanStatus
  pub put : as_plan w.object ≡ Some plan
  pub new : IsNew plan
  pub as_seen : (a : ℕ) → slot (first_writes a h) w.key ≡ slot h w.key

-- the write goes on with the plan that is there
pub record Goes (h : History) (w : Write) : Type 0 where
  pub bare : stamps_of w.object ≡ []
  pub plan : PlanStatus
  pub new : PlanStatus
  pub last : last_plan h w.key ≡ Some plan
  pub put : as_plan w.object ≡ Some new
  pub edge : PlanEdge plan new
  pub as_seen : (object : Object) → w.object ≡ Some object → slot (first_writes object.seen h) w.key ≡ slot h w.key

-- the write puts a step's object
pub record Puts (h : History) (w : Write) : Type 0 where
  pub by : w.by ≡ writer.Installer
  pub no_plan : is_plan_key w.key ≡ false
  pub stamp : Stamp
  pub plan : PlanStatus
  pub step : Step
  pub length : ℕ
  pub object : w.object ≡ Some (record { body = step.body; status = status_of step.made; owner = owner_of (slot h w.key).object; stamp = Some stamp; seen = length })
  pub seen : length ≤ position h
  pub as_seen : slot (first_writes length h) w.key ≡ slot h w.key
  pub last : last_plan h (key_of stamp) ≡ Some plan
  pub number : stamp.plan ≡ plan.number
  pub at : slice_get plan.steps stamp.step ≡ Some step
  pub key : w.key ≡ step.key

pub data Class (h : History) (w : Write) : Type 0 where
  IsApart : Apart w → Class h w
  IsFirst : First h w → Class h w
  GoesWith : Goes h w → Class h w
  PutsOne : Puts h w → Class h w

put : ℕ → Stamp → List ℕ → Made → Option Object → Object
put seen stamp body made there = record { body = body; status = status_of made; owner = owner_of there; stamp = Some stamp; seen = seen }

-- a later state of the step puts the same
same_put : (seen : ℕ) (stamp : Stamp) (s t : Step) (there there_now : Option Object) → there ≡ there_now → t.body ≡ s.body → t.made ≡ s.made
    → Some (let x : Object = record { body = s.body; status = status_of s.made; owner = owner_of there; stamp = Some stamp; seen = seen } in x)
    ≡ Some (let x : Object = record { body = t.body; status = status_of t.made; owner = owner_of there_now; stamp = Some stamp; seen = seen } in x)
unfolding put
same_put seen stamp s t there there_now e b m =
    ap (λ x. Some (put seen stamp s.body s.made x)) e ∙ ap (λ x. Some (put seen stamp x s.made there_now)) (sym b) ∙ ap (λ x. Some (put seen stamp t.body x there_now)) (sym m)

-- an installer's write
module _ (h : History) (sound : IsSoundHistory h) (old : History) (sound_old : IsSoundHistory old) (goes : GoesOn old h) (v : View) (low : v.length ≤ position h) (is_old : old ≡ first_writes v.length h)
    (sees : (k : Key) → is_visible v.namespace k ≡ true → slot_in v.slots k ≡ slot old k) (key : Key) (object : Object) (plan : PlanStatus)
    (kind : is_plan_key key ≡ true) (namespace : key.namespace ≡ v.namespace) (is_there : (slot old key).object ≡ Some object) (status_is : object.status ≡ status.Plan plan) where
  was : last_plan old key ≡ Some plan
  was = sound_old.there key plan kind (ap as_plan is_there ∙ as_plan-status object plan status_is)

  -- a write of the plan itself: the plan is still there
  still : (slot old key).version ≡ (slot h key).version → last_plan h key ≡ Some plan
  still same = sound.there key plan kind (ap (λ (x : Slot). as_plan x.object) (sym (goes.same key same)) ∙ ap as_plan is_there ∙ as_plan-status object plan status_is)

  as_old : (k : Key) → (slot old k).version ≡ (slot h k).version → slot (first_writes v.length h) k ≡ slot h k
  as_old k same = subst (λ g. slot g k ≡ slot h k) is_old (goes.same k same)

  Fits : Write → Type 0
  Fits w = w.expect ≡ (slot h w.key).version → Class h w

  plan_put : (new : PlanStatus) → PlanEdge plan new → Fits (plan_write v key (slot old key).version object new)
  unfolding Fits
  plan_put new edge same = GoesWith (record {
    bare = refl;
    plan = plan;
    new = new;
    last = still same;
    put = refl;
    edge = edge;
    as_seen = λ put is. subst (λ n. slot (first_writes n h) key ≡ slot h key) (ap (λ (x : Object). x.seen) (Some-same _ _ _ refl is)) (as_old key same);
  })

  step_put : (i : ℕ) (s : Step) → slice_get plan.steps i ≡ Some s → Fits (step_write v s.key (slot_in v.slots s.key) plan.number i s)
  unfolding Fits
  step_put i s at same =
      let mid = goes.plans key plan kind was in
      let moved = mid.2.steps i s at in
      let is_step = (sound_old.plans key plan kind was).steps i s at in
      let saw : slot_in v.slots s.key ≡ slot old s.key = sees s.key (subst (λ ns. is_visible ns s.key ≡ true) namespace (step_visible key s is_step)) in
      let equal : slot_in v.slots s.key ≡ slot h s.key = saw ∙ goes.same s.key (sym (ap (λ (x : Slot). x.version) saw) ∙ same) in
      let named : install_key v.namespace plan.number ≡ key = sym ((sound_old.plans key plan kind was).named ∙ ap (λ ns. install_key ns plan.number) namespace) in
      PutsOne (record {
        by = refl;
        no_plan = is_step.plan;
        stamp = record { namespace = v.namespace; plan = plan.number; step = i };
        plan = mid.0;
        step = moved.0;
        length = v.length;
        object = same_put v.length (record { namespace = v.namespace; plan = plan.number; step = i }) s moved.0 (slot_in v.slots s.key).object (slot h s.key).object (ap (λ (x : Slot). x.object) equal) moved.2.body moved.2.made;
        seen = low;
        as_seen = as_old s.key (sym (ap (λ (x : Slot). x.version) saw) ∙ same);
        last = ap (λ k. last_plan h k) named ∙ mid.1;
        number = sym mid.2.number;
        at = moved.1;
        key = sym moved.2.key;
      })

  to : (w₀ w : Write) → Fits w₀ → Some w₀ ≡ Some w → Fits w
  to w₀ w c e = subst Fits (let i : w₀ ≡ w = cc in i) c

  land : (i : ℕ) (s : Step) (n : ℕ) → MoveStep plan (Land i s n) → (b c : Bool)
      → Fits (cond (not b) (plan_write v key (slot old key).version object (with_step plan i s Created))
      (cond c (step_write v s.key (slot_in v.slots s.key) plan.number i s) (plan_write v key (slot old key).version object (with_step plan i s Overtaken))))
  land i s n is true true = step_put i s is.at
  land i s n is true false = plan_put (with_step plan i s Overtaken) (loses plan i s n is)
  land i s n is false c = plan_put (with_step plan i s Created) (lands plan i s n is)

  seen_stamp : ℕ → Stamp
  seen_stamp i = record { namespace = v.namespace; plan = plan.number; step = i }

  pub by_move : (m : Move) → next_move plan ≡ m → MoveStep plan m → (w : Write) → move_write v key (slot old key).version object plan m ≡ Some w → w.expect ≡ (slot h w.key).version → Class h w
  unfolding Fits seen_stamp
  by_move Rest e is w p = absurd (let f : None ≡ Some w = p in cc)
  by_move Begin e is w p = to _ w (plan_put _ (begins plan is)) p
  by_move Finish e is w p = to _ w (plan_put _ (completes plan e is)) p
  by_move Fail e is w p = to _ w (plan_put _ (gives_up plan e is)) p
  by_move (Aim i s) e is w p = to _ w (plan_put _ (aims plan i s (slot_in v.slots s.key) is)) p
  by_move (Land i s n) e is w p = to _ w (land i s n is (eqb (times (seen_stamp i) (slot_in v.slots s.key).stamps) 0) (eqb (slot_in v.slots s.key).version n)) p

all_writes : (h : History) → first_writes (position h) h ≡ h
all_writes h = ap (λ n. earlier n h) (let e : position h - position h ≡ zero = omega arith in e)

-- every allowed write
class : (is_valid : List ℕ → Bool) (h : History) (w : Write) → IsInOrder (base_of h).slots → Past h → IsAllowed is_valid h w → w.expect ≡ (slot h w.key).version → Class h w
class is_valid h w sorted past (Aside bare kind valid) expects = IsApart (record { bare = bare; kind = inl kind })
class is_valid h w sorted past (Removes by none) expects = IsApart (record { bare = ap stamps_of none; kind = inr none })
class is_valid h w sorted past (Approves by object plan kind there st is) expects =
    GoesWith (record {
      bare = ap stamps_of is;
      plan = plan;
      new = record plan { approved = true };
      last = (past h now).0.there w.key plan kind (ap as_plan there ∙ as_plan-status object plan st);
      put = ap as_plan is;
      edge = BecomesApproved refl;
      as_seen = λ put is_put. subst (λ n. slot (first_writes n h) w.key ≡ slot h w.key) (ap (λ (x : Object). x.seen) (Some-same _ _ _ is is_put)) (ap (λ g. slot g w.key) (all_writes h));
    })
class is_valid h w sorted past (Creates by object plan kind fresh is st unstamped made new) expects =
    let unwritten : (slot h w.key).version ≡ 0 = sym expects ∙ fresh in
    IsFirst (record {
      bare = ap stamps_of is ∙ bare-none object unstamped;
      none = (past h now).0.written w.key unwritten;
      by = by;
      plan = plan;
      put = ap as_plan is ∙ as_plan-status object plan st;
      new = new;
      as_seen = λ a. let goes = (past (first_writes a h) (first_older a h)).1 in goes.same w.key (omega (arith, goes.versions w.key, unwritten));
    })
class is_valid h w sorted past (Installs namespace a i low le is) expects =
    let g = first_writes a h in
    let old = past g (first_older a h) in
    let v = view h namespace a in
    let entry = seen_entry h w sorted namespace a i is in
    by_move h (past h now).0 g old.0 old.1 v le refl (λ k s. slot_in-view h namespace a k s) entry.key entry.object entry.plan entry.kind entry.namespace
    entry.there entry.status (next_move entry.plan) refl (next_move_of entry.plan) w entry.write expects

pub class_of : (is_valid : List ℕ → Bool) (h : History) (w : Write) → IsLawful is_valid (After w h) → Class h w
class_of is_valid h w lawful = class is_valid h w (base_in_order is_valid h lawful.2) (lawful-past is_valid h lawful.2) lawful.1 lawful.0
