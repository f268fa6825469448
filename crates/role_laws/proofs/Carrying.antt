-- What an installer's write is: of the plan that it goes on with, or of a step of that plan.
use Rattle.std.proofs.Common.{◌≡◌, Bool, true, false, cond, not, eqb, ℕ, List, [], ◌∷◌, Option, Some, None, refl, sym, ap, ◌∙◌}
use Rattle.cluster_objects.specs.Kinds.{as_claims, is_plan_key, status_of}
use Rattle.cluster_objects.specs.Stamps.{stamps_of, times}
use Rattle.cluster_objects.specs.declared.keys.Key.{Key}
use Rattle.cluster_objects.specs.declared.keys.Stamp.{Stamp}
use Rattle.cluster_objects.specs.declared.objects.Object.{Object}
use Rattle.cluster_objects.specs.declared.objects.Status.TheVariants as status
use Rattle.cluster_objects.specs.declared.objects.Write.{Write}
use Rattle.cluster_objects.specs.declared.plans.PlanStatus.{PlanStatus}
use Rattle.cluster_objects.specs.declared.plans.Step.{Step}
use Rattle.cluster_objects.specs.declared.plans.StepState.TheVariants.{Aimed, Created, Overtaken}
use Rattle.cluster_objects.specs.declared.statuses.Made.{Made}
use Rattle.cluster_objects.specs.declared.statuses.Made.TheVariants as made
use Rattle.cluster_history.specs.History.{After, History, IsInOrder, base_of, first_writes, slot, slot_in}
use Rattle.cluster_history.specs.Views.{View, view}
use Rattle.lawful_history.specs.Installing.{Aim, Begin, Fail, Finish, Land, Move, Rest, move_write, next_move, owner_of, plan_write, step_write, with_step}
use Rattle.lawful_history.specs.Sound.{IsLawful}
use Rattle.lawful_history.proofs.Law.{SeenEntry, seen_entry}
use Rattle.lawful_history.proofs.Moves.{IsStep, MoveStep, next_move_of}
use Rattle.history_laws.specs.Edges.{PlanEdge}
use Rattle.history_laws.proofs.Going.{aims, begins, completes, gives_up, lands, loses}
use Rattle.history_laws.proofs.Moving.{Class, GoesWith, IsApart, IsFirst, PutsOne, class_of}
use Rattle.lawful_events.proofs.Chains.{none_is_some, some_is}
use Rattle.role_laws.proofs.Kept.{ByInstaller}

-- the plan stands at its key, in the view's namespace, at the length that was seen
pub record SeenPlan (v : View) (g : History) : Type 0 where
  pub key : Key
  pub object : Object
  pub plan : PlanStatus
  pub there : (slot g key).object ≡ Some object
  pub status : object.status ≡ status.Plan plan
  pub kind : is_plan_key key ≡ true
  pub namespace : key.namespace ≡ v.namespace

pub data Carries (v : View) (g : History) (w : Write) : Type 0 where
  OfPlan : (seen : SeenPlan v g) (new : PlanStatus) → PlanEdge seen.plan new
      → w ≡ plan_write v seen.key (slot g seen.key).version seen.object new → Carries v g w
  OfStep : (seen : SeenPlan v g) (i : ℕ) (s : Step) (n : ℕ) → IsStep seen.plan i s (Aimed n)
      → w ≡ step_write v s.key (slot_in v.slots s.key) seen.plan.number i s → Carries v g w

module _ (v : View) (g : History) (w : Write) (entry : SeenEntry g v w) where
  seen_plan : SeenPlan v g
  seen_plan =
      record {
        key = entry.key;
        object = entry.object;
        plan = entry.plan;
        there = entry.there;
        status = entry.status;
        kind = entry.kind;
        namespace = entry.namespace;
      }

  of_plan : (new : PlanStatus) → PlanEdge entry.plan new
      → Some (plan_write v entry.key (slot g entry.key).version entry.object new) ≡ Some w → Carries v g w
  unfolding seen_plan
  of_plan new edge is = OfPlan seen_plan new edge (sym (some_is _ w is))

  stamp_of : ℕ → Stamp
  stamp_of i = record { namespace = v.namespace; plan = entry.plan.number; step = i }

  by_land : (i : ℕ) (s : Step) (n : ℕ) → IsStep entry.plan i s (Aimed n) → (b c : Bool)
      → Some (cond (not b) (plan_write v entry.key (slot g entry.key).version entry.object (with_step entry.plan i s Created))
      (cond c (step_write v s.key (slot_in v.slots s.key) entry.plan.number i s)
      (plan_write v entry.key (slot g entry.key).version entry.object (with_step entry.plan i s Overtaken)))) ≡ Some w → Carries v g w
  unfolding seen_plan
  by_land i s n is false c p = of_plan (with_step entry.plan i s Created) (lands entry.plan i s n is) p
  by_land i s n is true true p = OfStep seen_plan i s n is (sym (some_is _ w p))
  by_land i s n is true false p = of_plan (with_step entry.plan i s Overtaken) (loses entry.plan i s n is) p

  by_move : (m : Move) → next_move entry.plan ≡ m → MoveStep entry.plan m
      → move_write v entry.key (slot g entry.key).version entry.object entry.plan m ≡ Some w → Carries v g w
  unfolding stamp_of
  by_move Rest e is p = absurd (none_is_some w p)
  by_move Begin e is p = of_plan _ (begins entry.plan is) p
  by_move Finish e is p = of_plan _ (completes entry.plan e is) p
  by_move Fail e is p = of_plan _ (gives_up entry.plan e is) p
  by_move (Aim i s) e is p = of_plan _ (aims entry.plan i s (slot_in v.slots s.key) is) p
  by_move (Land i s n) e is p =
      by_land i s n is (eqb (times (stamp_of i) (slot_in v.slots s.key).stamps) 0) (eqb (slot_in v.slots s.key).version n) p

  pub by_entry : Carries v g w
  by_entry = by_move (next_move entry.plan) refl (next_move_of entry.plan) entry.write

pub carries : (h : History) (w : Write) → IsInOrder (base_of h).slots → (by : ByInstaller h w)
    → Carries (view h by.namespace by.length) (first_writes by.length h) w
carries h w sorted by =
    by_entry (view h by.namespace by.length) (first_writes by.length h) w (seen_entry h w sorted by.namespace by.length by.place by.enabled)

-- ---- the write of a step has its stamp, and so it is of no plan's key

step_object : View → Step → Option Object → ℕ → ℕ → Object
step_object v s there number i =
    record {
      body = s.body;
      status = status_of s.made;
      owner = owner_of there;
      stamp = Some (record { namespace = v.namespace; plan = number; step = i });
      seen = v.length;
    }

pub record HasStamp (w : Write) : Type 0 where
  pub object : Object
  pub stamp : Stamp
  pub puts : w.object ≡ Some object
  pub stamped : object.stamp ≡ Some stamp

pub step_stamped : (v : View) (w : Write) (number i : ℕ) (s : Step) → w ≡ step_write v s.key (slot_in v.slots s.key) number i s → HasStamp w
unfolding step_object
step_stamped v w number i s is =
    record {
      object = step_object v s (slot_in v.slots s.key).object number i;
      stamp = record { namespace = v.namespace; plan = number; step = i };
      puts = ap (λ (x : Write). x.object) is;
      stamped = refl;
    }

pub stamped_no_plan : (is_valid : List ℕ → Bool) (h : History) (w : Write) → IsLawful is_valid (After w h) → HasStamp w → is_plan_key w.key ≡ false
stamped_no_plan is_valid h w lawful has = by_class (class_of is_valid h w lawful)
  where
    not_bare : stamps_of w.object ≡ [] → ⊥
    not_bare bare =
        let some : stamps_of w.object ≡ has.stamp ∷ [] =
        ap stamps_of has.puts ∙ ap (λ (st : Option Stamp). stamps_of (Some (record has.object { stamp = st }))) has.stamped in
        cc

    by_class : Class h w → is_plan_key w.key ≡ false
    by_class (IsApart x) = absurd (not_bare x.bare)
    by_class (IsFirst x) = absurd (not_bare x.bare)
    by_class (GoesWith x) = absurd (not_bare x.bare)
    by_class (PutsOne x) = x.no_plan

-- ---- no write of the installer puts claims

made_no_claims : (m : Made) (body : List ℕ) (owner : Option (List ℕ)) (stamp : Option Stamp) (seen : ℕ)
    → as_claims (Some (record { body = body; status = status_of m; owner = owner; stamp = stamp; seen = seen })) ≡ None
made_no_claims made.Plain body owner stamp seen = refl
made_no_claims (made.Subscription x) body owner stamp seen = refl
made_no_claims (made.Csv x) body owner stamp seen = refl
made_no_claims (made.Deployment x) body owner stamp seen = refl

pub carries_no_claims : (v : View) (g : History) (w : Write) → Carries v g w → as_claims w.object ≡ None
carries_no_claims v g w (OfPlan seen new edge is) = ap (λ (x : Write). as_claims x.object) is
carries_no_claims v g w (OfStep seen i s n at is) =
    ap (λ (x : Write). as_claims x.object) is
    ∙ made_no_claims s.made s.body (owner_of (slot_in v.slots s.key).object)
    (Some (record { namespace = v.namespace; plan = seen.plan.number; step = i })) v.length
