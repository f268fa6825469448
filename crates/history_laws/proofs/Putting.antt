-- What the write of a step's object puts, and over what.
use Rattle.std.proofs.Common.{◌≡◌, ◌≤◌, Bool, true, false, cond, List, [], ◌∷◌, ℕ, Option, Some, None, refl, sym, ap, ◌∙◌, inl, inr, subst}
use Rattle.cluster_objects.specs.Kinds.{is_csv_key, is_subscription_key, csv_at, subscription_at, status_of}
use Rattle.cluster_objects.specs.Stamps.{stamps_of}
use Rattle.cluster_objects.specs.declared.keys.Key.{Key}
use Rattle.cluster_objects.specs.declared.keys.Stamp.{Stamp}
use Rattle.cluster_objects.specs.declared.objects.Object.{Object}
use Rattle.cluster_objects.specs.declared.objects.Status.{Status}
use Rattle.cluster_objects.specs.declared.objects.Status.TheVariants as status
use Rattle.cluster_objects.specs.declared.objects.Write.{Write}
use Rattle.cluster_objects.specs.declared.plans.Step.{Step}
use Rattle.cluster_objects.specs.declared.plans.StepState.TheVariants.{Aimed}
use Rattle.cluster_objects.specs.declared.plans.PlanStatus.{PlanStatus}
use Rattle.cluster_objects.specs.declared.statuses.Made.{Made}
use Rattle.cluster_objects.specs.declared.statuses.Made.TheVariants as made
use Rattle.cluster_objects.specs.declared.statuses.CsvStatus.{CsvStatus}
use Rattle.cluster_objects.specs.declared.statuses.CsvPhase.TheVariants as csv
use Rattle.cluster_objects.specs.declared.statuses.SubscriptionStatus.{SubscriptionStatus}
use Rattle.cluster_objects.specs.declared.statuses.SubState.TheVariants as sub
use Rattle.std.specs.List.{slice_get}
use Rattle.cluster_history.specs.History.{History, After, position, slot, first_writes}
use Rattle.lawful_history.specs.Installing.{key_of, is_kept, owner_of}
use Rattle.lawful_history.specs.Lawful.{last_plan, MakesItsKind, KeepsPhase, KeepsState}
use Rattle.lawful_history.specs.Sound.{IsLawful}
use Rattle.lawful_history.proofs.Allowing.{Effect}
use Rattle.lawful_history.proofs.Landing.{Lands}
use Rattle.lawful_history.proofs.Law.{newest, sound, fits}
use Rattle.cluster_history.specs.declared.slots.Slot.{Slot}
use Rattle.lawful_history.proofs.Slots.{same_or_other}
use Rattle.lawful_history.proofs.Steps.{Some-same, is_plan_key-key_of}
use Rattle.history_laws.specs.Steps.{PutsStep}
use Rattle.history_laws.proofs.Moving.{Puts, Class, IsApart, IsFirst, GoesWith, PutsOne, class_of}

module _ (is_valid : List ℕ → Bool) (h : History) (w : Write) (object : Object) (stamp : Stamp) (lawful : IsLawful is_valid (After w h)) (is : w.object ≡ Some object) (stamped : object.stamp ≡ Some stamp) where
  carries : stamps_of w.object ≡ stamp ∷ []
  carries = ap stamps_of is ∙ ap (λ (st : Option Stamp). stamps_of (Some (record object { stamp = st }))) stamped

  not_bare : stamps_of w.object ≡ [] → ⊥
  not_bare bare = let e = carries in cc

  puts_of : Class h w → Puts h w
  puts_of (IsApart x) = absurd (not_bare x.bare)
  puts_of (IsFirst x) = absurd (not_bare x.bare)
  puts_of (GoesWith x) = absurd (not_bare x.bare)
  puts_of (PutsOne x) = x

  lands_of : Effect h w → Lands h w
  lands_of (inl x) = absurd (not_bare x.0)
  lands_of (inr x) = x

  puts : Puts h w
  puts = puts_of (class_of is_valid h w lawful)

  lands : Lands h w
  lands = lands_of (newest is_valid h w lawful)

  put : Object
  put = record { body = puts.step.body; status = status_of puts.step.made; owner = owner_of (slot h w.key).object; stamp = Some puts.stamp; seen = puts.length }

  is_put : put ≡ object
  unfolding put
  is_put = Some-same _ _ _ puts.object is

  own_stamp : puts.stamp ≡ stamp
  unfolding put
  own_stamp = let e : Some puts.stamp ≡ Some stamp = ap (λ (x : Object). x.stamp) is_put ∙ stamped in cc

  landed_stamp : lands.stamp ≡ stamp
  landed_stamp = let e = carries in let f = lands.carries in cc

  last : last_plan h (key_of stamp) ≡ Some puts.plan
  last = subst (λ (x : Stamp). last_plan h (key_of x) ≡ Some puts.plan) own_stamp puts.last

  at : slice_get puts.plan.steps stamp.step ≡ Some puts.step
  at = subst (λ (x : Stamp). slice_get puts.plan.steps x.step ≡ Some puts.step) own_stamp puts.at

  landed_plan : lands.plan ≡ puts.plan
  landed_plan = Some-same _ _ _ (subst (λ (x : Stamp). last_plan h (key_of x) ≡ Some lands.plan) landed_stamp lands.last) last

  landed_step : lands.step ≡ puts.step
  landed_step = Some-same _ _ _
      (subst (λ (p : PlanStatus). slice_get p.steps stamp.step ≡ Some lands.step) landed_plan (subst (λ (x : Stamp). slice_get lands.plan.steps x.step ≡ Some lands.step) landed_stamp lands.at))
      at

  aimed : puts.step.state ≡ Aimed (slot h w.key).version
  aimed = ap (λ (x : Step). x.state) (sym landed_step) ∙ lands.aimed

  status_is : object.status ≡ status_of puts.step.made
  unfolding put
  status_is = sym (ap (λ (x : Object). x.status) is_put)

  pub step_as_seen : slot (first_writes object.seen h) w.key ≡ slot h w.key
  unfolding put
  step_as_seen = subst (λ (x : Object). slot (first_writes x.seen h) w.key ≡ slot h w.key) is_put puts.as_seen

  pub puts_step : PutsStep h w object stamp
  unfolding put
  puts_step = record {
    by = puts.by;
    plan = puts.plan;
    step = puts.step;
    newest = last;
    number = subst (λ (x : Stamp). x.plan ≡ puts.plan.number) own_stamp puts.number;
    at = at;
    aimed = aimed;
    key = puts.key;
    body = sym (ap (λ (x : Object). x.body) is_put);
    status = status_is;
    owner = sym (ap (λ (x : Object). x.owner) is_put);
    seen = subst (λ (x : Object). x.seen ≤ position h) is_put puts.seen;
  }

  unkept : is_kept w.key (slot h w.key).object ≡ false
  unkept =
      let fit = fits is_valid h lawful.2 (key_of stamp) puts.plan stamp.step puts.step (Aimed (slot h w.key).version) (is_plan_key-key_of stamp) last at aimed in
      subst (λ (k : Key). is_kept k (slot h k).object ≡ false) (sym puts.key) (fit.1 (ap (λ (k : Key). (slot h k).version) puts.key)).1

  makes : MakesItsKind w.key puts.step.made
  makes = subst (λ (k : Key). MakesItsKind k puts.step.made) (sym puts.key) ((((sound is_valid h lawful.2).plans (key_of stamp) puts.plan (is_plan_key-key_of stamp) last).steps stamp.step puts.step at).makes)

nones : {A : Type 0} (b : Bool) → cond {A = Option A} b None None ≡ None
nones true = refl
nones false = refl

some_none : {A : Type 0} (b : Bool) (x : A) → cond {A = Option A} b None None ≡ Some x → ⊥
some_none true x is = cc
some_none false x is = cc

cond_some : {A : Type 0} (b : Bool) (x y : A) → cond (b) (Some x) None ≡ Some y → x ≡ y
cond_some true x y is = cc
cond_some false x y is = absurd (cc)

pub no_csv : (key : Key) (o : Option Object) → is_kept key o ≡ false → csv_at key o ≡ None
no_csv key None is = nones (is_csv_key key)
no_csv key (Some object) is = by_status object.status is
  where
    by_status : (st : Status) → elim st [ status.Csv x ↦ is_csv_key key | status.Subscription x ↦ is_subscription_key key | _ ↦ false ] ≡ false
        → cond {A = Option CsvStatus} (is_csv_key key) (elim st [ status.Csv x ↦ Some x | _ ↦ None ]) None ≡ None
    by_status (status.Csv x) is = ap (λ b. cond {A = Option CsvStatus} b (Some x) None) is
    by_status status.Plain is = nones (is_csv_key key)
    by_status (status.Catalog x) is = nones (is_csv_key key)
    by_status (status.Subscription x) is = nones (is_csv_key key)
    by_status (status.Deployment x) is = nones (is_csv_key key)
    by_status (status.Plan x) is = nones (is_csv_key key)
    by_status (status.Resolution x) is = nones (is_csv_key key)
    by_status (status.Strategy x) is = nones (is_csv_key key)
    by_status (status.Group x) is = nones (is_csv_key key)
    by_status (status.Claims x) is = nones (is_csv_key key)
    by_status (status.Lease x) is = nones (is_csv_key key)

pub no_subscription : (key : Key) (o : Option Object) → is_kept key o ≡ false → subscription_at key o ≡ None
no_subscription key None is = nones (is_subscription_key key)
no_subscription key (Some object) is = by_status object.status is
  where
    by_status : (st : Status) → elim st [ status.Csv x ↦ is_csv_key key | status.Subscription x ↦ is_subscription_key key | _ ↦ false ] ≡ false
        → cond {A = Option SubscriptionStatus} (is_subscription_key key) (elim st [ status.Subscription x ↦ Some x | _ ↦ None ]) None ≡ None
    by_status (status.Csv x) is = nones (is_subscription_key key)
    by_status status.Plain is = nones (is_subscription_key key)
    by_status (status.Catalog x) is = nones (is_subscription_key key)
    by_status (status.Subscription x) is = ap (λ b. cond {A = Option SubscriptionStatus} b (Some x) None) is
    by_status (status.Deployment x) is = nones (is_subscription_key key)
    by_status (status.Plan x) is = nones (is_subscription_key key)
    by_status (status.Resolution x) is = nones (is_subscription_key key)
    by_status (status.Strategy x) is = nones (is_subscription_key key)
    by_status (status.Group x) is = nones (is_subscription_key key)
    by_status (status.Claims x) is = nones (is_subscription_key key)
    by_status (status.Lease x) is = nones (is_subscription_key key)

new_csv : (key : Key) (m : Made) → MakesItsKind key m → (o : Option Object) (object : Object) → o ≡ Some object → object.status ≡ status_of m → (x : CsvStatus) → csv_at key o ≡ Some x → x.phase ≡ csv.Nothing
new_csv key m makes o object is st x at = by_made m makes (ap (λ (s : Status). csv_at key (Some (record object { status = s }))) (sym st) ∙ ap (csv_at key) (sym is) ∙ at)
  where
    by_made : (m : Made) → MakesItsKind key m → csv_at key (Some (record object { status = status_of m })) ≡ Some x → x.phase ≡ csv.Nothing
    by_made made.Plain makes at = absurd (some_none (is_csv_key key) x at)
    by_made (made.Subscription y) makes at = absurd (some_none (is_csv_key key) x at)
    by_made (made.Csv y) makes at = sym (ap (λ (z : CsvStatus). z.phase) (cond_some (is_csv_key key) y x at)) ∙ makes.1
    by_made (made.Deployment y) makes at = absurd (some_none (is_csv_key key) x at)

new_subscription : (key : Key) (m : Made) → MakesItsKind key m → (o : Option Object) (object : Object) → o ≡ Some object → object.status ≡ status_of m → (x : SubscriptionStatus) → subscription_at key o ≡ Some x → x.state ≡ sub.Nothing
new_subscription key m makes o object is st x at = by_made m makes (ap (λ (s : Status). subscription_at key (Some (record object { status = s }))) (sym st) ∙ ap (subscription_at key) (sym is) ∙ at)
  where
    by_made : (m : Made) → MakesItsKind key m → subscription_at key (Some (record object { status = status_of m })) ≡ Some x → x.state ≡ sub.Nothing
    by_made made.Plain makes at = absurd (some_none (is_subscription_key key) x at)
    by_made (made.Subscription y) makes at = sym (ap (λ (z : SubscriptionStatus). z.state) (cond_some (is_subscription_key key) y x at)) ∙ makes.1
    by_made (made.Csv y) makes at = absurd (some_none (is_subscription_key key) x at)
    by_made (made.Deployment y) makes at = absurd (some_none (is_subscription_key key) x at)

-- the phase of what was there, and none where nothing was
abbrev HasPhaseOf : CsvStatus → Option CsvStatus → Type 0
HasPhaseOf x found = elim found [ None ↦ x.phase ≡ csv.Nothing | Some y ↦ x.phase ≡ y.phase ]

abbrev HasStateOf : SubscriptionStatus → Option SubscriptionStatus → Type 0
HasStateOf x found = elim found [ None ↦ x.state ≡ sub.Nothing | Some y ↦ x.state ≡ y.state ]

phase_stays : (key : Key) (o : Option Object) → KeepsPhase key o o
phase_stays key o x there = subst (HasPhaseOf x) (sym there) refl

state_stays : (key : Key) (o : Option Object) → KeepsState key o o
state_stays key o x there = subst (HasStateOf x) (sym there) refl

module _ (is_valid : List ℕ → Bool) (h : History) (w : Write) (object : Object) (stamp : Stamp) (lawful : IsLawful is_valid (After w h)) (is : w.object ≡ Some object) (stamped : object.stamp ≡ Some stamp) where
  pub spares_csv : csv_at w.key (slot h w.key).object ≡ None
  spares_csv = no_csv w.key (slot h w.key).object (unkept is_valid h w object stamp lawful is stamped)

  pub spares_subscription : subscription_at w.key (slot h w.key).object ≡ None
  spares_subscription = no_subscription w.key (slot h w.key).object (unkept is_valid h w object stamp lawful is stamped)

  pub csv_phase : (x : CsvStatus) → csv_at w.key w.object ≡ Some x → x.phase ≡ csv.Nothing
  csv_phase x there =
      new_csv w.key (puts is_valid h w object stamp lawful is stamped).step.made (makes is_valid h w object stamp lawful is stamped) w.object object is (status_is is_valid h w object stamp lawful is stamped) x there

  pub subscription_state : (x : SubscriptionStatus) → subscription_at w.key w.object ≡ Some x → x.state ≡ sub.Nothing
  subscription_state x there =
      new_subscription w.key (puts is_valid h w object stamp lawful is stamped).step.made (makes is_valid h w object stamp lawful is stamped) w.object object is (status_is is_valid h w object stamp lawful is stamped) x there

  phase_here : KeepsPhase w.key (slot h w.key).object w.object
  phase_here x there = subst (HasPhaseOf x) (sym spares_csv) (csv_phase x there)

  state_here : KeepsState w.key (slot h w.key).object w.object
  state_here x there = subst (HasStateOf x) (sym spares_subscription) (subscription_state x there)

  pub keeps_phase : (key : Key) → KeepsPhase key (slot h key).object (slot (After w h) key).object
  keeps_phase key = elim (same_or_other w h key) [
    | inl e ↦ subst (λ (s : Slot). KeepsPhase key (slot h key).object s.object) (sym e.1) (subst (λ (k : Key). KeepsPhase k (slot h k).object w.object) e.0 phase_here)
    | inr e ↦ subst (λ (s : Slot). KeepsPhase key (slot h key).object s.object) (sym e.1) (phase_stays key (slot h key).object)
  ]

  pub keeps_state : (key : Key) → KeepsState key (slot h key).object (slot (After w h) key).object
  keeps_state key = elim (same_or_other w h key) [
    | inl e ↦ subst (λ (s : Slot). KeepsState key (slot h key).object s.object) (sym e.1) (subst (λ (k : Key). KeepsState k (slot h k).object w.object) e.0 state_here)
    | inr e ↦ subst (λ (s : Slot). KeepsState key (slot h key).object s.object) (sym e.1) (state_stays key (slot h key).object)
  ]
