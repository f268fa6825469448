-- Each CatalogSource that stands somewhere after a lawful history has a valid catalog as its body.
use Rattle.std.proofs.Common.{Bool, true, false, cond, not, ◌&&◌, eqb, ◌≡◌, ◌⊎◌, List, ℕ, Option, Some, None, refl, sym, ap, ◌∙◌, inl, inr, subst}
use Rattle.std.proofs.lemmas.Bool.{and_parts}
use Rattle.std.specs.Prelude.{codes}
use Rattle.cluster_objects.specs.Keys.{same_text}
use Rattle.cluster_objects.specs.Kinds.{operators, is_catalog_key, is_plan_key, as_catalog, as_plan}
use Rattle.cluster_objects.specs.Stamps.{times}
use Rattle.cluster_history.specs.History.{History, Start, After, state, slot, slot_in, first_writes}
use Rattle.cluster_history.specs.Views.{View, view}
use Rattle.lawful_history.specs.Installing.{Move, Rest, Begin, Finish, Fail, Aim, Land, plan_write, step_write, move_write, next_move, with_step}
use Rattle.lawful_history.specs.Lawful.{HasValidCatalog, IsAllowed, Aside, Removes, Approves, Creates, Installs}
use Rattle.lawful_history.specs.Sound.{IsLawful}
use Rattle.cluster_objects.specs.declared.keys.Key.{Key}
use Rattle.cluster_objects.specs.declared.objects.Object.{Object}
use Rattle.cluster_objects.specs.declared.objects.Write.{Write}
use Rattle.cluster_objects.specs.declared.plans.Step.{Step}
use Rattle.cluster_objects.specs.declared.plans.StepState.TheVariants.{Created, Overtaken}
use Rattle.cluster_objects.specs.declared.plans.PlanStatus.{PlanStatus}
use Rattle.cluster_objects.specs.declared.statuses.CatalogStatus.{CatalogStatus}
use Rattle.cluster_history.specs.declared.slots.Slot.{Slot}
use Rattle.cluster_objects.proofs.Stamping.{same_text-true}
use Rattle.lawful_history.proofs.Law.{lawful-past, base_in_order, SeenEntry, seen_entry}
use Rattle.lawful_history.proofs.Allowing.{as_plan-status}
use Rattle.lawful_history.proofs.Older.{first_older}
use Rattle.std.specs.List.{slice_get}
use Rattle.cluster_history.specs.declared.slots.Base.{Base}
use Rattle.lawful_history.proofs.Moves.{MoveStep, next_move_of}
use Rattle.lawful_history.proofs.Slots.{same_or_other}

-- a key of plans is none of catalogs
plan_is_no_catalog : (key : Key) → is_plan_key key ≡ true → is_catalog_key key ≡ false
plan_is_no_catalog key is =
    let both = and_parts (same_text key.group operators) (same_text key.kind (codes "InstallPlan")) is in
    let kind : key.kind ≡ codes "InstallPlan" = same_text-true key.kind (codes "InstallPlan") both.1 in
    ap (λ k. same_text key.group operators && same_text k (codes "CatalogSource")) kind ∙ never (same_text key.group operators)
  where
    never : (b : Bool) → (b && same_text (codes "InstallPlan") (codes "CatalogSource")) ≡ false
    never true = refl
    never false = refl

-- where the key is of no catalogs there is nothing to say
pub elsewhere : (is_valid : List ℕ → Bool) (key : Key) (o : Option Object) → is_catalog_key key ≡ false → HasValidCatalog is_valid key o
elsewhere is_valid key o apart c is = absurd (let e : None ≡ Some c = ap (λ b. cond b (as_catalog o) None) (sym apart) ∙ is in cc)

key_in : Key → Option Write → Key
key_in key None = key
key_in key (Some w) = w.key

-- a move writes the plan's key or that of the step that it lands
move_key : (view : View) (key : Key) (version : ℕ) (object : Object) (plan : PlanStatus) (m : Move) (w : Write) → MoveStep plan m → move_write view key version object plan m ≡ Some w
    → (w.key ≡ key) ⊎ ((i : ℕ) × (s : Step) × (slice_get plan.steps i ≡ Some s) × (w.key ≡ s.key))
unfolding key_in
move_key view key version object plan Rest w step is = absurd (cc)
move_key view key version object plan Begin w step is = inl (sym (ap (key_in key) is))
move_key view key version object plan Finish w step is = inl (sym (ap (key_in key) is))
move_key view key version object plan Fail w step is = inl (sym (ap (key_in key) is))
move_key view key version object plan (Aim i s) w step is = inl (sym (ap (key_in key) is))
move_key view key version object plan (Land i s v) w step is =
    by_stamp (not (eqb (times (record { namespace = view.namespace; plan = plan.number; step = i }) (slot_in view.slots s.key).stamps) 0)) (eqb (slot_in view.slots s.key).version v) is
  where
    by_stamp : (b c : Bool) → Some (cond b (plan_write view key version object (with_step plan i s Created)) (cond c (step_write view s.key (slot_in view.slots s.key) plan.number i s) (plan_write view key version object (with_step plan i s Overtaken)))) ≡ Some w
        → (w.key ≡ key) ⊎ ((j : ℕ) × (t : Step) × (slice_get plan.steps j ≡ Some t) × (w.key ≡ t.key))
    by_stamp true c is = inl (sym (ap (key_in key) is))
    by_stamp false true is = inr (i, s, step.at, sym (ap (key_in key) is))
    by_stamp false false is = inl (sym (ap (key_in key) is))

-- the key of what is written, in a view that shows the past
written_valid : (is_valid : List ℕ → Bool) (h : History) (w : Write) → IsLawful is_valid h → IsAllowed is_valid h w → HasValidCatalog is_valid w.key w.object
written_valid is_valid h w lawful (Aside bare kind valid) = valid
written_valid is_valid h w lawful (Removes by none) = subst (λ (o : Option Object). HasValidCatalog is_valid w.key o) (sym none) (λ c is. absurd (nothing (is_catalog_key w.key) c is))
  where
    nothing : (b : Bool) (c : CatalogStatus) → cond b (as_catalog None) None ≡ Some c → ⊥
    nothing true c is = cc
    nothing false c is = cc
written_valid is_valid h w lawful (Approves by object plan kind there st is) = elsewhere is_valid w.key w.object (plan_is_no_catalog w.key kind)
written_valid is_valid h w lawful (Creates by object plan kind fresh is st unstamped made new) = elsewhere is_valid w.key w.object (plan_is_no_catalog w.key kind)
written_valid is_valid h w lawful (Installs namespace a i low le is) = elsewhere is_valid w.key w.object (by_key (move_key (view h namespace a) entry.key (slot g entry.key).version entry.object entry.plan (next_move entry.plan) w (next_move_of entry.plan) entry.write))
  where
    g : History
    g = first_writes a h

    entry : SeenEntry g (view h namespace a) w
    entry = seen_entry h w (base_in_order is_valid h lawful) namespace a i is

    by_key : (w.key ≡ entry.key) ⊎ ((j : ℕ) × (t : Step) × (slice_get entry.plan.steps j ≡ Some t) × (w.key ≡ t.key)) → is_catalog_key w.key ≡ false
    by_key (inl e) = plan_is_no_catalog w.key (ap is_plan_key e ∙ entry.kind)
    by_key (inr x) =
        let old = (lawful-past is_valid h lawful g (first_older a h)).0 in
        let last = old.there entry.key entry.plan entry.kind (ap as_plan entry.there ∙ as_plan-status entry.object entry.plan entry.status) in
        subst (λ (k : Key). is_catalog_key k ≡ false) (sym x.3) ((old.plans entry.key entry.plan entry.kind last).steps x.0 x.1 x.2).catalog

start_valid : (is_valid : List ℕ → Bool) (base : Base) → IsLawful is_valid (Start base) → (key : Key) → HasValidCatalog is_valid key (slot (Start base) key).object
unfolding slot state
start_valid is_valid base lawful key = lawful.1.catalogs key

pub catalogs : (is_valid : List ℕ → Bool) (h : History) → IsLawful is_valid h → (key : Key) → HasValidCatalog is_valid key (slot h key).object
catalogs is_valid (Start base) lawful key = start_valid is_valid base lawful key
catalogs is_valid (After w h) lawful key = elim (same_or_other w h key) [
  | inl e ↦ subst (λ (o : Option Object). HasValidCatalog is_valid key o) (sym (ap (λ (x : Slot). x.object) e.1)) (subst (λ (k : Key). HasValidCatalog is_valid k w.object) e.0 (written_valid is_valid h w lawful.2 lawful.1))
  | inr e ↦ subst (λ (o : Option Object). HasValidCatalog is_valid key o) (sym (ap (λ (x : Slot). x.object) e.1)) (catalogs is_valid h lawful.2 key)
]
