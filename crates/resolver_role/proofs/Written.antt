-- What the resolver's write says of the view.
use Rattle.std.proofs.Common.{◌≡◌, Bool, true, false, Option, Some, None, refl, sym, ap, ◌∙◌, subst}
use Rattle.cluster_objects.specs.Kinds.{as_resolution, resolution_at}
use Rattle.cluster_objects.specs.declared.objects.Object.{Object}
use Rattle.cluster_objects.specs.declared.objects.Write.{Write}
use Rattle.cluster_objects.specs.declared.resolutions.ResolutionStatus.{ResolutionStatus}
use Rattle.cluster_history.specs.History.{slot_in}
use Rattle.cluster_history.specs.Views.{View}
use Rattle.cluster_objects.specs.Places.{resolution_key}
use Rattle.lawful_history.specs.Installing.{install_key}
use Rattle.view_basis.specs.Basis.{basis}
use Rattle.controller_rules.specs.Deciding.{IsResolutionOf}
use Rattle.controller_rules.specs.Resolving.{Decides, HasNoWrite, IsDone, IsNext, IsResolversWrite, Plans, Rests, current, is_resting, new_plan_write, resolution_object, resolution_write}

apart : (b : Bool) → b ≡ true → b ≡ false → ⊥
apart true h k = absurd (let bad : true ≡ false = k in cc)
apart false h k = absurd (let bad : false ≡ true = h in cc)

pub idle_is_fresh : (view : View) → HasNoWrite view → is_resting view ≡ false
    → (found : ResolutionStatus) × (current view ≡ Some found) × (found.basis ≡ basis view)
idle_is_fresh view (Rests rests) awake = absurd (apart (is_resting view) rests awake)
idle_is_fresh view (IsDone found stands done) awake = (found, stands.there, stands.basis)

-- the object of a new resolution holds it
holds : (view : View) (found : Option ResolutionStatus) (there : Option Object) (new : ResolutionStatus)
    → as_resolution (Some (resolution_object view found there new)) ≡ Some new
holds view None there new = refl
holds view (Some old) None new = refl
holds view (Some old) (Some object) new = refl

same_one : (a b : ResolutionStatus) → Some a ≡ Some b → a ≡ b
same_one a b e = ap (λ o. elim o [ None ↦ a | Some x ↦ x ]) e

none_is_some : {A : Type 0} (x : A) → ◌≡◌ {A = Option A} None (Some x) → ⊥
none_is_some x e = cc e

-- no plan's key is a resolution's
no_resolution : (view : View) (found : ResolutionStatus)
    → resolution_at (new_plan_write view found).key (new_plan_write view found).object ≡ None
unfolding install_key
no_resolution view found = refl

abbrev IsDecided : View → ResolutionStatus → Type 0
IsDecided view new = (new.basis ≡ basis view) × IsResolutionOf view new.budget new.outcome new.certificate

of_next : (view : View) (new : ResolutionStatus) → IsNext view new → IsDecided view new
of_next view new next = (next.basis, next.decided)

pub written_is_decided : (view : View) (w : Write) (new : ResolutionStatus) → IsResolversWrite view w → resolution_at w.key w.object ≡ Some new
    → IsDecided view new
written_is_decided view w new (Decides awake due made next is) at =
    let there = (slot_in view.slots (resolution_key view.namespace)).object in
    let shown : resolution_at (resolution_write view made).key (resolution_write view made).object ≡ Some new =
    subst (λ (w : Write). resolution_at w.key w.object ≡ Some new) is at in
    let same : made ≡ new = same_one made new (sym (holds view (current view) there made) ∙ shown) in
    subst (λ (new : ResolutionStatus). IsDecided view new) same (of_next view made next)
written_is_decided view w new (Plans awake found stands due is) at =
    let shown : resolution_at (new_plan_write view found).key (new_plan_write view found).object ≡ Some new =
    subst (λ (w : Write). resolution_at w.key w.object ≡ Some new) is at in
    absurd (none_is_some new (sym (no_resolution view found) ∙ shown))
