-- What the resolver writes at a resolution's key is decided in the view that it saw.
use Rattle.std.proofs.Common.{◌≡◌, Bool, List, ℕ, Option, Some, None, refl, sym, ap, ◌∙◌, subst}
use Rattle.cluster_objects.specs.Kinds.{as_resolution, resolution_at}
use Rattle.cluster_objects.specs.Places.{resolution_key}
use Rattle.cluster_objects.specs.declared.keys.Key.{Key}
use Rattle.cluster_objects.specs.declared.objects.Object.{Object}
use Rattle.cluster_objects.specs.declared.objects.Write.{Write}
use Rattle.cluster_objects.specs.declared.objects.Writer.TheVariants as writer
use Rattle.cluster_objects.specs.declared.resolutions.ResolutionStatus.{ResolutionStatus}
use Rattle.cluster_history.specs.History.{After, History, slot_in}
use Rattle.cluster_history.specs.Views.{View, view}
use Rattle.view_basis.specs.Basis.{basis}
use Rattle.lawful_history.specs.Installing.{install_key}
use Rattle.controller_rules.specs.Deciding.{IsResolutionOf}
use Rattle.controller_rules.specs.Resolving.{Decides, IsResolversWrite, Plans, current, resolution_object}
use Rattle.lawful_events.proofs.Chains.{none_is_some, some_is}
use Rattle.lawful_roles.specs.Roles.{IsKept}
use Rattle.role_laws.specs.Resolutions.{IsDecided}
use Rattle.role_laws.proofs.Kept.{By, ByResolver, OfGrant, OfInstaller, OfPhases, OfResolver, OfUser, other_writer, who_had}

-- the status of the object that is written
put_status : (v : View) (found : Option ResolutionStatus) (there : Option Object) (new : ResolutionStatus)
    → as_resolution (Some (resolution_object v found there new)) ≡ Some new
put_status v None there new = refl
put_status v (Some old) None new = refl
put_status v (Some old) (Some object) new = refl

-- the resolution at its namespace's key, of a view
pub record DecidedIn (v : View) (w : Write) (new : ResolutionStatus) : Type 0 where
  pub place : w.key ≡ resolution_key v.namespace
  pub basis : new.basis ≡ basis v
  pub decision : IsResolutionOf v new.budget new.outcome new.certificate

decided_in : (v : View) (w : Write) (new : ResolutionStatus) → resolution_at w.key w.object ≡ Some new → IsResolversWrite v w → DecidedIn v w new
unfolding install_key
decided_in v w new put (Decides rest due decision next is) =
    let there = (slot_in v.slots (resolution_key v.namespace)).object in
    let written : resolution_at w.key w.object ≡ Some decision =
    ap (λ (x : Write). resolution_at x.key x.object) is ∙ put_status v (current v) there decision in
    let same : decision ≡ new = some_is decision new (sym written ∙ put) in
    record {
      place = ap (λ (x : Write). x.key) is;
      basis = subst (λ (r : ResolutionStatus). r.basis ≡ basis v) same next.basis;
      decision = subst (λ (r : ResolutionStatus). IsResolutionOf v r.budget r.outcome r.certificate) same next.decided;
    }
decided_in v w new put (Plans rest decision stands due is) =
    absurd (none_is_some new (sym (ap (λ (x : Write). resolution_at x.key x.object) is) ∙ put))

decided_by : (h : History) (w : Write) (object : Object) (new : ResolutionStatus) → w.object ≡ Some object
    → resolution_at w.key w.object ≡ Some new → ByResolver h w → IsDecided h w.key object.seen new
decided_by h w object new puts put by =
    let v = view h by.namespace by.object.seen in
    let is : DecidedIn v w new = decided_in v w new put by.enabled in
    let own : by.namespace ≡ w.key.namespace = sym (ap (λ (k : Key). k.namespace) is.place) in
    let same : by.object ≡ object = some_is by.object object (sym by.puts ∙ puts) in
    let is_decided : IsDecided h w.key by.object.seen new =
    record {
      place = is.place ∙ ap resolution_key own;
      moment = by.moment;
      basis = subst (λ (ns : List ℕ). new.basis ≡ basis (view h ns by.object.seen)) own is.basis;
      decision =
          subst (λ (ns : List ℕ). IsResolutionOf (view h ns by.object.seen) new.budget new.outcome new.certificate) own is.decision;
    } in
    subst (λ (o : Object). IsDecided h w.key o.seen new) same is_decided

pub decided : (is_valid : List ℕ → Bool) (h : History) (w : Write) (object : Object) (new : ResolutionStatus) → IsKept is_valid (After w h)
    → w.by ≡ writer.Resolver → w.object ≡ Some object → resolution_at w.key w.object ≡ Some new → IsDecided h w.key object.seen new
decided is_valid h w object new kept resolver puts put = by_writer (who_had is_valid h w kept)
  where
    by_writer : By h w → IsDecided h w.key object.seen new
    by_writer (OfUser by event) = other_writer w writer.User writer.Resolver by resolver (λ e. cc)
    by_writer (OfGrant by grant) = other_writer w writer.User writer.Resolver by resolver (λ e. cc)
    by_writer (OfResolver by) = decided_by h w object new puts put by
    by_writer (OfInstaller by) = other_writer w writer.Installer writer.Resolver by.by resolver (λ e. cc)
    by_writer (OfPhases by) = other_writer w writer.Phases writer.Resolver by.by resolver (λ e. cc)
