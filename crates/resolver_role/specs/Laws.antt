-- What is so of the resolver's writes.
use Rattle.std.specs.Prelude.{◌≡◌, ◌≤◌, Bool, false, List, ℕ, Some}
use Rattle.cluster_objects.specs.Kinds.{resolution_at}
use Rattle.cluster_objects.specs.declared.objects.Write.{Write}
use Rattle.cluster_objects.specs.declared.resolutions.ResolutionStatus.{ResolutionStatus}
use Rattle.cluster_history.specs.History.{History, base_of, position}
use Rattle.cluster_history.specs.Views.{View, view}
use Rattle.lawful_history.specs.Lawful.{IsAllowed}
use Rattle.view_basis.specs.Basis.{basis}
use Rattle.controller_rules.specs.Deciding.{IsResolutionOf}
use Rattle.controller_rules.specs.Resolving.{HasNoWrite, IsResolversWrite, current, is_resting}

-- Each write of the resolver in a view of a history is one that the law of histories allows, however old the view is.
abbrev pub WritesAreAllowed : Type 0
WritesAreAllowed =
    (is_valid : List ℕ → Bool) (h : History) (namespace : List ℕ) (a : ℕ) (w : Write)
    → (base_of h).length ≤ a → a ≤ position h → IsResolversWrite (view h namespace a) w → IsAllowed is_valid h w

-- Where the resolver has no write and no plan is under way, the resolution that is there is of the view's basis.
abbrev pub IdleIsFresh : Type 0
IdleIsFresh =
    (view : View) → HasNoWrite view → is_resting view ≡ false
    → (found : ResolutionStatus) × (current view ≡ Some found) × (found.basis ≡ basis view)

-- A resolution that the resolver writes is of the view's basis, and is a decision for the view.
abbrev pub WrittenIsDecided : Type 0
WrittenIsDecided =
    (view : View) (w : Write) (new : ResolutionStatus) → IsResolversWrite view w
    → resolution_at w.key w.object ≡ Some new
    → (new.basis ≡ basis view) × IsResolutionOf view new.budget new.outcome new.certificate
