-- What a resolution is that the resolver wrote.
use Rattle.std.specs.Prelude.{◌≡◌, ℕ}
use Rattle.cluster_objects.specs.Places.{resolution_key}
use Rattle.cluster_objects.specs.declared.keys.Key.{Key}
use Rattle.cluster_objects.specs.declared.resolutions.ResolutionStatus.{ResolutionStatus}
use Rattle.cluster_history.specs.History.{History}
use Rattle.cluster_history.specs.Views.{view}
use Rattle.view_basis.specs.Basis.{basis}
use Rattle.controller_rules.specs.Deciding.{IsResolutionOf}
use Rattle.role_laws.specs.Moments.{HadLength}

-- It is that of its namespace, and it has the basis and is a decision of the view that was seen at this length.
pub record IsDecided (h : History) (key : Key) (seen : ℕ) (new : ResolutionStatus) : Type 0 where
  pub place : key ≡ resolution_key key.namespace
  pub moment : HadLength h seen
  pub basis : new.basis ≡ basis (view h key.namespace seen)
  pub decision : IsResolutionOf (view h key.namespace seen) new.budget new.outcome new.certificate
