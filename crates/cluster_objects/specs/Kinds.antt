-- The kinds of objects that the rules speak of, and when an object counts as one of them.
use Rattle.std.specs.Prelude.{Bool, List, ℕ, Option, Some, None, ◌&&◌, codes, if◌then◌else◌}
use Rattle.cluster_objects.specs.Keys.{same_text}
use Rattle.cluster_objects.specs.declared.keys.Key.{Key}
use Rattle.cluster_objects.specs.declared.objects.Object.{Object}
use Rattle.cluster_objects.specs.declared.objects.Status.{Status}
use Rattle.cluster_objects.specs.declared.objects.Status.TheVariants as status
use Rattle.cluster_objects.specs.declared.statuses.CatalogStatus.{CatalogStatus}
use Rattle.cluster_objects.specs.declared.statuses.SubscriptionStatus.{SubscriptionStatus}
use Rattle.cluster_objects.specs.declared.statuses.CsvStatus.{CsvStatus}
use Rattle.cluster_objects.specs.declared.statuses.Readiness.{Readiness}
use Rattle.cluster_objects.specs.declared.statuses.Made.{Made}
use Rattle.cluster_objects.specs.declared.statuses.Made.TheVariants as made
use Rattle.cluster_objects.specs.declared.plans.PlanStatus.{PlanStatus}
use Rattle.cluster_objects.specs.declared.resolutions.ResolutionStatus.{ResolutionStatus}
use Rattle.cluster_objects.specs.declared.groups.StrategyStatus.{StrategyStatus}
use Rattle.cluster_objects.specs.declared.groups.GroupStatus.{GroupStatus}
use Rattle.cluster_objects.specs.declared.groups.ClaimsStatus.{ClaimsStatus}
use Rattle.cluster_objects.specs.declared.groups.LeaseStatus.{LeaseStatus}

abbrev pub operators : List ℕ
operators = codes "operators.coreos.com"

-- the group of the kinds that are this project's own
abbrev pub local : List ℕ
local = codes "olmctl.local"

-- a key of this group and kind
abbrev pub has_kind : List ℕ → List ℕ → Key → Bool
has_kind group kind key = same_text key.group group && same_text key.kind kind

abbrev pub is_catalog_key : Key → Bool
is_catalog_key key = has_kind operators (codes "CatalogSource") key

abbrev pub is_subscription_key : Key → Bool
is_subscription_key key = has_kind operators (codes "Subscription") key

abbrev pub is_csv_key : Key → Bool
is_csv_key key = has_kind operators (codes "ClusterServiceVersion") key

abbrev pub is_plan_key : Key → Bool
is_plan_key key = has_kind operators (codes "InstallPlan") key

abbrev pub is_deployment_key : Key → Bool
is_deployment_key key = has_kind (codes "apps") (codes "Deployment") key

abbrev pub is_crd_key : Key → Bool
is_crd_key key = has_kind (codes "apiextensions.k8s.io") (codes "CustomResourceDefinition") key

abbrev pub is_resolution_key : Key → Bool
is_resolution_key key = has_kind local (codes "Resolution") key

abbrev pub is_strategy_key : Key → Bool
is_strategy_key key = has_kind local (codes "Strategy") key

abbrev pub is_group_key : Key → Bool
is_group_key key = has_kind operators (codes "OperatorGroup") key

abbrev pub is_claims_key : Key → Bool
is_claims_key key = has_kind local (codes "Claims") key

abbrev pub is_lease_key : Key → Bool
is_lease_key key = has_kind local (codes "Lease") key

-- The status of what stands at a key, if it is of this variant, whatever the key.
abbrev pub as_catalog : Option Object → Option CatalogStatus
as_catalog None = None
as_catalog (Some object) = elim object.status [ status.Catalog x ↦ Some x | _ ↦ None ]

abbrev pub as_subscription : Option Object → Option SubscriptionStatus
as_subscription None = None
as_subscription (Some object) = elim object.status [ status.Subscription x ↦ Some x | _ ↦ None ]

abbrev pub as_csv : Option Object → Option CsvStatus
as_csv None = None
as_csv (Some object) = elim object.status [ status.Csv x ↦ Some x | _ ↦ None ]

abbrev pub as_deployment : Option Object → Option Readiness
as_deployment None = None
as_deployment (Some object) = elim object.status [ status.Deployment x ↦ Some x | _ ↦ None ]

abbrev pub as_plan : Option Object → Option PlanStatus
as_plan None = None
as_plan (Some object) = elim object.status [ status.Plan x ↦ Some x | _ ↦ None ]

abbrev pub as_resolution : Option Object → Option ResolutionStatus
as_resolution None = None
as_resolution (Some object) = elim object.status [ status.Resolution x ↦ Some x | _ ↦ None ]

abbrev pub as_strategy : Option Object → Option StrategyStatus
as_strategy None = None
as_strategy (Some object) = elim object.status [ status.Strategy x ↦ Some x | _ ↦ None ]

abbrev pub as_group : Option Object → Option GroupStatus
as_group None = None
as_group (Some object) = elim object.status [ status.Group x ↦ Some x | _ ↦ None ]

abbrev pub as_claims : Option Object → Option ClaimsStatus
as_claims None = None
as_claims (Some object) = elim object.status [ status.Claims x ↦ Some x | _ ↦ None ]

abbrev pub as_lease : Option Object → Option LeaseStatus
as_lease None = None
as_lease (Some object) = elim object.status [ status.Lease x ↦ Some x | _ ↦ None ]

-- An object counts as one of its kind only where its key is of that kind and its status is of that variant.
abbrev pub catalog_at : Key → Option Object → Option CatalogStatus
catalog_at key object = if is_catalog_key key then as_catalog object else None

abbrev pub subscription_at : Key → Option Object → Option SubscriptionStatus
subscription_at key object = if is_subscription_key key then as_subscription object else None

abbrev pub csv_at : Key → Option Object → Option CsvStatus
csv_at key object = if is_csv_key key then as_csv object else None

abbrev pub deployment_at : Key → Option Object → Option Readiness
deployment_at key object = if is_deployment_key key then as_deployment object else None

abbrev pub plan_at : Key → Option Object → Option PlanStatus
plan_at key object = if is_plan_key key then as_plan object else None

abbrev pub resolution_at : Key → Option Object → Option ResolutionStatus
resolution_at key object = if is_resolution_key key then as_resolution object else None

abbrev pub strategy_at : Key → Option Object → Option StrategyStatus
strategy_at key object = if is_strategy_key key then as_strategy object else None

abbrev pub group_at : Key → Option Object → Option GroupStatus
group_at key object = if is_group_key key then as_group object else None

abbrev pub claims_at : Key → Option Object → Option ClaimsStatus
claims_at key object = if is_claims_key key then as_claims object else None

abbrev pub lease_at : Key → Option Object → Option LeaseStatus
lease_at key object = if is_lease_key key then as_lease object else None

-- the status that a step's object gets
abbrev pub status_of : Made → Status
status_of made.Plain = status.Plain
status_of (made.Subscription x) = status.Subscription x
status_of (made.Csv x) = status.Csv x
status_of (made.Deployment x) = status.Deployment x
