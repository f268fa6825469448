-- What holds of every object that is read.
use Rattle.std.specs.Prelude.{◌≡◌, ℕ, ◌==◌, Bool, true, false, MatchBool, is_some, if◌then◌else◌, List, length, None, Ok, Err}
use Rattle.olm_base.specs.Names.{is_name}
use Rattle.version_ranges.specs.Words.{version_of}
use Rattle.cluster_objects.specs.Kinds.{is_subscription_key, is_csv_key, is_deployment_key, is_strategy_key, is_group_key, status_of}
use Rattle.cluster_objects.specs.declared.keys.Key.{Key}
use Rattle.cluster_objects.specs.declared.objects.Status.{Status}
use Rattle.cluster_objects.specs.declared.objects.Status.TheVariants.{Plain, Catalog, Subscription, Csv, Deployment, Plan, Resolution, Strategy, Group, Claims, Lease}
use Rattle.cluster_objects.specs.declared.statuses.CsvPhase.TheVariants as phase
use Rattle.cluster_objects.specs.declared.statuses.Made.{Made}
use Rattle.cluster_objects.specs.declared.statuses.Readiness.TheVariants.{Waiting}
use Rattle.cluster_objects.specs.declared.statuses.SubState.TheVariants as state
use Rattle.object_bodies.specs.declared.faults.ObjectFault.TheVariants.{Forbidden}
use Rattle.object_bodies.specs.Heads.{is_forbidden, is_forbidden_in_plans, is_setting, is_clusterwide, plan_namespace, placed}
use Rattle.object_bodies.specs.Bodies.{user_object, plan_object}

-- The status is what a new object at this key has. No install plan, resolution, catalog, claims or lease is read.
abbrev pub IsNewAt : Key → Status → Type 0
IsNewAt key Plain =
    (is_subscription_key key ≡ false) × (is_csv_key key ≡ false) × (is_deployment_key key ≡ false)
    × (is_strategy_key key ≡ false) × (is_group_key key ≡ false)
IsNewAt key (Catalog x) = ⊥
IsNewAt key (Subscription x) = (is_subscription_key key ≡ true) × (x.state ≡ state.Nothing)
IsNewAt key (Csv x) = (is_csv_key key ≡ true) × (x.phase ≡ phase.Nothing) × (x.package ≡ None) × (is_some (version_of x.version) ≡ true)
IsNewAt key (Deployment x) = (is_deployment_key key ≡ true) × (x ≡ Waiting)
IsNewAt key (Plan x) = ⊥
IsNewAt key (Resolution x) = ⊥
IsNewAt key (Strategy x) = is_strategy_key key ≡ true
IsNewAt key (Group x) = is_group_key key ≡ true
IsNewAt key (Claims x) = ⊥
IsNewAt key (Lease x) = ⊥

-- An object counts as one of its kind, and as new.
abbrev pub AreNew : List ℕ → Type 0
AreNew body = (found : Key × Status) → user_object body ≡ Ok found → (is_forbidden found.0 ≡ false) × IsNewAt found.0 found.1

-- A namespace in which an object of this kind may stand: a name, or nothing where the kind has none.
abbrev pub may_stand_in : List ℕ → List ℕ → Bool
may_stand_in kind namespace = if is_clusterwide kind then length namespace == 0 else is_name namespace

abbrev pub AreNamed : List ℕ → Type 0
AreNamed body = (found : Key × Status) → user_object body ≡ Ok found → may_stand_in found.0.kind found.0.namespace ≡ true

-- A plan gives the same object, but in its own namespace.
abbrev pub IsCarried : List ℕ → List ℕ → Key × Status → Type 0
IsCarried namespace body found =
    (made : Made) × (plan_object namespace body ≡ Ok (placed found.0 (plan_namespace found.0.kind namespace), made)) × (status_of made ≡ found.1)

-- What a user may give, a plan may carry, but for what is set for a whole namespace: that is forbidden there.
abbrev pub AreCarried : List ℕ → List ℕ → Type 0
AreCarried namespace body =
    (found : Key × Status) → user_object body ≡ Ok found
    → MatchBool (is_setting found.0) (plan_object namespace body ≡ Err (Forbidden found.0.kind)) (IsCarried namespace body found)

-- And what a plan carries is new at its key, too.
abbrev pub AreMadeNew : List ℕ → List ℕ → Type 0
AreMadeNew namespace body =
    (found : Key × Made) → plan_object namespace body ≡ Ok found → (is_forbidden_in_plans found.0 ≡ false) × IsNewAt found.0 (status_of found.1)
