-- Where the object of a body stands: its key.
use Rattle.std.specs.Prelude.{ℕ, nat_lt, ◌==◌, ◌&&◌, ◌||◌, Bool, if◌then◌else◌, List, [], length, Option, Some, None, Result, Ok, Err, codes}
use Rattle.std.specs.List.{before_first, after_first, position_or_len}
use Rattle.serde_json.specs.Data.{Data}
use Rattle.olm_base.specs.Names.{is_group, is_outside_name}
use Rattle.json_fields.specs.declared.fault.Fault.{Fault}
use Rattle.json_fields.specs.Faults.{and_then}
use Rattle.json_fields.specs.Values.{name_at, opt_name_at, text_at}
use Rattle.cluster_objects.specs.Keys.{same_text}
use Rattle.cluster_objects.specs.Kinds.{is_plan_key, is_catalog_key, is_resolution_key, is_claims_key, is_lease_key, is_strategy_key, is_group_key}
use Rattle.cluster_objects.specs.declared.keys.Key.{Key}
use Rattle.object_bodies.specs.declared.faults.ObjectFault.{ObjectFault}
use Rattle.object_bodies.specs.declared.faults.ObjectFault.TheVariants.{NoKind, Forbidden}
use Rattle.object_bodies.specs.Faults.{told, no_kind, no_name}
use Rattle.object_bodies.specs.Fields.{fields_at}

-- ---- group and kind

abbrev pub is_slash : ℕ → Bool
is_slash byte = byte == 47

abbrev pub has_slash : List ℕ → Bool
has_slash text = nat_lt (position_or_len is_slash text) (length text)

-- `apiVersion` is divided at its first slash: the group stands before it, the version behind it. Without a slash the group is empty.
abbrev pub group_part : List ℕ → List ℕ
group_part text = if has_slash text then before_first is_slash text else []

abbrev pub version_part : List ℕ → List ℕ
version_part text = if has_slash text then after_first is_slash text else text

abbrev pub group_of : List ℕ → Result (List ℕ) ObjectFault
group_of text = if is_group (group_part text) && is_outside_name (version_part text) then Ok (group_part text) else Err NoKind

abbrev pub group_at : Data → Result (List ℕ) ObjectFault
group_at value = and_then (told no_kind (text_at (codes "apiVersion") value)) group_of

abbrev pub kind_at : Data → Result (List ℕ) ObjectFault
kind_at value = told no_kind (name_at (codes "kind") value)

-- ---- the key, without its namespace

abbrev pub metadata_name : Data → Result (List ℕ) Fault
metadata_name metadata = name_at (codes "name") metadata

abbrev pub own_name : Data → Result (List ℕ) ObjectFault
own_name value = told no_name (fields_at metadata_name (codes "metadata") value)

abbrev pub bare_key : Data → Result Key ObjectFault
bare_key value =
    and_then (kind_at value) (λ kind.
    and_then (group_at value) (λ group.
    and_then (own_name value) (λ name.
    Ok (record { group = group; kind = kind; namespace = []; name = name }))))

-- the kinds that no body makes: those that are written by the controller or by an event of their own
abbrev pub is_forbidden : Key → Bool
is_forbidden key = is_plan_key key || is_catalog_key key || is_resolution_key key || is_claims_key key || is_lease_key key

-- the kinds that set something for a whole namespace
abbrev pub is_setting : Key → Bool
is_setting key = is_strategy_key key || is_group_key key

-- a user alone makes those
abbrev pub is_forbidden_in_plans : Key → Bool
is_forbidden_in_plans key = is_forbidden key || is_setting key

abbrev pub allowed_unless : (Key → Bool) → Key → Result Key ObjectFault
allowed_unless forbidden key = if forbidden key then Err (Forbidden key.kind) else Ok key

-- the key of a user's body
abbrev pub user_key : Data → Result Key ObjectFault
user_key value = and_then (bare_key value) (allowed_unless is_forbidden)

-- the key of a manifest
abbrev pub manifest_key : Data → Result Key ObjectFault
manifest_key value = and_then (bare_key value) (allowed_unless is_forbidden_in_plans)

-- ---- the namespace

-- Objects of these kinds stand in no namespace, whatever their group.
abbrev pub is_clusterwide : List ℕ → Bool
is_clusterwide kind =
    same_text kind (codes "CustomResourceDefinition") || same_text kind (codes "ClusterRole")
    || same_text kind (codes "ClusterRoleBinding") || same_text kind (codes "PriorityClass")

abbrev pub or_default : Option (List ℕ) → List ℕ
or_default None = codes "default"
or_default (Some namespace) = namespace

abbrev pub own_namespace : Data → Result (List ℕ) Fault
own_namespace metadata = and_then (opt_name_at (codes "namespace") metadata) (λ namespace. Ok (or_default namespace))

-- the namespace that the body of an object of this kind gives
abbrev pub namespace_at : List ℕ → Data → Result (List ℕ) Fault
namespace_at kind value = if is_clusterwide kind then Ok [] else fields_at own_namespace (codes "metadata") value

-- the namespace of an object of this kind, where a plan's is this one
abbrev pub plan_namespace : List ℕ → List ℕ → List ℕ
plan_namespace kind namespace = if is_clusterwide kind then [] else namespace

abbrev pub placed : Key → List ℕ → Key
placed key namespace = record key { namespace = namespace }
