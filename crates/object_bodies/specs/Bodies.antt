-- What a whole body gives.
use Rattle.std.specs.Prelude.{ℕ, nat_le, if◌then◌else◌, List, length, Result, Ok, Err}
use Rattle.std.specs.Option.{ok_or}
use Rattle.serde_json.specs.Data.{Data}
use Rattle.serde_json.specs.View.{view}
use Rattle.serde_json.specs.declared.value.Value.{Value}
use Rattle.catalog_stream.specs.Stream.{object_of}
use Rattle.json_fields.specs.declared.fault.Fault.{Fault}
use Rattle.json_fields.specs.Faults.{and_then}
use Rattle.cluster_objects.specs.declared.keys.Key.{Key}
use Rattle.cluster_objects.specs.declared.objects.Status.{Status}
use Rattle.cluster_objects.specs.declared.statuses.Made.{Made}
use Rattle.object_bodies.specs.declared.faults.ObjectFault.{ObjectFault}
use Rattle.object_bodies.specs.declared.faults.ObjectFault.TheVariants.{TooLarge, NotJson}
use Rattle.object_bodies.specs.Faults.{told, bad_field}
use Rattle.object_bodies.specs.Heads.{user_key, manifest_key, namespace_at, plan_namespace, placed}
use Rattle.object_bodies.specs.Statuses.{made_of, new_status}

-- the most bytes of a body
abbrev pub object_limit : ℕ
object_limit = 4194304

-- the JSON object that a body is
abbrev pub value_of : List ℕ → Result Data ObjectFault
value_of body = if nat_le (length body) object_limit then ok_or (object_of body) NotJson else Err (TooLarge (length body))

-- a value that code read, as the data that it is
abbrev pub value_view : Result Value ObjectFault → Result Data ObjectFault
value_view (Ok value) = Ok (view value)
value_view (Err fault) = Err fault

-- ---- a user's body

-- what is read behind the key: the namespace, and then the status
abbrev pub user_parts : Key → Data → Result (Key × Status) Fault
user_parts key value =
    and_then (namespace_at key.kind value) (λ namespace.
    and_then (new_status key value) (λ status.
    Ok (placed key namespace, status)))

abbrev pub user_value : Data → Result (Key × Status) ObjectFault
user_value value = and_then (user_key value) (λ key. told bad_field (user_parts key value))

abbrev pub user_object : List ℕ → Result (Key × Status) ObjectFault
user_object body = and_then (value_of body) user_value

-- ---- a manifest of a plan

-- its namespace is the plan's, and no other one is read
abbrev pub plan_parts : List ℕ → Key → Data → Result (Key × Made) Fault
plan_parts namespace key value = and_then (made_of key value) (λ made. Ok (placed key (plan_namespace key.kind namespace), made))

abbrev pub plan_value : List ℕ → Data → Result (Key × Made) ObjectFault
plan_value namespace value = and_then (manifest_key value) (λ key. told bad_field (plan_parts namespace key value))

abbrev pub plan_object : List ℕ → List ℕ → Result (Key × Made) ObjectFault
plan_object namespace body = and_then (value_of body) (plan_value namespace)
