-- What one blob of a script asks for.
use Rattle.std.specs.Prelude.{ℕ, Bool, if◌then◌else◌, is_some, List, Option, Some, None, option_map, option_and_then, Result, Ok, Err, codes}
use Rattle.serde_json.specs.Data.{Data, null, boolean, number, string, array, object}
use Rattle.serde_json.specs.Find.{get, as_str}
use Rattle.cluster_objects.specs.Keys.{same_text}
use Rattle.cluster_objects.specs.declared.objects.Writer.{Writer}
use Rattle.cluster_objects.specs.declared.objects.Writer.TheVariants.{Resolver, Installer, Phases}
use Rattle.cluster_objects.specs.declared.statuses.Readiness.{Readiness}
use Rattle.cluster_objects.specs.declared.statuses.Readiness.TheVariants.{Ready, Failed}
use Rattle.olm_base.specs.Fields.{some_text}
use Rattle.olm_base.specs.declared.fields.FieldKind.{FieldKind}
use Rattle.olm_base.specs.declared.fields.FieldKind.TheVariants.{Missing, WrongType, BadName}
use Rattle.json_fields.specs.declared.fault.Fault.{Fault}
use Rattle.json_fields.specs.Faults.{and_then}
use Rattle.json_fields.specs.Values.{at, present, name_at, text_at, group_at}
use Rattle.event_script.specs.Numbers.{opt_signed_at, opt_count_at, count_at}
use Rattle.event_script.specs.declared.events.Event.{Event}
use Rattle.event_script.specs.declared.events.Event.TheVariants as event
use Rattle.event_script.specs.declared.events.Word.{Word}
use Rattle.event_script.specs.declared.events.Word.TheVariants as word

-- ---- the fields of each event, in the order in which they are read

-- the group and the namespace must be there, and each may be empty
abbrev pub delete_event : Data → Result Event Fault
delete_event blob =
    and_then (group_at (codes "group") blob) (λ group.
    and_then (name_at (codes "kind") blob) (λ kind.
    and_then (group_at (codes "namespace") blob) (λ namespace.
    and_then (name_at (codes "name") blob) (λ name.
    Ok (event.Delete group kind namespace name)))))

abbrev pub approve_event : Data → Result Event Fault
approve_event blob =
    and_then (name_at (codes "namespace") blob) (λ namespace.
    and_then (name_at (codes "name") blob) (λ name.
    Ok (event.Approve namespace name)))

abbrev pub catalog_event : Data → Result Event Fault
catalog_event blob =
    and_then (name_at (codes "namespace") blob) (λ namespace.
    and_then (name_at (codes "name") blob) (λ name.
    and_then (text_at (codes "path") blob) (λ path.
    and_then (opt_signed_at (codes "priority") blob) (λ priority.
    Ok (event.Catalog namespace name path priority)))))

-- how far an event may say that a deployment is
abbrev pub state_of : List ℕ → Result Readiness FieldKind
state_of text =
    if same_text text (codes "ready") then Ok Ready
    else (if same_text text (codes "failed") then Ok Failed
    else Err BadName)

-- a text that must be there, and is one of some words
abbrev pub as_choice : {T : Type 0} → (List ℕ → Result T FieldKind) → Option Data → Result T FieldKind
as_choice choose None = Err Missing
as_choice choose (Some null) = Err Missing
as_choice choose (Some (boolean b)) = Err WrongType
as_choice choose (Some (number n)) = Err WrongType
as_choice choose (Some (string s)) = choose s
as_choice choose (Some (array ds)) = Err WrongType
as_choice choose (Some (object ms)) = Err WrongType

abbrev pub as_state : Option Data → Result Readiness FieldKind
as_state = as_choice state_of

abbrev pub state_at : List ℕ → Data → Result Readiness Fault
state_at = at as_state

abbrev pub ready_event : Data → Result Event Fault
ready_event blob =
    and_then (name_at (codes "namespace") blob) (λ namespace.
    and_then (name_at (codes "name") blob) (λ name.
    and_then (state_at (codes "state") blob) (λ state.
    Ok (event.Ready namespace name state))))

-- the least and the greatest budget of lemmas
abbrev pub least_budget : ℕ
least_budget = 1

abbrev pub greatest_budget : ℕ
greatest_budget = 16777216

abbrev pub retry_event : Data → Result Event Fault
retry_event blob =
    and_then (name_at (codes "namespace") blob) (λ namespace.
    and_then (opt_count_at least_budget greatest_budget (codes "budget") blob) (λ budget.
    Ok (event.Retry namespace budget)))

-- the roles of workers; the user is none
abbrev pub role_of : List ℕ → Result Writer FieldKind
role_of text =
    if same_text text (codes "resolver") then Ok Resolver
    else (if same_text text (codes "installer") then Ok Installer
    else (if same_text text (codes "phases") then Ok Phases
    else Err BadName))

abbrev pub as_role : Option Data → Result Writer FieldKind
as_role = as_choice role_of

abbrev pub role_at : List ℕ → Data → Result Writer Fault
role_at = at as_role

abbrev pub worker_event : Data → Result Event Fault
worker_event blob =
    and_then (role_at (codes "role") blob) (λ role.
    and_then (name_at (codes "namespace") blob) (λ namespace.
    Ok (event.Worker role namespace)))

-- workers are numbered from 0, in 32 bits
abbrev pub greatest_worker : ℕ
greatest_worker = 4294967295

abbrev pub worker_at : Data → Result ℕ Fault
worker_at = count_at 0 greatest_worker (codes "worker")

abbrev pub look_event : Data → Result Event Fault
look_event blob = and_then (worker_at blob) (λ worker. Ok (event.Look worker))

abbrev pub act_event : Data → Result Event Fault
act_event blob = and_then (worker_at blob) (λ worker. Ok (event.Act worker))

-- the least and the greatest number of turns
abbrev pub least_turns : ℕ
least_turns = 1

abbrev pub greatest_turns : ℕ
greatest_turns = 1000000

abbrev pub settle_event : Data → Result Event Fault
settle_event blob =
    and_then (name_at (codes "namespace") blob) (λ namespace.
    and_then (opt_count_at least_turns greatest_turns (codes "turns") blob) (λ turns.
    Ok (event.Settle namespace turns)))

abbrev pub release_event : Data → Result Event Fault
release_event blob = and_then (name_at (codes "namespace") blob) (λ namespace. Ok (event.Release namespace))

-- the greatest moment, 2^62
abbrev pub greatest_now : ℕ
greatest_now = 4611686018427387904

-- the least and the greatest time to keep a lease
abbrev pub least_keep : ℕ
least_keep = 1

abbrev pub greatest_keep : ℕ
greatest_keep = 86400

abbrev pub lease_event : Data → Result Event Fault
lease_event blob =
    and_then (worker_at blob) (λ worker.
    and_then (count_at 0 greatest_now (codes "now") blob) (λ now.
    and_then (count_at least_keep greatest_keep (codes "keep") blob) (λ keep.
    Ok (event.Lease worker now keep))))

-- ---- which event a blob is

abbrev pub word_of : List ℕ → Word
word_of text =
    if same_text text (codes "delete") then word.Delete
    else (if same_text text (codes "approve") then word.Approve
    else (if same_text text (codes "catalog") then word.Catalog
    else (if same_text text (codes "ready") then word.Ready
    else (if same_text text (codes "retry") then word.Retry
    else (if same_text text (codes "worker") then word.Worker
    else (if same_text text (codes "look") then word.Look
    else (if same_text text (codes "act") then word.Act
    else (if same_text text (codes "settle") then word.Settle
    else (if same_text text (codes "restart") then word.Restart
    else (if same_text text (codes "release") then word.Release
    else (if same_text text (codes "lease") then word.Lease
    else word.Other)))))))))))

-- A blob's text field `event`: a text that isn't empty. Any other value there, `null` and the empty text among them, is no such field.
abbrev pub event_text : Data → Option (List ℕ)
event_text blob = option_and_then some_text (option_and_then as_str (get (codes "event") blob))

abbrev pub event_word : Data → Option Word
event_word blob = option_map word_of (event_text blob)

-- a `kind` that isn't `null`, of whatever type
abbrev pub has_kind : Data → Bool
has_kind blob = is_some (present (get (codes "kind") blob))
