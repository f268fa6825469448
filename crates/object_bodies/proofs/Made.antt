-- What is made is new at its key.
use Rattle.std.proofs.Common.{◌≡◌, ℕ, List, Bool, true, false, cond, Option, Some, None, is_some, Result, Ok, refl, sym, ap, ◌∙◌, subst, codes}
use Rattle.semver.proofs.OnLiterals.{semver_on_literals}
use Rattle.serde_json.specs.Data.{Data, null, boolean, number, string, array, object}
use Rattle.serde_json.specs.Find.{get}
use Rattle.version_ranges.specs.Words.{version_of}
use Rattle.olm_base.specs.Fields.{field}
use Rattle.json_fields.specs.declared.fault.Fault.{Fault}
use Rattle.json_fields.specs.Faults.{and_then, here, key_step}
use Rattle.json_fields.specs.Values.{opt_name_at}
use Rattle.cluster_objects.specs.Kinds.{is_subscription_key, is_csv_key, is_deployment_key, is_strategy_key, is_group_key, status_of}
use Rattle.cluster_objects.specs.declared.objects.Status.{Status}
use Rattle.cluster_objects.specs.declared.objects.Status.TheVariants as status
use Rattle.cluster_objects.specs.declared.keys.Key.{Key}
use Rattle.cluster_objects.specs.declared.statuses.CsvPhase.TheVariants as phase
use Rattle.cluster_objects.specs.declared.statuses.CsvStatus.{CsvStatus}
use Rattle.cluster_objects.specs.declared.statuses.Made.{Made}
use Rattle.cluster_objects.specs.declared.statuses.Made.TheVariants as made
use Rattle.cluster_objects.specs.declared.statuses.Readiness.TheVariants.{Waiting}
use Rattle.cluster_objects.specs.declared.statuses.SubState.TheVariants as state
use Rattle.cluster_objects.specs.declared.statuses.SubscriptionStatus.{SubscriptionStatus}
use Rattle.object_bodies.specs.Fields.{fields_at, opt_fields_at, as_opt_fields, no_version, as_version}
use Rattle.object_bodies.specs.Statuses.{subscription, sub_spec, subscription_made, csv, csv_spec, csv_made, crd_lists, install_names, made_of, strategy, group, new_strategy, new_group, new_made, new_status}
use Rattle.object_bodies.specs.Laws.{IsNewAt}
use Rattle.object_bodies.proofs.Reading.{same_ok, read_then, read_below}

-- ---- versions

no_version_is_one : is_some (version_of no_version) ≡ true
unfolding version_of semver_on_literals
no_version_is_one = refl

chosen : (b : Bool) (text : List ℕ) → is_some (version_of text) ≡ b → is_some (version_of (cond b text no_version)) ≡ true
chosen true text e = e
chosen false text e = no_version_is_one

version_is_one : (found : Option Data) → is_some (version_of (as_version found)) ≡ true
version_is_one None = no_version_is_one
version_is_one (Some null) = no_version_is_one
version_is_one (Some (boolean b)) = no_version_is_one
version_is_one (Some (number n)) = no_version_is_one
version_is_one (Some (string s)) = chosen (is_some (version_of s)) s refl
version_is_one (Some (array ds)) = no_version_is_one
version_is_one (Some (object ms)) = no_version_is_one

-- ---- statuses

pub new_subscription : (value : Data) (status : SubscriptionStatus) → subscription value ≡ Ok status → status.state ≡ state.Nothing
new_subscription value status e =
    let read = read_then (fields_at sub_spec (codes "spec") value) _ status e in
    sym (ap (λ status. status.state) (same_ok _ status read.2))

abbrev pub IsNewCsv : CsvStatus → Type 0
IsNewCsv status = (status.phase ≡ phase.Nothing) × (status.package ≡ None) × (is_some (version_of status.version) ≡ true)

new_spec : (spec : Data) (status : CsvStatus) → csv_spec spec ≡ Ok status → IsNewCsv status
new_spec spec status e =
    let crds = read_then (opt_fields_at crd_lists (codes "customresourcedefinitions") spec) _ status e in
    let deployments = read_then (opt_fields_at install_names (codes "install") spec) _ status crds.2 in
    let replaces = read_then (opt_name_at (codes "replaces") spec) _ status deployments.2 in
    subst IsNewCsv (same_ok _ status replaces.2) (refl, refl, version_is_one (get (codes "version") spec))

pub new_csv_status : (value : Data) (status : CsvStatus) → csv value ≡ Ok status → IsNewCsv status
new_csv_status value status e =
    let inside = read_below (key_step (codes "spec")) (and_then (here (field as_opt_fields value (codes "spec"))) csv_spec) status e in
    let part = read_then (here (field as_opt_fields value (codes "spec"))) csv_spec status inside in
    new_spec part.0 status part.2

-- ---- by the key

abbrev pub made_if : Bool → Bool → Bool → Data → Result Made Fault
made_if s c d value = cond s (subscription_made value) (cond c (csv_made value) (cond d (Ok (made.Deployment Waiting)) (Ok made.Plain)))

new_by : (key : Key) (value : Data) (given : Made) (s c d : Bool) → is_subscription_key key ≡ s → is_csv_key key ≡ c → is_deployment_key key ≡ d
    → is_strategy_key key ≡ false → is_group_key key ≡ false → made_if s c d value ≡ Ok given → IsNewAt key (status_of given)
new_by key value given true c d es ec ed st gr e =
    let read = read_then (subscription value) _ given e in
    subst (λ given. IsNewAt key (status_of given)) (same_ok _ given read.2) (es, new_subscription value read.0 read.1)
new_by key value given false true d es ec ed st gr e =
    let read = read_then (csv value) _ given e in
    let new = new_csv_status value read.0 read.1 in
    subst (λ given. IsNewAt key (status_of given)) (same_ok _ given read.2) (ec, new.0, new.1, new.2)
new_by key value given false false true es ec ed st gr e = subst (λ given. IsNewAt key (status_of given)) (same_ok _ given e) (ed, refl)
new_by key value given false false false es ec ed st gr e = subst (λ given. IsNewAt key (status_of given)) (same_ok _ given e) (es, ec, ed, st, gr)

pub made_is_new : (key : Key) (value : Data) (given : Made) → is_strategy_key key ≡ false → is_group_key key ≡ false → made_of key value ≡ Ok given → IsNewAt key (status_of given)
made_is_new key value given st gr e =
    new_by key value given (is_subscription_key key) (is_csv_key key) (is_deployment_key key) refl refl refl st gr e

abbrev pub status_if : Bool → Bool → Key → Data → Result Status Fault
status_if s g key value = cond s (new_strategy value) (cond g (new_group value) (new_made key value))

status_by : (key : Key) (value : Data) (given : Status) (s g : Bool) → is_strategy_key key ≡ s → is_group_key key ≡ g → status_if s g key value ≡ Ok given → IsNewAt key given
status_by key value given true g es eg e =
    let read = read_then (strategy value) _ given e in
    subst (IsNewAt key) (same_ok (status.Strategy read.0) given read.2) es
status_by key value given false true es eg e =
    let read = read_then (group value) _ given e in
    subst (IsNewAt key) (same_ok (status.Group read.0) given read.2) eg
status_by key value given false false es eg e =
    let read = read_then (made_of key value) _ given e in
    subst (IsNewAt key) (same_ok (status_of read.0) given read.2) (made_is_new key value read.0 es eg read.1)

pub status_is_new : (key : Key) (value : Data) (given : Status) → new_status key value ≡ Ok given → IsNewAt key given
status_is_new key value given e = status_by key value given (is_strategy_key key) (is_group_key key) refl refl e

-- what sets nothing for a whole namespace is what a step of a plan makes, too
pub new_as_made : (key : Key) (value : Data) → is_strategy_key key ≡ false → is_group_key key ≡ false → new_status key value ≡ new_made key value
new_as_made key value es eg = ap (λ s. status_if s (is_group_key key) key value) es ∙ ap (λ g. status_if false g key value) eg
