-- The tips of a namespace: its CSVs that no other CSV there replaces.
use Rattle.std.specs.Prelude.{ℕ, Bool, false, ◌==◌, ◌&&◌, not, if◌then◌else◌, List, map, Option, None}
use Rattle.std.specs.List.{after_first, filter_map, find, list_any, position}
use Rattle.std.specs.Option.{option_map, option_map_or, unwrap_or}
use Rattle.semver.specs.Parse.{Parts}
use Rattle.version_ranges.specs.Versions.{release}
use Rattle.version_ranges.specs.Words.{version_of}
use Rattle.olm_base.specs.declared.gvk.Gvk.{Gvk}
use Rattle.cluster_objects.specs.Keys.{same_text}
use Rattle.cluster_objects.specs.Kinds.{csv_at}
use Rattle.cluster_objects.specs.declared.keys.Key.{Key}
use Rattle.cluster_objects.specs.declared.resolutions.Tip.{Tip}
use Rattle.cluster_objects.specs.declared.statuses.Crd.{Crd}
use Rattle.cluster_objects.specs.declared.statuses.CsvStatus.{CsvStatus}
use Rattle.cluster_history.specs.Views.{View}
use Rattle.cluster_history.specs.declared.slots.Slot.{Slot}
use Rattle.op_properties.specs.Offers.{Provided, each_once, is_of}
use Rattle.view_basis.specs.Forward.{is_forward, may_upgrade}

-- The CSV of a slot, if one of this namespace stands there.
abbrev pub csv_in : List ℕ → Key × Slot → Option CsvStatus
csv_in namespace entry = if same_text entry.0.namespace namespace then csv_at entry.0 entry.1.object else None

-- The CSV names this one in `replaces`.
abbrev pub names : List ℕ → CsvStatus → Bool
names name csv = option_map_or (same_text name) csv.replaces false

-- A CSV of another name stands in the slot, and names this one.
abbrev pub names_another : List ℕ → List ℕ → Key × Slot → Bool
names_another namespace name entry =
    not (same_text entry.0.name name) && option_map_or (names name) (csv_in namespace entry) false

-- Another CSV of the view's namespace names this one.
abbrev pub is_replaced : View → List ℕ → Bool
is_replaced view name = list_any (names_another view.namespace name) view.slots

-- The kind that a custom resource definition is of. Its group stands behind the first dot of the name; without a dot it is empty.
abbrev pub kind_of : Crd → Gvk
kind_of crd = record { group = after_first (λ byte. byte == 46) crd.name; version = crd.version; kind = crd.kind }

-- A CSV of this name as a tip, in a namespace that is forward or isn't. It has each kind of its owned definitions once, where it
-- first stands, and keeps in `succeeded` whether it may be upgraded.
abbrev pub tip_of : Bool → List ℕ → CsvStatus → Tip
tip_of forward name csv =
    record {
      name = name;
      «package» = csv.«package»;
      version = csv.version;
      kinds = each_once (map kind_of csv.owned);
      succeeded = may_upgrade forward csv;
    }

-- The tip of a slot, if one stands there.
abbrev pub tip_in : View → Key × Slot → Option Tip
tip_in view entry =
    if is_replaced view entry.0.name
    then None
    else option_map (tip_of (is_forward view) entry.0.name) (csv_in view.namespace entry)

-- The tips, in the order of the slots, which is that of their names.
abbrev pub tips : View → List Tip
tips view = filter_map (tip_in view) view.slots

-- A tip of this package.
abbrev pub is_tip_of : List ℕ → Tip → Bool
is_tip_of «package» tip = is_of «package» tip.«package»

-- The installed one of a package: its first tip.
abbrev pub installed : View → List ℕ → Option Tip
installed view «package» = find (is_tip_of «package») (tips view)

-- The place of the slot in which it stands.
abbrev pub installed_place : View → List ℕ → Option ℕ
installed_place view «package» = position (λ entry. option_map_or (is_tip_of «package») (tip_in view entry) false) view.slots

-- The version that a tip counts as, which is 0.0.0 where its text is none.
abbrev pub tip_version : Tip → Parts
tip_version tip = unwrap_or (version_of tip.version) (release 0 0 0)

-- What a tip provides.
abbrev pub tip_offer : Tip → Provided
tip_offer tip = record { «package» = tip.«package»; version = tip_version tip; kinds = tip.kinds }
