-- What a resolution of a namespace rests on.
use Rattle.std.specs.Prelude.{ℕ, if◌then◌else◌, List, Option, None}
use Rattle.std.specs.List.{filter_map}
use Rattle.std.specs.Option.{option_map}
use Rattle.cluster_objects.specs.Keys.{same_text}
use Rattle.cluster_objects.specs.Kinds.{subscription_at}
use Rattle.cluster_objects.specs.declared.keys.Key.{Key}
use Rattle.cluster_objects.specs.declared.resolutions.Basis.{Basis}
use Rattle.cluster_objects.specs.declared.statuses.SubSpec.{SubSpec}
use Rattle.cluster_history.specs.Views.{View}
use Rattle.cluster_history.specs.declared.slots.Slot.{Slot}
use Rattle.view_basis.specs.Tips.{tips}
use Rattle.view_basis.specs.Visible.{seen_catalogs}

-- The subscription of a slot, if one of this namespace stands there: its name, and what it asks for.
abbrev pub subscription_in : List ℕ → Key × Slot → Option (List ℕ × SubSpec)
subscription_in namespace entry =
    if same_text entry.0.namespace namespace
    then option_map (λ status. (entry.0.name, status.spec)) (subscription_at entry.0 entry.1.object)
    else None

-- The subscriptions of the view's namespace, in the order of the slots, which is that of their names.
abbrev pub subscriptions : View → List (List ℕ × SubSpec)
subscriptions view = filter_map (subscription_in view.namespace) view.slots

abbrev pub basis : View → Basis
basis view = record { subscriptions = subscriptions view; tips = tips view; catalogs = seen_catalogs view }
