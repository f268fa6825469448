-- In which namespaces the operators of a namespace act, by its OperatorGroups.
use Rattle.std.specs.Prelude.{ℕ, if◌then◌else◌, List, [], ◌∷◌, Option, Some, None}
use Rattle.std.specs.List.{filter_map}
use Rattle.cluster_objects.specs.Keys.{same_text}
use Rattle.cluster_objects.specs.Kinds.{group_at}
use Rattle.cluster_objects.specs.declared.groups.GroupStatus.{GroupStatus}
use Rattle.cluster_objects.specs.declared.keys.Key.{Key}
use Rattle.cluster_history.specs.Views.{View}
use Rattle.cluster_history.specs.declared.slots.Slot.{Slot}
use Rattle.operator_groups.specs.declared.groups.Acts.{Acts}
use Rattle.operator_groups.specs.declared.groups.Acts.TheVariants.{Ungrouped, Several, In, Everywhere}

-- The group of a slot, if one of this namespace stands there.
abbrev pub group_in : List ℕ → Key × Slot → Option GroupStatus
group_in namespace entry = if same_text entry.0.namespace namespace then group_at entry.0 entry.1.object else None

-- The groups of the view's namespace.
abbrev pub groups : View → List GroupStatus
groups view = filter_map (group_in view.namespace) view.slots

-- One group names its targets, or none, and then it is for all namespaces.
abbrev pub acts_in : Option (List (List ℕ)) → Acts
acts_in None = Everywhere
acts_in (Some targets) = In targets

-- By how many groups there are, and by the targets of the only one.
abbrev pub acts_by : List GroupStatus → Acts
acts_by [] = Ungrouped
acts_by (group ∷ []) = acts_in group.targets
acts_by (group ∷ other ∷ groups) = Several

abbrev pub acts : View → Acts
acts view = acts_by (groups view)
