-- What is printed of the objects of a namespace.
use Rattle.std.specs.Prelude.{ℕ, List, [], ◌++◌, codes, Option, Some, None, if◌then◌else◌}
use Rattle.std.specs.Fmt.{decimal}
use Rattle.std.specs.List.{flat_map}
use Rattle.cluster_objects.specs.Keys.{printed, same_text}
use Rattle.cluster_objects.specs.declared.keys.Key.{Key}
use Rattle.cluster_objects.specs.declared.objects.Object.{Object}
use Rattle.cluster_history.specs.Views.{View}
use Rattle.cluster_history.specs.declared.slots.Slot.{Slot}
use Rattle.cluster_lines.specs.Words.{status_word}

-- `KEY version N WORD`, where an object is there
abbrev pub object_line : Key → ℕ → Option Object → List ℕ
object_line key version None = []
object_line key version (Some object) =
    printed key ++ codes " version " ++ decimal version ++ codes " " ++ status_word object.status ++ codes "\n"

-- the line of a slot whose key stands in the namespace
abbrev pub slot_line : List ℕ → Key × Slot → List ℕ
slot_line namespace entry =
    if same_text entry.0.namespace namespace then object_line entry.0 entry.1.version entry.1.object else []

-- A line for each object of the view's own namespace, in key order: not for those of other global namespaces, nor for what has no namespace.
abbrev pub shown : View → List ℕ
shown view = flat_map (slot_line view.namespace) view.slots
