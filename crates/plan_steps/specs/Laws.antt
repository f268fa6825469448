-- The installer's writes, plan by plan.
use Rattle.std.specs.Prelude.{List, Option, slice_get}
use Rattle.std.specs.List.{filter_map}
use Rattle.std.specs.Option.{option_map}
use Rattle.cluster_objects.specs.declared.keys.Key.{Key}
use Rattle.cluster_objects.specs.declared.objects.Write.{Write}
use Rattle.cluster_history.specs.Views.{View}
use Rattle.cluster_history.specs.declared.slots.Slot.{Slot}
use Rattle.lawful_history.specs.Installing.{entry_write}

-- the write of the plan that stands at a key of the view, if one of its namespace stands there and has one
abbrev pub write_at : View → Key × Slot → Option Write
write_at view entry = option_map (λ numbered. numbered.1) (slice_get (entry_write view entry.0 entry.1) 0)

-- these writes in the order of the keys
abbrev pub writes_by_key : View → List Write
writes_by_key view = filter_map (write_at view) view.slots
