-- The writes of states, slot by slot.
use Rattle.std.specs.Prelude.{Option}
use Rattle.std.specs.Option.{option_and_then}
use Rattle.cluster_objects.specs.declared.keys.Key.{Key}
use Rattle.cluster_objects.specs.declared.objects.Write.{Write}
use Rattle.cluster_history.specs.Views.{View}
use Rattle.cluster_history.specs.declared.slots.Slot.{Slot}
use Rattle.csv_phases.specs.Phases.{state_write}
use Rattle.csv_phases.specs.States.{subscription_entry}

-- The write of the state of the slot's subscription, if one stands there that has one.
abbrev pub write_at : View → Key × Slot → Option Write
write_at view entry = option_and_then (state_write view) (subscription_entry view entry)
