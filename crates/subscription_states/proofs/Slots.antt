-- The writes of states are those of the slots.
use Rattle.std.proofs.Common.{◌≡◌, ap}
use Rattle.std.specs.List.{filter_map, slice_get}
use Rattle.cluster_history.specs.Views.{View}
use Rattle.csv_phases.specs.Phases.{state_write, state_writes}
use Rattle.csv_phases.specs.States.{subscription_entry}
use Rattle.subscription_states.specs.Slots.{write_at}
use Rattle.subscription_states.proofs.Firsts.{pick_of_picked}

pub first_is : (view : View) → slice_get (state_writes view) 0 ≡ slice_get (filter_map (write_at view) view.slots) 0
first_is view = ap (λ ws. slice_get ws 0) (pick_of_picked (state_write view) (subscription_entry view) view.slots)
