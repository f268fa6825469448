use Rattle.std.proofs.Common.{◌≡◌, drop}
use Rattle.std.specs.List.{filter_map, slice_get}
use Rattle.std.specs.Option.{IfSome}
use Rattle.subscription_states.specs.Offers.{IsOffered}
use Rattle.subscription_states.specs.Slots.{write_at}
use Rattle.subscription_states.proofs.writes.first_in.Given as goal

abbrev pub invariant-slots : goal.invariant-slots
invariant-slots l = record {
  none : slice_get (filter_map (write_at l.view) (drop l.entry-index l.slots)) 0
      ≡ slice_get (filter_map (write_at l.view) l.slots) 0;
  known : IfSome l.known (IsOffered l.view);
}
