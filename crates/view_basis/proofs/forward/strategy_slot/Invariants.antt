use Rattle.std.proofs.Common.{◌≡◌, drop}
use Rattle.cluster_objects.specs.Places.{strategy_key}
use Rattle.object_store.specs.Seen.{slot_seen}
use Rattle.view_basis.proofs.forward.strategy_slot.Given as goal

abbrev pub invariant-loop-entry : goal.invariant-loop-entry
invariant-loop-entry l =
    slot_seen l.view.slots (strategy_key l.view.namespace) ≡ slot_seen (drop l.entry-index l.view.slots) (strategy_key l.view.namespace)
