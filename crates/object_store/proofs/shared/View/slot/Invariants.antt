use Rattle.std.proofs.Common.{◌≡◌, drop}
use Rattle.object_store.specs.Seen.{slot_seen}
use Rattle.object_store.proofs.shared.View.slot.Given as goal

abbrev pub invariant-loop-entry : goal.invariant-loop-entry
invariant-loop-entry l = slot_seen l.self.slots l.key ≡ slot_seen (drop l.entry-index l.self.slots) l.key
