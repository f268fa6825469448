use Rattle.std.proofs.Common.{◌≡◌, Bor}
use Rattle.std.specs.List.{filter}
use Rattle.std.specs.Prelude.{map}
use Rattle.cluster_history.specs.Views.{is_visible}
use Rattle.cluster_objects.specs.declared.keys.Key.{Key}
use Rattle.cluster_history.specs.declared.slots.Slot.{Slot}
use Rattle.object_store.proofs.sure.seen.Given as goal

abbrev pub invariant-loop-key : goal.invariant-loop-key
invariant-loop-key l = l.entries.items ≡ filter (λ (e : Key × Slot). is_visible l.namespace e.0) (map (λ (e : Bor Key × Bor Slot). (e.0.now, e.1.now)) l.yielded)
