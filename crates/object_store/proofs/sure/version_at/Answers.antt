use Rattle.std.proofs.Common.{Option, ap, ◌∙◌}
use Rattle.std.specs.Option.{unwrap_or}
use Rattle.cluster_objects.specs.Keys.{key_cmp}
use Rattle.cluster_history.specs.History.{never_written}
use Rattle.cluster_history.specs.declared.slots.Slot.{Slot}
use Rattle.object_store.proofs.sure.version_at.Goals as goal

pub returns-in-Some : goal.returns-in-Some
unfolding key_cmp
returns-in-Some c = ap (λ (x : Slot). x.version) c.slot.ensures ∙ ap (λ (o : Option Slot). (unwrap_or o never_written).version) c.in-Some.ensures.value

pub returns-in-None : goal.returns-in-None
unfolding key_cmp
returns-in-None c = ap (λ (o : Option Slot). (unwrap_or o never_written).version) c.in-None.ensures.value
