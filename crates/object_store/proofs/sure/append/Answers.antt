use Rattle.std.proofs.Common.{List, length, ap, sym, ◌∙◌}
use Rattle.cluster_objects.specs.Keys.{key_cmp}
use Rattle.cluster_history.specs.History.{Start, empty, after_all, state}
use Rattle.cluster_history.specs.declared.slots.Slot.{Slot}
use Rattle.cluster_objects.specs.declared.objects.Write.{Write}
use Rattle.object_store.proofs.Appending.{append_state}
use Rattle.object_store.proofs.sure.append.Goals as goal

pub returns-in-Ok-clause-state : goal.returns-in-Ok-clause-state
unfolding key_cmp
returns-in-Ok-clause-state c =
    let kept : Write = record { by = c.args.write.by; expect = c.args.write.expect; key = c.in_ok-clone.field-0; object = c.in_ok-clone-2.field-0.object } in
    append_state c.args.writes.now.items kept c.args.slots.now.entries c.insert.new.self.entries c.args.write.key c.args.write.object c.in_ok-slot.slot (length c.as_slice.result.now)
    c.requires c.in_ok-clone.ensures.cases (ap (λ (s : Slot). s.object) c.in_ok-clone-2.ensures.cases) (ap length c.as_slice.ensures.value) c.in_ok-slot.ensures c.in-Ok.ensures.entries
    ∙ sym (ap (λ (xs : List Write). state (after_all (Start empty) xs)) c.in_ok-push.ensures.items)

pub returns-in-Ok-clause-before : goal.returns-in-Ok-clause-before
unfolding key_cmp
returns-in-Ok-clause-before c = c.in-Ok.ensures.old
