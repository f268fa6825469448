use Rattle.std.proofs.Common.{refl}
use Rattle.cluster_file.specs.Writing.{history_after}
use Rattle.log_store.specs.Store.{fits}
use Rattle.log_store.proofs.Places.{has_room-no_place}
use Rattle.log_store.proofs.adding.prepared.Goals as goal

pub returns-in-Some-clause-refused : goal.returns-in-Some-clause-refused
returns-in-Some-clause-refused c = c.in-Some.ensures.refused (fits (history_after c.args.store.now.1) c.args.write.now)

pub returns-in-Ok-None-clause-refused : goal.returns-in-Ok-None-clause-refused
returns-in-Ok-None-clause-refused c =
    (c.in_default.ensures.agrees, has_room-no_place c.args.limit c.args.gate c.args.store.now.1 c.args.write.now c.requires (rw c.in-Ok-None.field-0-is at c.in-Ok-None.ensures), refl)
