use Rattle.object_store.proofs.Missing.{unchanged}
use Rattle.log_store.proofs.adding.view_of.Goals as goal

pub returns-in-Ok-clause-same : goal.returns-in-Ok-clause-same
returns-in-Ok-clause-same c = unchanged c.args.store.now c.snapshot.new.self c.snapshot.ensures.limit c.snapshot.ensures.history

pub returns-in-Err-clause-same : goal.returns-in-Err-clause-same
returns-in-Err-clause-same c = unchanged c.args.store.now c.snapshot.new.self c.snapshot.ensures.limit c.snapshot.ensures.history
