use Rattle.object_store.proofs.Missing.{stored}
use Rattle.object_store.proofs.mem.put_sure.Goals as goal

pub returns-clause-writes : goal.returns-clause-writes
returns-clause-writes c = stored c.args.store.now c.put.new.self c.args.write c.put.result c.put.ensures.limit c.put.ensures.puts c.put.ensures.cause
