use Rattle.upgrade_graph.proofs.Keyed.{set_put}
use Rattle.upgrade_graph.proofs.tables.add_name.Goals as goal

pub returns : goal.returns
returns c = set_put c.args.set.now.keys c.insert.new.self.keys c.args.name.now c.in_ok-clone.field-0 c.in_ok-clone.ensures.cases c.in_ok-insert.ensures.updates.0
