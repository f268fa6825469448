use Rattle.std.proofs.Common.{sym, ◌∙◌}
use Rattle.upgrade_graph.proofs.Keyed.{table_put}
use Rattle.upgrade_graph.proofs.tables.add_first.Goals as goal

pub returns : goal.returns
returns g c =
    table_put c.args.table.now.entries c.args.name.now c.insert.new.self.entries c.in_ok-clone.field-0 _ c.in_ok-clone.ensures.cases (sym c.contains_key.ensures ∙ c.if-contains_key.false) c.in_ok-insert.ensures.updates.0
