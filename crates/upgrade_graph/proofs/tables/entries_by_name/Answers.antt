use Rattle.std.proofs.Common.{◌∙◌}
use Rattle.fbc_types.specs.Texts.{same}
use Rattle.fbc_types.specs.declared.catalog.Entry.{Entry}
use Rattle.upgrade_graph.specs.Tables.{under}
use Rattle.upgrade_graph.proofs.Keyed.{find_more}
use Rattle.upgrade_graph.proofs.tables.entries_by_name.Goals as goal

pub loop-entry-preserved : goal.loop-entry-preserved
loop-entry-preserved c = λ name.
    c.in_ok-add_first.ensures name
    ∙ find_more (λ (entry : Entry). same entry.name name) c.args.entries.now c.loop-entry.entry-index c.entry-item.result (under c.loop-entry.table.entries name) c.loop-entry-test.true c.entry-item.is (c.loop-entry.invariant name)
