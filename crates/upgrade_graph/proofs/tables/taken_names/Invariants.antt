use Rattle.std.proofs.Common.{◌≡◌, ℕ, List, take}
use Rattle.std.specs.List.{list_any}
use Rattle.fbc_types.specs.Channels.{takes_over}
use Rattle.upgrade_graph.specs.Tables.{is_in}
use Rattle.upgrade_graph.proofs.tables.taken_names.Given as goal

abbrev pub invariant-loop-entry : goal.invariant-loop-entry
invariant-loop-entry l = (name : List ℕ) → is_in l.set.keys name ≡ list_any (takes_over name) (take l.entry-index l.entries)
