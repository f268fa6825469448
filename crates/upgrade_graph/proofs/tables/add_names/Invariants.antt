use Rattle.std.proofs.Common.{◌≡◌, ◌||◌, ℕ, List, take}
use Rattle.fbc_types.specs.Texts.{is_among}
use Rattle.upgrade_graph.specs.Tables.{is_in}
use Rattle.upgrade_graph.proofs.tables.add_names.Given as goal

abbrev pub invariant-loop-name : goal.invariant-loop-name
invariant-loop-name l = (other : List ℕ) → is_in l.set.keys other ≡ (is_in l.initial.set.keys other || is_among other (take l.name-index l.names))
