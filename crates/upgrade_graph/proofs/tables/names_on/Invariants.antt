use Rattle.std.proofs.Common.{◌≡◌, ℕ, List, take}
use Rattle.std.specs.Borrow.{Bor}
use Rattle.std.specs.List.{list_any}
use Rattle.fbc_types.specs.Texts.{same}
use Rattle.fbc_types.specs.declared.catalog.Entry.{Entry}
use Rattle.upgrade_graph.specs.Tables.{is_in}
use Rattle.upgrade_graph.proofs.tables.names_on.Given as goal

abbrev pub invariant-loop-link : goal.invariant-loop-link
invariant-loop-link l = (name : List ℕ) → is_in l.set.keys name ≡ list_any (λ (link : Bor Entry). same link.now.name name) (take l.link-index l.chain)
