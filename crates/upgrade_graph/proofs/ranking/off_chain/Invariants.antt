use Rattle.std.proofs.Common.{◌≡◌, not, map, take}
use Rattle.std.specs.Borrow.{Bor}
use Rattle.std.specs.List.{filter, list_any}
use Rattle.fbc_types.specs.Texts.{same}
use Rattle.fbc_types.specs.declared.catalog.Entry.{Entry}
use Rattle.upgrade_graph.proofs.ranking.off_chain.Given as goal

abbrev pub invariant-loop-entry : goal.invariant-loop-entry
invariant-loop-entry l =
    map (λ entry. entry.now) l.others.items
    ≡ filter (λ entry. not (list_any (λ (link : Bor Entry). same link.now.name entry.name) l.chain)) (take l.entry-index l.entries)
