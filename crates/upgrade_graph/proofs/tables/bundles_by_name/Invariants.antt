use Rattle.std.proofs.Common.{◌≡◌, ◌&&◌, ℕ, List, take}
use Rattle.std.specs.List.{find}
use Rattle.fbc_types.specs.Rules.{is_bundle_of}
use Rattle.fbc_types.specs.Texts.{same}
use Rattle.fbc_types.specs.declared.catalog.Bundle.{Bundle}
use Rattle.upgrade_graph.specs.Tables.{under}
use Rattle.upgrade_graph.proofs.tables.bundles_by_name.Given as goal

abbrev pub invariant-loop-bundle : goal.invariant-loop-bundle
invariant-loop-bundle l =
    (name : List ℕ) → under l.table.entries name ≡ find (λ (bundle : Bundle). is_bundle_of l.owner bundle && same bundle.name name) (take l.bundle-index l.bundles)
