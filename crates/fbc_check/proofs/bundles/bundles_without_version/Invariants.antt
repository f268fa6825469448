use Rattle.std.proofs.Common.{◌≡◌, ◌++◌, drop}
use Rattle.std.specs.List.{flat_map}
use Rattle.fbc_types.specs.Rules as rules
use Rattle.fbc_check.proofs.bundles.bundles_without_version.Given as goal

abbrev pub invariant-bundles : goal.invariant-bundles
invariant-bundles l =
    l.faults.items ++ flat_map rules.not_one_version (drop l.blob-index l.bundles) ≡ l.initial.faults.items ++ flat_map rules.not_one_version l.bundles
