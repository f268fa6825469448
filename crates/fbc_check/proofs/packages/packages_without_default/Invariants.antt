use Rattle.std.proofs.Common.{◌≡◌, ◌++◌, drop}
use Rattle.std.specs.List.{flat_map}
use Rattle.fbc_types.specs.Rules as rules
use Rattle.fbc_check.proofs.packages.packages_without_default.Given as goal

abbrev pub invariant-packages : goal.invariant-packages
invariant-packages l =
    l.faults.items ++ flat_map (rules.no_default l.channels) (drop l.blob-index l.packages) ≡ l.initial.faults.items ++ flat_map (rules.no_default l.channels) l.packages
