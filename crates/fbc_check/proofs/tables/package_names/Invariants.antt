use Rattle.std.proofs.Common.{◌≡◌, ℕ, List, take}
use Rattle.fbc_types.specs.Rules as rules
use Rattle.name_tables.specs.Sets.{has}
use Rattle.fbc_check.proofs.tables.package_names.Given as goal

abbrev pub invariant-packages : goal.invariant-packages
invariant-packages l = (name : List ℕ) → has l.names name ≡ rules.has_package (take l.blob-index l.packages) name
