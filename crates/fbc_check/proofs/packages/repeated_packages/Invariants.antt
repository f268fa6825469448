use Rattle.std.proofs.Common.{◌≡◌, ◌++◌, ℕ, List, [], drop, take}
use Rattle.std.specs.List.{list_any}
use Rattle.fbc_types.specs.Rules as rules
use Rattle.fbc_types.specs.Texts.{same}
use Rattle.name_tables.specs.Sets.{has}
use Rattle.fbc_check.proofs.packages.repeated_packages.Given as goal

abbrev pub invariant-packages : goal.invariant-packages
invariant-packages l =
    record {
      noted : l.faults.items ++ rules.by_earlier rules.repeated_package (take l.blob-index l.packages) (drop l.blob-index l.packages) ≡ l.initial.faults.items ++ rules.by_earlier rules.repeated_package [] l.packages;
      names : (name : List ℕ) → has l.earlier name ≡ list_any (λ other. same other.name name) (take l.blob-index l.packages);
    }
