use Rattle.std.proofs.Common.{◌≡◌, ◌++◌, ◌&&◌, ℕ, List, [], drop, take}
use Rattle.std.specs.List.{list_any}
use Rattle.fbc_types.specs.Rules as rules
use Rattle.fbc_types.specs.Texts.{same}
use Rattle.name_tables.specs.Sets.{has_owned}
use Rattle.fbc_check.proofs.bundles.repeated_bundles.Given as goal

abbrev pub invariant-bundles : goal.invariant-bundles
invariant-bundles l =
    record {
      noted : l.faults.items ++ rules.by_earlier rules.repeated_bundle (take l.blob-index l.bundles) (drop l.blob-index l.bundles) ≡ l.initial.faults.items ++ rules.by_earlier rules.repeated_bundle [] l.bundles;
      names : (owner name : List ℕ) → has_owned l.earlier owner name ≡ list_any (λ other. rules.is_bundle_of owner other && same other.name name) (take l.blob-index l.bundles);
    }
