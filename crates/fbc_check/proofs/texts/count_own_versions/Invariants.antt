use Rattle.std.proofs.Common.{◌≡◌, ◌+◌, ◌≤◌, length, drop}
use Rattle.std.specs.List.{flat_map}
use Rattle.fbc_types.specs.Texts.{versions_for, own_versions}
use Rattle.fbc_check.proofs.texts.count_own_versions.Given as goal

abbrev pub invariant-properties : goal.invariant-properties
invariant-properties l =
    record {
      rest : l.count + length (flat_map (versions_for l.bundle.«package») (drop l.property-index l.bundle.properties)) ≡ length (own_versions l.bundle);
      bound : l.count ≤ l.property-index;
    }
