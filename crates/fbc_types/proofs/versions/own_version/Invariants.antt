use Rattle.std.proofs.Common.{◌≡◌, drop}
use Rattle.std.specs.List.{flat_map}
use Rattle.fbc_types.specs.Texts.{own_versions, versions_for}
use Rattle.fbc_types.proofs.versions.own_version.Given as goal

abbrev pub invariant-loop-property : goal.invariant-loop-property
invariant-loop-property l =
    flat_map (versions_for l.bundle.«package») (drop l.property-index l.bundle.properties) ≡ own_versions l.bundle
