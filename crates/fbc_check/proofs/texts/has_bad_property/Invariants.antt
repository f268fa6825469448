use Rattle.std.proofs.Common.{◌≡◌, drop}
use Rattle.std.specs.List.{list_any}
use Rattle.fbc_types.specs.Texts.{is_bad_property}
use Rattle.fbc_check.proofs.texts.has_bad_property.Given as goal

abbrev pub invariant-properties : goal.invariant-properties
invariant-properties l =
    list_any is_bad_property (drop l.property-index l.properties) ≡ list_any is_bad_property l.properties
