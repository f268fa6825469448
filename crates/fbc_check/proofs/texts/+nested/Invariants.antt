use Rattle.std.proofs.Common.{◌≡◌, drop}
use Rattle.std.specs.List.{list_any}
use Rattle.fbc_types.specs.Texts.{has_bad_range}
use Rattle.fbc_check.proofs.texts.+nested.Given as goal

abbrev pub invariant-one_has_bad_range-constraints : goal.invariant-one_has_bad_range-constraints
invariant-one_has_bad_range-constraints l =
    list_any has_bad_range (drop l.constraint-index l.constraints) ≡ list_any has_bad_range l.constraints
