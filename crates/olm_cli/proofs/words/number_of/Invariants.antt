use Rattle.std.proofs.Common.{◌≡◌, ◌≤◌, drop}
use Rattle.olm_cli.specs.Words as spec
use Rattle.olm_cli.proofs.words.number_of.Given as goal

-- the digits that are left give the rest of the number
abbrev pub invariant-digits : goal.invariant-digits
invariant-digits l =
    record {
      bound : l.value ≤ spec.greatest_budget;
      rest : spec.number_after l.value (drop l.digit-index l.digits) ≡ spec.number_after 0 l.digits;
    }
