use Rattle.std.proofs.Common.{◌≡◌, ◌<◌, ◌^◌, drop}
use Rattle.std.specs.Prelude.{fold}
use Rattle.derivations.specs.Reading.{value_after, value_of}
use Rattle.derivations.proofs.reading.tokens.value_of.Given as goal

-- the digits that are left give the rest of the number
abbrev pub invariant-digits : goal.invariant-digits
invariant-digits l =
    record {
      fits : l.value < 2 ^ 32;
      rest : fold value_after l.value (drop l.digit-index l.digits) ≡ value_of l.digits;
    }
