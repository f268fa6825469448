-- Numbers, digit by digit.
use Rattle.std.proofs.Common.{◌≡◌, ◌+◌, ◌<◌, ◌≤◌, ℕ, List, [], ◌∷◌, length, drop, get_or, sym, ap, ◌∙◌, arith}
use Rattle.std.proofs.lemmas.List.{drop_more}
use Rattle.std.proofs.Math.ListN.{drop_of_length-le}
use Rattle.std.specs.Prelude.{fold}
use Rattle.derivations.specs.Reading.{value_after}

-- more digits give no smaller number
grows : (value : ℕ) (digits : List ℕ) → value ≤ fold value_after value digits
grows value [] = omega arith
grows value (digit ∷ digits) = omega (arith, grows (value_after value digit) digits)

-- the digit at a place is read before those after it
pub one_digit : (value i : ℕ) (digits : List ℕ) → i < length digits → fold value_after value (drop i digits) ≡ fold value_after (value_after value (get_or digits i 0)) (drop (i + 1) digits)
one_digit value i digits h = ap (fold value_after value) (drop_more digits i 0 h)

pub reached : (value all i : ℕ) (digits : List ℕ) → i < length digits → fold value_after value (drop i digits) ≡ all → value_after value (get_or digits i 0) ≤ all
reached value all i digits h e =
    let more = grows (value_after value (get_or digits i 0)) (drop (i + 1) digits) in
    rw (sym (one_digit value i digits h) ∙ e) at more

pub all_read : (value all i : ℕ) (digits : List ℕ) → length digits ≤ i → fold value_after value (drop i digits) ≡ all → value ≡ all
all_read value all i digits h e = rw (drop_of_length-le digits h) at e
