-- A number, digit by digit.
use Rattle.std.proofs.Common.{◌≡◌, ◌∙◌, ◌+◌, ◌<◌, ◌≤◌, ℕ, List, length, drop, get_or, sym, ap, Option, Some}
use Rattle.std.proofs.lemmas.List.{drop_more}
use Rattle.std.proofs.Math.ListN.{drop_of_length-le}
use Rattle.std.specs.Option.{option_and_then}
use Rattle.olm_cli.specs.Words.{number_after, with_digit}

-- the digit at a place is read before those after it
pub one_digit : (value i : ℕ) (digits : List ℕ) (answer : Option ℕ) → i < length digits → answer ≡ with_digit value (get_or digits i 0) → number_after value (drop i digits) ≡ option_and_then (λ longer. number_after longer (drop (i + 1) digits)) answer
one_digit value i digits answer h e =
    ap (number_after value) (drop_more digits i 0 h) ∙ ap (option_and_then (λ longer. number_after longer (drop (i + 1) digits))) (sym e)

pub all_read : (value i : ℕ) (digits : List ℕ) → length digits ≤ i → number_after value (drop i digits) ≡ Some value
all_read value i digits h = ap (number_after value) (drop_of_length-le digits h)
