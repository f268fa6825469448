-- `install-` and the digits of a number are a name.
use Rattle.std.proofs.Common.{◌≡◌, ◌&&◌, ◌+◌, ◌<◌, ◌≤◌, ◌%◌, ◌^◌, ℕ, Bool, true, List, [], ◌∷◌, ◌++◌, length, nat_le, codes, refl, ◌∙◌, length-append, lit≤, arith}
use Rattle.std.specs.Fmt.{decimal}
use Rattle.std.specs.List.{list_all}
use Rattle.std.proofs.lemmas.Bool.{le-leb}
use Rattle.std.proofs.lemmas.Bool.Decides.{nat_tests}
use Rattle.std.proofs.lemmas.Fmt.{decimal_by_steps, length-decimal-le}
use Rattle.std.proofs.lemmas.List.Folds.{list_all-append}
use Rattle.olm_base.specs.Names.{is_name, is_name_byte}

both : (a b : Bool) → a ≡ true → b ≡ true → (a && b) ≡ true
both a b h k = rw (h, k)

joined : (a b : List ℕ) → list_all is_name_byte a ≡ true → list_all is_name_byte b ≡ true → list_all is_name_byte (a ++ b) ≡ true
joined a b h k = list_all-append is_name_byte a b ∙ both (list_all is_name_byte a) (list_all is_name_byte b) h k

of_digit : (n : ℕ) → n < 10 → list_all is_name_byte ((48 + n) ∷ []) ≡ true
of_digit n h = grind (arith, nat_tests)

of_number : (n : ℕ) → n < 2 ^ 64 → list_all is_name_byte (decimal n) ≡ true
of_number n small = decimal_by_steps (λ m ds. list_all is_name_byte ds ≡ true)
    (λ m l. of_digit m l)
    (λ m ds l h. joined ds ((48 + m % 10) ∷ []) h (of_digit (m % 10) (omega arith)))
    n small

most_digits : (n : ℕ) → n < 2 ^ 64 → length (decimal n) ≤ 20
most_digits n small = length-decimal-le 20 n (omega arith) (omega (arith, small)) small

pub install_is_name : (n : ℕ) → n < 2 ^ 64 → is_name (codes "install-" ++ decimal n) ≡ true
install_is_name n small =
    let word = codes "install-" in
    let text = word ++ decimal n in
    let size : length text ≡ length word + length (decimal n) = length-append word (decimal n) in
    let short = most_digits n small in
    let least : 1 ≤ length text = omega (arith, size) in
    let most : length text ≤ 1100 = omega (arith, size, short) in
    both (nat_le 1 (length text) && nat_le (length text) 1100) (list_all is_name_byte text)
    (both (nat_le 1 (length text)) (nat_le (length text) 1100) (le-leb 1 (length text) least) (le-leb (length text) 1100 most))
    (joined word (decimal n) refl (of_number n small))
