-- Names are texts.
use Rattle.std.proofs.Common.{◌≡◌, ◌&&◌, ◌==◌, ◌<◌, ◌≤◌, ℕ, zero, suc, true, not, List, [], ◌∷◌, length, nat_le, lit<, arith}
use Rattle.std.specs.Bool.{IsTrue}
use Rattle.std.specs.List.{list_all}
use Rattle.std.specs.Str.{IsAscii, IsUtf8}
use Rattle.std.proofs.lemmas.Bool.{and_parts, leb-true}
use Rattle.std.proofs.lemmas.Str.{IsUtf8-from_ascii}
use Rattle.olm_base.specs.Names.{is_name, is_name_byte}

is_ascii : (byte : ℕ) → is_name_byte byte ≡ true → byte < 128
is_ascii byte h =
    let low = nat_le 0x21 byte in
    let high = nat_le byte 0x7e in
    let no_slash = not (byte == 47) in
    let no_quote = not (byte == 34) in
    let no_backslash = not (byte == 92) in
    let three = (and_parts (low && high && no_slash && no_quote) no_backslash h).0 in
    let two = (and_parts (low && high && no_slash) no_quote three).0 in
    let one = (and_parts (low && high) no_slash two).0 in
    let most : byte ≤ 126 = leb-true byte 126 (and_parts low high one).1 in
    omega (arith, most)

are_ascii : (text : List ℕ) → list_all is_name_byte text ≡ true → IsAscii text
are_ascii [] h i = lit< tt
are_ascii (byte ∷ bytes) h zero = is_ascii byte (and_parts (is_name_byte byte) (list_all is_name_byte bytes) h).0
are_ascii (byte ∷ bytes) h (suc i) = are_ascii bytes (and_parts (is_name_byte byte) (list_all is_name_byte bytes) h).1 i

pub name_is_text : (text : List ℕ) → IsTrue (is_name text) → IsUtf8 text
name_is_text text h =
    IsUtf8-from_ascii text (are_ascii text (and_parts (nat_le 1 (length text) && nat_le (length text) 1100) (list_all is_name_byte text) h).1)
