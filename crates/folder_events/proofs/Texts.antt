-- The words of faults are texts.
use Rattle.std.proofs.Common.{◌≡◌, ◌<◌, ◌≤◌, ◌+◌, ◌/◌, ◌%◌, ◌==◌, ℕ, zero, suc, Bool, true, false, cond, List, [], ◌∷◌, ◌++◌, Option, Some, None, refl, sym, subst, arith, lit<, nat_le, nat_lt}
use Rattle.std.specs.Prelude.{codes}
use Rattle.std.specs.Fmt.{decimal, digit_glyph, digits, digits_onto}
use Rattle.std.specs.List.{list_all}
use Rattle.std.specs.Str.{IsAscii, IsUtf8}
use Rattle.std.proofs.lemmas.Bool.{and_parts, leb-true}
use Rattle.std.proofs.lemmas.Str.{IsUtf8-append, IsUtf8-from_ascii, IsUtf8-nil}
use Rattle.catalog_stream.specs.declared.blobs.StreamFault.{StreamFault}
use Rattle.catalog_stream.specs.declared.blobs.StreamFault.TheVariants as stream
use Rattle.olm_base.specs.declared.fields.FieldKind.{FieldKind}
use Rattle.olm_base.specs.declared.fields.FieldKind.TheVariants as kind
use Rattle.fault_words.specs.Words.{placed, stream_words, kind_words, of_blob, field_words, split_words, unread_words}
use Rattle.fbc_types.specs.declared.fault.CheckFault.{CheckFault}
use Rattle.catalog_lines.specs.Lines.{part, rule_words}

-- words that are fixed

abbrev is_small : ℕ → Bool
is_small byte = nat_le byte 127

are_ascii : (words : List ℕ) → list_all is_small words ≡ true → IsAscii words
are_ascii [] h i = lit< tt
are_ascii (byte ∷ bytes) h zero =
    let small : byte ≤ 127 = leb-true byte 127 (and_parts (is_small byte) (list_all is_small bytes) h).0 in
    omega (arith, small)
are_ascii (byte ∷ bytes) h (suc i) = are_ascii bytes (and_parts (is_small byte) (list_all is_small bytes) h).1 i

fixed : (words : List ℕ) → list_all is_small words ≡ true → IsUtf8 words
fixed words h = IsUtf8-from_ascii words (are_ascii words h)

-- a number in decimal digits

one_is_ascii : (byte : ℕ) → byte < 128 → IsAscii (byte ∷ [])
one_is_ascii byte small zero = small
one_is_ascii byte small (suc i) = lit< tt

glyph_is_ascii : (d : ℕ) → d < 10 → digit_glyph false d < 128
glyph_is_ascii d small = by (nat_lt d 10)
  where
    by : (b : Bool) → cond b (48 + d) (87 + d) < 128
    by true = omega (arith, small)
    by false = omega (arith, small)

either : (b : Bool) (xs ys : List ℕ) → IsUtf8 xs → IsUtf8 ys → IsUtf8 (cond b xs ys)
either true xs ys one other = one
either false xs ys one other = other

digits_are_text : (k n : ℕ) (behind : List ℕ) → IsUtf8 behind → IsUtf8 (digits_onto k 10 false n behind)
digits_are_text zero n behind is = is
digits_are_text (suc k) n behind is =
    let last : n % 10 < 10 = omega arith in
    let more = IsUtf8-append (digit_glyph false (n % 10) ∷ []) behind (IsUtf8-from_ascii _ (one_is_ascii _ (glyph_is_ascii (n % 10) last))) is in
    either (n / 10 == 0) _ _ more (digits_are_text k (n / 10) _ more)

number_is_text : (n : ℕ) → IsUtf8 (decimal n)
unfolding digits
number_is_text n = digits_are_text 64 n [] IsUtf8-nil

-- the words

placed_is_text : (at : ℕ) (what : List ℕ) → IsUtf8 what → IsUtf8 (placed at what)
placed_is_text at what is =
    IsUtf8-append _ what
    (IsUtf8-append (codes "at " ++ decimal at) (codes ": ")
    (IsUtf8-append (codes "at ") (decimal at) (fixed (codes "at ") refl) (number_is_text at)) (fixed (codes ": ") refl)) is

pub stream_is_text : (fault : StreamFault) → IsUtf8 (stream_words fault)
stream_is_text (stream.NotObject at) = placed_is_text at (codes "not an object") (fixed (codes "not an object") refl)
stream_is_text (stream.TooDeep at) = placed_is_text at (codes "too deep") (fixed (codes "too deep") refl)
stream_is_text (stream.Truncated at) = placed_is_text at (codes "truncated") (fixed (codes "truncated") refl)
stream_is_text (stream.Syntax at) = placed_is_text at (codes "syntax") (fixed (codes "syntax") refl)
stream_is_text stream.Memory = fixed (codes "out of memory") refl

kind_is_text : (kind : FieldKind) → IsUtf8 (kind_words kind)
kind_is_text kind.Missing = fixed (codes "missing") refl
kind_is_text kind.WrongType = fixed (codes "wrong type") refl
kind_is_text kind.Empty = fixed (codes "empty") refl
kind_is_text kind.BadName = fixed (codes "bad name") refl
kind_is_text kind.OneOf = fixed (codes "one of") refl
kind_is_text kind.Base64 = fixed (codes "base64") refl
kind_is_text kind.Number = fixed (codes "number") refl
kind_is_text kind.Memory = fixed (codes "out of memory") refl

blob_is_text : (blob : ℕ) (what : List ℕ) → IsUtf8 what → IsUtf8 (of_blob blob what)
blob_is_text blob what is =
    IsUtf8-append _ what
    (IsUtf8-append (codes "blob " ++ decimal blob) (codes ": ")
    (IsUtf8-append (codes "blob ") (decimal blob) (fixed (codes "blob ") refl) (number_is_text blob)) (fixed (codes ": ") refl)) is

behind_blank : (front back : List ℕ) → IsUtf8 front → IsUtf8 back → IsUtf8 (front ++ codes " " ++ back)
behind_blank front back first second = IsUtf8-append (front ++ codes " ") back (IsUtf8-append front (codes " ") first (fixed (codes " ") refl)) second

pub field_is_text : (blob : ℕ) (path : List ℕ) (kind : FieldKind) → IsUtf8 path → IsUtf8 (field_words blob path kind)
field_is_text blob path kind is = blob_is_text blob _ (behind_blank path (kind_words kind) is (kind_is_text kind))

pub split_is_text : (path : List ℕ) (fault : StreamFault) → IsUtf8 path → IsUtf8 (split_words path fault)
split_is_text path fault is = behind_blank path (stream_words fault) is (stream_is_text fault)

pub unread_is_text : (path : List ℕ) → IsUtf8 path → IsUtf8 (unread_words path)
unread_is_text path is =
    IsUtf8-append (codes "file ") _ (fixed (codes "file ") refl) (IsUtf8-append path (codes " isn't read") is (fixed (codes " isn't read") refl))

part_is_text : (name : List ℕ) → IsUtf8 name → IsUtf8 (part (Some name))
part_is_text name is = IsUtf8-append (codes "/") name (fixed (codes "/") refl) is

pub part_named : (found : Option (List ℕ)) (name : List ℕ) → found ≡ Some name → IsUtf8 name → IsUtf8 (part found)
part_named found name is text = subst (λ (o : Option (List ℕ)). IsUtf8 (part o)) (sym is) (part_is_text name text)

pub no_part_is_text : IsUtf8 (part None)
no_part_is_text = IsUtf8-nil

pub rule_is_text : (fault : CheckFault) → IsUtf8 fault.«package» → IsUtf8 (part fault.channel) → IsUtf8 (part fault.item) → IsUtf8 (rule_words fault)
rule_is_text fault owner channel item =
    let number = IsUtf8-append (codes "V") (decimal fault.rule) (fixed (codes "V") refl) (number_is_text fault.rule) in
    let front = behind_blank (codes "V" ++ decimal fault.rule) fault.«package» number owner in
    IsUtf8-append _ (part fault.item) (IsUtf8-append _ (part fault.channel) front channel) item
