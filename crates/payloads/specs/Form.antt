-- How values are spelled as bytes, and what is read at the front of bytes.
use Rattle.std.specs.Prelude.{◌≡◌, ◌^◌, Bool, true, false, ◌&&◌, ℕ, zero, suc, ℤ, pos, negsuc, List, [], ◌∷◌, ◌++◌, length, take, drop, Option, Some, None, nat_lt, if◌then◌else◌, slice_get}
use Rattle.std.specs.List.{list_all, flat_map}
use Rattle.std.specs.Int.{w64, to_be_bytes, from_be_bytes, cast_unsigned, cast_signed}
use Rattle.std.specs.Str.{is_utf8}
use Rattle.olm_base.specs.Names.{is_name}

-- A form of values as bytes.
pub record Form (A : Type 0) : Type 0 where
  -- the bytes of a value
  pub spell : A → List ℕ
  -- the value that stands in front, and the bytes behind it
  pub read : List ℕ → Option (A × List ℕ)
  -- whether a value has a spelling
  pub fits : A → Bool

infixl 10 ◌>>=◌
abbrev pub ◌>>=◌ : {A B : Type 0} → Option A → (A → Option B) → Option B
None >>= f = None
(Some x) >>= f = f x

-- the bytes are the value's spelling
abbrev pub Spells : {A : Type 0} → Form A → A → List ℕ → Type 0
Spells form x bytes = (form.fits x ≡ true) × (bytes ≡ form.spell x)

-- the value that all of the bytes spell
abbrev pub alone : {A : Type 0} → A → List ℕ → Option A
alone x [] = Some x
alone x (b ∷ bytes) = None

abbrev pub whole : {A : Type 0} → Form A → List ℕ → Option A
whole form bytes = form.read bytes >>= λ x. alone x.0 x.1

-- Numbers.

-- eight bytes, the most significant first
unfoldable pub number_form : Form ℕ
number_form = record {
  spell = λ n. to_be_bytes w64 n;
  read = λ bytes. if nat_lt (length bytes) 8 then None else Some (from_be_bytes w64 (take 8 bytes), drop 8 bytes);
  fits = λ n. nat_lt n (2 ^ 64);
}

-- the values of a form that pass a test
abbrev pub passing : {A : Type 0} → (A → Bool) → Form A → Form A
passing {A} test form = record {
  spell = form.spell;
  read = λ bytes. form.read bytes >>= λ x. if test x.0 then Some x else None;
  fits = λ x. form.fits x && test x;
}

abbrev pub is_short : ℕ → Bool
is_short n = nat_lt n (2 ^ 32)

-- a number of 32 bits, which has eight bytes too
unfoldable pub short_form : Form ℕ
short_form = passing is_short number_form

-- the signed numbers of 64 bits
abbrev pub is_signed : ℤ → Bool
is_signed (pos n) = nat_lt n (2 ^ 63)
is_signed (negsuc n) = nat_lt n (2 ^ 63)

-- in two's complement
unfoldable pub signed_form : Form ℤ
signed_form = record {
  spell = λ z. number_form.spell (cast_unsigned w64 z);
  read = λ bytes. number_form.read bytes >>= λ n. Some (cast_signed w64 n.0, n.1);
  fits = is_signed;
}

-- Texts.

-- the length, and that many bytes
unfoldable pub bytes_form : Form (List ℕ)
bytes_form = record {
  spell = λ bytes. number_form.spell (length bytes) ++ bytes;
  read = λ bytes. number_form.read bytes >>= λ n. if nat_lt (length n.1) n.0 then None else Some (take n.0 n.1, drop n.0 n.1);
  fits = λ bytes. nat_lt (length bytes) (2 ^ 64);
}

unfoldable pub text_form : Form (List ℕ)
text_form = passing is_utf8 bytes_form

unfoldable pub name_form : Form (List ℕ)
name_form = passing is_name bytes_form

-- Values of several parts.

-- one value, and another behind it
infixr 20 ◌⊗◌
abbrev pub ◌⊗◌ : {A B : Type 0} → Form A → Form B → Form (A × B)
f ⊗ g = record {
  spell = λ x. f.spell x.0 ++ g.spell x.1;
  read = λ bytes. f.read bytes >>= λ a. g.read a.1 >>= λ b. Some ((a.0, b.0), b.1);
  fits = λ x. f.fits x.0 && g.fits x.1;
}

-- other values in the place of these, one for one
abbrev pub seen_as : {A B : Type 0} → Form A → (A → B) → (B → A) → Form B
seen_as form to from = record {
  spell = λ y. form.spell (from y);
  read = λ bytes. form.read bytes >>= λ x. Some (to x.0, x.1);
  fits = λ y. form.fits (from y);
}

-- so many values, one behind the other
abbrev pub read_items : {A : Type 0} → Form A → ℕ → List ℕ → Option (List A × List ℕ)
read_items form zero bytes = Some ([], bytes)
read_items form (suc n) bytes = form.read bytes >>= λ x. read_items form n x.1 >>= λ xs. Some (x.0 ∷ xs.0, xs.1)

-- the number of the values, and the values
unfoldable pub list_form : {A : Type 0} → Form A → Form (List A)
list_form form = record {
  spell = λ xs. number_form.spell (length xs) ++ flat_map form.spell xs;
  read = λ bytes. number_form.read bytes >>= λ n. read_items form n.0 n.1;
  fits = λ xs. nat_lt (length xs) (2 ^ 64) && list_all form.fits xs;
}

-- Values of several variants: a byte, the variant's number, and what the variant holds.

-- The first byte says which of these readings goes on behind it.
abbrev pub read_variant : {A : Type 0} → List (List ℕ → Option (A × List ℕ)) → List ℕ → Option (A × List ℕ)
read_variant readings [] = None
read_variant readings (number ∷ bytes) = slice_get readings number >>= λ reading. reading bytes

-- a variant that holds nothing
abbrev pub bare : {A : Type 0} → A → List ℕ → Option (A × List ℕ)
bare x bytes = Some (x, bytes)

-- a variant that holds a value of this form
abbrev pub holding : {A B : Type 0} → Form B → (B → A) → List ℕ → Option (A × List ℕ)
holding form variant bytes = form.read bytes >>= λ y. Some (variant y.0, y.1)

-- variants that hold nothing, by their numbers and in the order of these
abbrev pub read_plain : {A : Type 0} → List A → List ℕ → Option (A × List ℕ)
read_plain variants [] = None
read_plain variants (number ∷ bytes) = slice_get variants number >>= λ x. Some (x, bytes)

abbrev pub plain : {A : Type 0} → (A → ℕ) → List A → Form A
plain number variants = record {
  spell = λ x. number x ∷ [];
  read = read_plain variants;
  fits = λ x. true;
}

abbrev pub truth_number : Bool → ℕ
truth_number false = 0
truth_number true = 1

unfoldable pub truth_form : Form Bool
truth_form = plain truth_number (false ∷ true ∷ [])

-- none is 0, and some is 1 and the value
abbrev pub spell_option : {A : Type 0} → Form A → Option A → List ℕ
spell_option form None = 0 ∷ []
spell_option form (Some x) = 1 ∷ form.spell x

abbrev pub fits_option : {A : Type 0} → Form A → Option A → Bool
fits_option form None = true
fits_option form (Some x) = form.fits x

unfoldable pub option_form : {A : Type 0} → Form A → Form (Option A)
option_form {A} form = record {
  spell = spell_option form;
  read = read_variant (bare None ∷ holding form (λ x. Some x) ∷ []);
  fits = fits_option form;
}
