-- Integers as fields of an object. `null` reads as absent, and the empty text is no number.
use Rattle.std.specs.Prelude.{ℕ, ℤ, List, ◌&&◌, nat_le, if◌then◌else◌, Option, Some, None, option_and_then, Result, Ok, Err}
use Rattle.serde_json.specs.Data.{Num, Data, null, boolean, number, string, array, object}
use Rattle.serde_json.specs.Find.{as_u64, as_i64}
use Rattle.olm_base.specs.declared.fields.FieldKind.{FieldKind}
use Rattle.olm_base.specs.declared.fields.FieldKind.TheVariants.{Missing, WrongType, Number}
use Rattle.json_fields.specs.declared.fault.Fault.{Fault}
use Rattle.json_fields.specs.Values.{at}

abbrev pub or_number : {T : Type 0} → Option T → Result T FieldKind
or_number None = Err Number
or_number (Some value) = Ok value

-- A number is an integer where it is written with digits alone, or with digits behind a minus sign and not as `-0`. What doesn't fit 64 bits is none.
abbrev pub signed_of : Num → Result ℤ FieldKind
signed_of n = or_number (as_i64 n)

abbrev pub within : ℕ → ℕ → ℕ → Option ℕ
within least greatest n = if nat_le least n && nat_le n greatest then Some n else None

-- an integer from `least` to `greatest`, both of them included
abbrev pub count_of : ℕ → ℕ → Num → Result ℕ FieldKind
count_of least greatest n = or_number (option_and_then (within least greatest) (as_u64 n))

abbrev pub some_number : {T : Type 0} → Result T FieldKind → Result (Option T) FieldKind
some_number (Ok value) = Ok (Some value)
some_number (Err kind) = Err kind

abbrev pub as_opt_number : {T : Type 0} → (Num → Result T FieldKind) → Option Data → Result (Option T) FieldKind
as_opt_number read None = Ok None
as_opt_number read (Some null) = Ok None
as_opt_number read (Some (boolean b)) = Err WrongType
as_opt_number read (Some (number n)) = some_number (read n)
as_opt_number read (Some (string s)) = Err WrongType
as_opt_number read (Some (array ds)) = Err WrongType
as_opt_number read (Some (object ms)) = Err WrongType

-- a number that must be there
abbrev pub as_number : {T : Type 0} → (Num → Result T FieldKind) → Option Data → Result T FieldKind
as_number read None = Err Missing
as_number read (Some null) = Err Missing
as_number read (Some (boolean b)) = Err WrongType
as_number read (Some (number n)) = read n
as_number read (Some (string s)) = Err WrongType
as_number read (Some (array ds)) = Err WrongType
as_number read (Some (object ms)) = Err WrongType

abbrev pub as_opt_signed : Option Data → Result (Option ℤ) FieldKind
as_opt_signed = as_opt_number signed_of

abbrev pub as_opt_count : ℕ → ℕ → Option Data → Result (Option ℕ) FieldKind
as_opt_count least greatest = as_opt_number (count_of least greatest)

abbrev pub as_count : ℕ → ℕ → Option Data → Result ℕ FieldKind
as_count least greatest = as_number (count_of least greatest)

abbrev pub opt_signed_at : List ℕ → Data → Result (Option ℤ) Fault
opt_signed_at = at as_opt_signed

abbrev pub opt_count_at : ℕ → ℕ → List ℕ → Data → Result (Option ℕ) Fault
opt_count_at least greatest = at (as_opt_count least greatest)

abbrev pub count_at : ℕ → ℕ → List ℕ → Data → Result ℕ Fault
count_at least greatest = at (as_count least greatest)
