-- The forms of values that a catalog's fields have. `null` reads as absent.
use Rattle.std.specs.Prelude.{ℕ, ◌+◌, if◌then◌else◌, List, [], ◌∷◌, map, Option, Some, None, Result, Ok, Err, codes}
use Rattle.std.specs.Borrow.{Bor}
use Rattle.serde_json.specs.Data.{Data, null, boolean, number, string, array, object}
use Rattle.serde_json.specs.View.{view}
use Rattle.serde_json.specs.declared.value.Value.{Value}
use Rattle.base64.specs.Engines.{standard}
use Rattle.base64.specs.GeneralPurpose.{decoded_of}
use Rattle.olm_base.specs.Names.{is_group}
use Rattle.olm_base.specs.Fields.{field, as_text, as_opt_text, as_name, as_list, name_of, items_list}
use Rattle.olm_base.specs.declared.fields.FieldKind.{FieldKind}
use Rattle.olm_base.specs.declared.fields.FieldKind.TheVariants.{Missing, WrongType, BadName, Base64}
use Rattle.olm_base.specs.declared.gvk.Gvk.{Gvk}
use Rattle.json_fields.specs.declared.fault.Fault.{Fault}
use Rattle.json_fields.specs.Faults.{and_then, here, below, key_step, item_step}

-- ---- what may stand at a key

-- something stands there
abbrev pub present : Option Data → Option Data
present None = None
present (Some null) = None
present (Some (boolean b)) = Some (boolean b)
present (Some (number n)) = Some (number n)
present (Some (string s)) = Some (string s)
present (Some (array ds)) = Some (array ds)
present (Some (object ms)) = Some (object ms)

-- a required value of any type
abbrev pub required : Option Data → Result Data FieldKind
required None = Err Missing
required (Some value) = Ok value

abbrev pub as_present : Option Data → Result Data FieldKind
as_present found = required (present found)

-- an object, whose fields are read then
abbrev pub as_fields : Option Data → Result Data FieldKind
as_fields None = Err Missing
as_fields (Some null) = Err Missing
as_fields (Some (boolean b)) = Err WrongType
as_fields (Some (number n)) = Err WrongType
as_fields (Some (string s)) = Err WrongType
as_fields (Some (array ds)) = Err WrongType
as_fields (Some (object ms)) = Ok (object ms)

-- an optional list that is absent is empty; the empty text is no list
abbrev pub as_opt_list : Option Data → Result (List Data) FieldKind
as_opt_list None = Ok []
as_opt_list (Some null) = Ok []
as_opt_list (Some (boolean b)) = Err WrongType
as_opt_list (Some (number n)) = Err WrongType
as_opt_list (Some (string s)) = Err WrongType
as_opt_list (Some (array ds)) = Ok (items_list ds)
as_opt_list (Some (object ms)) = Err WrongType

abbrev pub some_name : Result (List ℕ) FieldKind → Result (Option (List ℕ)) FieldKind
some_name (Ok name) = Ok (Some name)
some_name (Err kind) = Err kind

-- in an optional field the empty text reads as absent
abbrev pub opt_name_of : List ℕ → Result (Option (List ℕ)) FieldKind
opt_name_of [] = Ok None
opt_name_of (byte ∷ bytes) = some_name (name_of (byte ∷ bytes))

abbrev pub as_opt_name : Option Data → Result (Option (List ℕ)) FieldKind
as_opt_name None = Ok None
as_opt_name (Some null) = Ok None
as_opt_name (Some (boolean b)) = Err WrongType
as_opt_name (Some (number n)) = Err WrongType
as_opt_name (Some (string s)) = opt_name_of s
as_opt_name (Some (array ds)) = Err WrongType
as_opt_name (Some (object ms)) = Err WrongType

-- a group must be there and may be empty
abbrev pub group_of : List ℕ → Result (List ℕ) FieldKind
group_of text = if is_group text then Ok text else Err BadName

abbrev pub as_group : Option Data → Result (List ℕ) FieldKind
as_group None = Err Missing
as_group (Some null) = Err Missing
as_group (Some (boolean b)) = Err WrongType
as_group (Some (number n)) = Err WrongType
as_group (Some (string s)) = group_of s
as_group (Some (array ds)) = Err WrongType
as_group (Some (object ms)) = Err WrongType

-- The bytes whose encoding by RFC 4648, section 4, with padding, the text is. There is at most one such list.
abbrev pub decoded : Option (List ℕ) → Result (List ℕ) FieldKind
decoded None = Err Base64
decoded (Some bytes) = Ok bytes

abbrev pub bytes_of : List ℕ → Result (List ℕ) FieldKind
bytes_of text = decoded (decoded_of standard text)

-- a required text that encodes bytes, so it is not empty
abbrev pub as_bytes : Option Data → Result (List ℕ) FieldKind
as_bytes found = and_then (as_text found) bytes_of

-- ---- fields of an object, with their paths

-- what stands at a key, read as a value
abbrev pub at : {T : Type 0} → (Option Data → Result T FieldKind) → List ℕ → Data → Result T Fault
at read key value = below (key_step key) (here (field read value key))

abbrev pub text_at : List ℕ → Data → Result (List ℕ) Fault
text_at = at as_text

abbrev pub opt_text_at : List ℕ → Data → Result (Option (List ℕ)) Fault
opt_text_at = at as_opt_text

abbrev pub name_at : List ℕ → Data → Result (List ℕ) Fault
name_at = at as_name

abbrev pub opt_name_at : List ℕ → Data → Result (Option (List ℕ)) Fault
opt_name_at = at as_opt_name

abbrev pub group_at : List ℕ → Data → Result (List ℕ) Fault
group_at = at as_group

abbrev pub bytes_at : List ℕ → Data → Result (List ℕ) Fault
bytes_at = at as_bytes

-- what stands at a key, read as a value that has parts of its own
abbrev pub into : {P T : Type 0} → (Option Data → Result P FieldKind) → (P → Result T Fault) → List ℕ → Data → Result T Fault
into read parts key value = below (key_step key) (and_then (here (field read value key)) parts)

-- ---- lists

-- the items of a list in order, the first one with this number
abbrev pub each_from : {T : Type 0} → ℕ → (Data → Result T Fault) → List Data → Result (List T) Fault
each_from index read [] = Ok []
each_from index read (value ∷ values) = and_then (below (item_step index) (read value)) (λ first. and_then (each_from (index + 1) read values) (λ more. Ok (first ∷ more)))

abbrev pub each : {T : Type 0} → (Data → Result T Fault) → List Data → Result (List T) Fault
each = each_from 0

abbrev pub list_at : {T : Type 0} → (Data → Result T Fault) → List ℕ → Data → Result (List T) Fault
list_at read = into as_list (each read)

abbrev pub opt_list_at : {T : Type 0} → (Data → Result T Fault) → List ℕ → Data → Result (List T) Fault
opt_list_at read = into as_opt_list (each read)

-- an item that must be an object
abbrev pub fields_of : Data → Result Data Fault
fields_of value = here (as_fields (Some value))

-- an item that must be a name
abbrev pub name_item : Data → Result (List ℕ) Fault
name_item value = here (as_name (Some value))

-- an item that must be a text that encodes bytes
abbrev pub bytes_item : Data → Result (List ℕ) Fault
bytes_item value = here (as_bytes (Some value))

-- ---- what code lends, as the data that it is

abbrev pub lent_list : Result (Bor (List Value)) FieldKind → Result (List Data) FieldKind
lent_list (Ok values) = Ok (map view values.now)
lent_list (Err kind) = Err kind

abbrev pub lent_value : Result (Bor Value) FieldKind → Result Data FieldKind
lent_value (Ok value) = Ok (view value.now)
lent_value (Err kind) = Err kind

abbrev pub lent_text : {E : Type 0} → Result (Bor (List ℕ)) E → Result (List ℕ) E
lent_text (Ok text) = Ok text.now
lent_text (Err fault) = Err fault

-- ---- a kind

abbrev pub gvk : Data → Result Gvk Fault
gvk value =
    and_then (group_at (codes "group") value) (λ group.
    and_then (name_at (codes "version") value) (λ version.
    and_then (name_at (codes "kind") value) (λ kind.
    Ok (record { group = group; version = version; kind = kind }))))
