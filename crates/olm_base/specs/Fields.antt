-- What a field of a JSON object holds, or what is wrong with it. `null` reads as absent.
use Rattle.std.specs.Prelude.{List, [], ◌∷◌, map, ℕ, Bool, true, false, if◌then◌else◌, Option, Some, None, Result, Ok, Err}
use Rattle.serde_json.specs.Data.{Data, null, boolean, number, string, array, object, Items, no_items, item}
use Rattle.serde_json.specs.Find.{get_member}
use Rattle.serde_json.specs.View.{view}
use Rattle.serde_json.specs.declared.value.Value.{Value}
use Rattle.olm_base.specs.Names.{is_outside_name}
use Rattle.olm_base.specs.declared.fields.FieldKind.{FieldKind}
use Rattle.olm_base.specs.declared.fields.FieldKind.TheVariants.{Missing, WrongType, Empty, BadName, OneOf, Base64, Number, Memory}

-- want of memory alone is free
abbrev pub is_free : FieldKind → Bool
is_free Missing = false
is_free WrongType = false
is_free Empty = false
is_free BadName = false
is_free OneOf = false
is_free Base64 = false
is_free Number = false
is_free Memory = true

-- how a field is read, by what stands at its key; in anything but an object there are no fields
abbrev pub field : {T : Type 0} → (Option Data → Result T FieldKind) → Data → List ℕ → Result T FieldKind
field read null key = Err WrongType
field read (boolean b) key = Err WrongType
field read (number n) key = Err WrongType
field read (string s) key = Err WrongType
field read (array ds) key = Err WrongType
field read (object ms) key = read (get_member key ms)

-- a required text is not empty
abbrev pub not_empty : List ℕ → Result (List ℕ) FieldKind
not_empty [] = Err Empty
not_empty (byte ∷ bytes) = Ok (byte ∷ bytes)

abbrev pub as_text : Option Data → Result (List ℕ) FieldKind
as_text None = Err Missing
as_text (Some null) = Err Missing
as_text (Some (boolean b)) = Err WrongType
as_text (Some (number n)) = Err WrongType
as_text (Some (string s)) = not_empty s
as_text (Some (array ds)) = Err WrongType
as_text (Some (object ms)) = Err WrongType

-- a required name is a name of at most 253 bytes, so the empty text is none
abbrev pub name_of : List ℕ → Result (List ℕ) FieldKind
name_of text = if is_outside_name text then Ok text else Err BadName

abbrev pub as_name : Option Data → Result (List ℕ) FieldKind
as_name None = Err Missing
as_name (Some null) = Err Missing
as_name (Some (boolean b)) = Err WrongType
as_name (Some (number n)) = Err WrongType
as_name (Some (string s)) = name_of s
as_name (Some (array ds)) = Err WrongType
as_name (Some (object ms)) = Err WrongType

-- in an optional field the empty text reads as absent
abbrev pub some_text : List ℕ → Option (List ℕ)
some_text [] = None
some_text (byte ∷ bytes) = Some (byte ∷ bytes)

abbrev pub as_opt_text : Option Data → Result (Option (List ℕ)) FieldKind
as_opt_text None = Ok None
as_opt_text (Some null) = Ok None
as_opt_text (Some (boolean b)) = Err WrongType
as_opt_text (Some (number n)) = Err WrongType
as_opt_text (Some (string s)) = Ok (some_text s)
as_opt_text (Some (array ds)) = Err WrongType
as_opt_text (Some (object ms)) = Err WrongType

abbrev pub items_list : Items → List Data
items_list no_items = []
items_list (item d ds) = d ∷ items_list ds

abbrev pub as_list : Option Data → Result (List Data) FieldKind
as_list None = Err Missing
as_list (Some null) = Err Missing
as_list (Some (boolean b)) = Err WrongType
as_list (Some (number n)) = Err WrongType
as_list (Some (string s)) = Err WrongType
as_list (Some (array ds)) = Ok (items_list ds)
as_list (Some (object ms)) = Err WrongType

abbrev pub text_field : Data → List ℕ → Result (List ℕ) FieldKind
text_field = field as_text

abbrev pub name_field : Data → List ℕ → Result (List ℕ) FieldKind
name_field = field as_name

abbrev pub opt_text : Data → List ℕ → Result (Option (List ℕ)) FieldKind
opt_text = field as_opt_text

abbrev pub list_field : Data → List ℕ → Result (List Data) FieldKind
list_field = field as_list

-- copied items as the data that they are
abbrev pub list_view : Result (List Value) FieldKind → Result (List Data) FieldKind
list_view (Ok values) = Ok (map view values)
list_view (Err kind) = Err kind
