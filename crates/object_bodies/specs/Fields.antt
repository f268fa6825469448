-- The forms of fields that objects have beside those of any JSON object.
use Rattle.std.specs.Prelude.{ℕ, Bool, true, false, if◌then◌else◌, List, Option, Some, None, is_some, Result, Ok, Err, codes}
use Rattle.std.specs.Borrow.{Bor}
use Rattle.serde_json.specs.Data.{Data, null, boolean, number, string, array, object, no_members}
use Rattle.serde_json.specs.Find.{get}
use Rattle.serde_json.specs.View.{view}
use Rattle.serde_json.specs.declared.value.Value.{Value}
use Rattle.olm_base.specs.Fields.{as_opt_text}
use Rattle.olm_base.specs.declared.fields.FieldKind.{FieldKind}
use Rattle.olm_base.specs.declared.fields.FieldKind.TheVariants.{WrongType}
use Rattle.json_fields.specs.declared.fault.Fault.{Fault}
use Rattle.json_fields.specs.Faults.{and_then}
use Rattle.json_fields.specs.Values.{into, as_fields}
use Rattle.version_ranges.specs.Words.{version_of}
use Rattle.cluster_objects.specs.Keys.{same_text}

-- the parts of the object at a key, which must be there
abbrev pub fields_at : {T : Type 0} → (Data → Result T Fault) → List ℕ → Data → Result T Fault
fields_at parts = into as_fields parts

-- An object that is absent has no fields. The empty text is no object.
abbrev pub as_opt_fields : Option Data → Result Data FieldKind
as_opt_fields None = Ok (object no_members)
as_opt_fields (Some null) = Ok (object no_members)
as_opt_fields (Some (boolean b)) = Err WrongType
as_opt_fields (Some (number n)) = Err WrongType
as_opt_fields (Some (string s)) = Err WrongType
as_opt_fields (Some (array ds)) = Err WrongType
as_opt_fields (Some (object ms)) = Ok (object ms)

-- an object that code lends, and where it lends none, the one without fields
abbrev pub lent_fields : Result (Option (Bor Value)) FieldKind → Result Data FieldKind
lent_fields (Ok None) = Ok (object no_members)
lent_fields (Ok (Some value)) = Ok (view value.now)
lent_fields (Err kind) = Err kind

-- the parts of the object at a key, which may be absent
abbrev pub opt_fields_at : {T : Type 0} → (Data → Result T Fault) → List ℕ → Data → Result T Fault
opt_fields_at parts = into as_opt_fields parts

-- whether a plan waits for an approval: one of two words, and not where there is none
abbrev pub approval_of : Option (List ℕ) → Result Bool FieldKind
approval_of None = Ok false
approval_of (Some word) =
    if same_text word (codes "Manual") then Ok true else (if same_text word (codes "Automatic") then Ok false else Err WrongType)

abbrev pub as_approval : Option Data → Result Bool FieldKind
as_approval found = and_then (as_opt_text found) approval_of

-- whether upgrades may leave a version that failed: one of two words, and not where there is none
abbrev pub forward_of : Option (List ℕ) → Result Bool FieldKind
forward_of None = Ok false
forward_of (Some word) =
    if same_text word (codes "TechPreviewUnsafeFailForward") then Ok true
    else if same_text word (codes "Default") then Ok false
    else Err WrongType

abbrev pub as_forward : Option Data → Result Bool FieldKind
as_forward found = and_then (as_opt_text found) forward_of

-- what must not be there
abbrev pub as_absent : Option Data → Result (Unit {0}) FieldKind
as_absent None = Ok tt
as_absent (Some null) = Ok tt
as_absent (Some (boolean b)) = Err WrongType
as_absent (Some (number n)) = Err WrongType
as_absent (Some (string s)) = Err WrongType
as_absent (Some (array ds)) = Err WrongType
as_absent (Some (object ms)) = Err WrongType

-- where no version is given
abbrev pub no_version : List ℕ
no_version = codes "0.0.0"

-- the text where it is a version of Semantic Versioning 2.0.0
abbrev pub version_text : List ℕ → List ℕ
version_text text = if is_some (version_of text) then text else no_version

-- A value that is no version is passed over, and none is at fault.
abbrev pub as_version : Option Data → List ℕ
as_version None = no_version
as_version (Some null) = no_version
as_version (Some (boolean b)) = no_version
as_version (Some (number n)) = no_version
as_version (Some (string s)) = version_text s
as_version (Some (array ds)) = no_version
as_version (Some (object ms)) = no_version

abbrev pub version_at : Data → List ℕ
version_at value = as_version (get (codes "version") value)
