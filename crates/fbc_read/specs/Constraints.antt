-- A constraint: a test of a bundle, in which others may nest.
use Rattle.std.specs.Prelude.{ℕ, zero, suc, Bool, if◌then◌else◌, is_some, List, [], ◌∷◌, filter, Option, Some, None, Result, Ok, Err, codes}
use Rattle.serde_json.specs.Data.{Data, depth}
use Rattle.serde_json.specs.Find.{get}
use Rattle.olm_base.specs.declared.fields.FieldKind.{FieldKind}
use Rattle.olm_base.specs.declared.fields.FieldKind.TheVariants.{WrongType, OneOf}
use Rattle.fbc_types.specs.declared.property.RawConstraint.{RawConstraint}
use Rattle.fbc_types.specs.declared.property.RawConstraint.TheVariants as test
use Rattle.json_fields.specs.declared.fault.Fault.{Fault}
use Rattle.fbc_read.specs.declared.constraints.Form.{Form}
use Rattle.fbc_read.specs.declared.constraints.Form.TheVariants.{Package, Kind, All, Any, Not, Cel}
use Rattle.json_fields.specs.Faults.{and_then, here}
use Rattle.json_fields.specs.Values.{present, as_fields, fields_of, into, list_at, name_at, text_at, opt_text_at, gvk}

-- a field that is `null` counts as absent
abbrev pub is_present : List ℕ → Data → Bool
is_present key value = is_some (present (get key value))

-- the key of each form
abbrev pub key : Form → List ℕ
key Package = codes "package"
key Kind = codes "gvk"
key All = codes "all"
key Any = codes "any"
key Not = codes "not"
key Cel = codes "cel"

-- the forms whose fields are there
abbrev pub forms : Data → List Form
forms value = filter (λ form. is_present (key form) value) (Package ∷ Kind ∷ All ∷ Any ∷ Not ∷ Cel ∷ [])

-- a constraint has at most one form
abbrev pub sole : List Form → Result (Option Form) FieldKind
sole [] = Ok None
sole (form ∷ []) = Ok (Some form)
sole (form ∷ other ∷ forms) = Err OneOf

abbrev pub form_of : Data → Result (Option Form) FieldKind
form_of value = sole (forms value)

-- A package is named by `packageName`, or where that is absent by `name`. Where both are, `packageName` is missing.
abbrev pub package_key : Data → List ℕ
package_key value =
    if is_present (codes "packageName") value then codes "packageName"
    else (if is_present (codes "name") value then codes "name" else codes "packageName")

abbrev pub package_test : Data → Result RawConstraint Fault
package_test value =
    and_then (name_at (package_key value) value) (λ name.
    and_then (text_at (codes "versionRange") value) (λ range.
    Ok (test.Package name range)))

abbrev pub kind_test : Data → Result RawConstraint Fault
kind_test value = and_then (gvk value) (λ kind. Ok (test.Kind kind))

abbrev pub cel_test : Data → Result RawConstraint Fault
cel_test value = and_then (text_at (codes "rule") value) (λ rule. Ok (test.Cel rule))

-- the constraints that nest in one, read by `nested`
abbrev pub nested_tests : (Data → Result RawConstraint Fault) → Data → Result (List RawConstraint) Fault
nested_tests nested = list_at nested (codes "constraints")

-- what a form's value gives
abbrev pub form_test : (Data → Result RawConstraint Fault) → Form → Data → Result RawConstraint Fault
form_test nested Package value = package_test value
form_test nested Kind value = kind_test value
form_test nested All value = and_then (nested_tests nested value) (λ tests. Ok (test.All tests))
form_test nested Any value = and_then (nested_tests nested value) (λ tests. Ok (test.Any tests))
form_test nested Not value = and_then (nested_tests nested value) (λ tests. Ok (test.Not tests))
form_test nested Cel value = cel_test value

abbrev pub by_form : (Data → Result RawConstraint Fault) → Data → Option Form → Result RawConstraint Fault
by_form nested value None = Ok test.Unknown
by_form nested value (Some form) = into as_fields (form_test nested form) (key form) value

-- one constraint, those that nest in it read by `nested`
abbrev pub constraint_by : (Data → Result RawConstraint Fault) → Data → Result RawConstraint Fault
constraint_by nested value =
    and_then (fields_of value) (λ value.
    and_then (opt_text_at (codes "failureMessage") value) (λ message.
    and_then (here (form_of value)) (λ form.
    by_form nested value form)))

-- a constraint, in which others nest in at most so many levels
unfoldable pub constraint_within : ℕ → Data → Result RawConstraint Fault
constraint_within zero value = here (Err WrongType)
constraint_within (suc levels) value = constraint_by (constraint_within levels) value

-- A constraint. Those in it nest less deep than it does, so its own depth is levels enough: it is the one reading that is `constraint_by` of itself.
abbrev pub constraint : Data → Result RawConstraint Fault
constraint value = constraint_within (suc (depth value)) value
