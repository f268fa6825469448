-- One constraint is read by its own fields, and those in it in the same way.
use Rattle.std.proofs.Common.{◌≡◌, ◌+◌, ◌<◌, ℕ, zero, suc, List, [], ◌∷◌, Option, Some, None, Result, Ok, Err, codes, refl, ap, ◌∙◌, subst, arith}
use Rattle.serde_json.specs.Data.{Data, null, boolean, number, string, array, object, depth}
use Rattle.olm_base.specs.Fields.{field, as_list}
use Rattle.olm_base.specs.declared.fields.FieldKind.{FieldKind}
use Rattle.fbc_types.specs.declared.property.RawConstraint.{RawConstraint}
use Rattle.fbc_types.specs.declared.property.RawConstraint.TheVariants as test
use Rattle.json_fields.specs.declared.fault.Fault.{Fault}
use Rattle.fbc_read.specs.declared.constraints.Form.{Form}
use Rattle.fbc_read.specs.declared.constraints.Form.TheVariants.{Package, Kind, All, Any, Not, Cel}
use Rattle.json_fields.specs.Faults.{and_then, here, below, key_step, item_step}
use Rattle.json_fields.specs.Values.{as_fields, fields_of, opt_text_at, each_from}
use Rattle.fbc_read.specs.Constraints.{key, form_of, nested_tests, form_test, by_form, constraint_by, constraint_within, constraint}
use Rattle.fbc_read.proofs.Depths.{fields_depth, list_depth, all_depth}

-- two ways to go on that agree on what was read
pub same_then : {T U E : Type 0} (read : Result T E) (one other : T → Result U E) → ((value : T) → read ≡ Ok value → one value ≡ other value) → and_then read one ≡ and_then read other
same_then (Ok value) one other h = h value refl
same_then (Err fault) one other h = refl

here_ok : {T : Type 0} (read : Result T FieldKind) (value : T) → here read ≡ Ok value → read ≡ Ok value
here_ok (Ok found) value e = let same : found ≡ value = cc e in ap Ok same
here_ok (Err kind) value e = cc e

-- two readings agree on all that nests less deep than this
abbrev pub AgreesBelow : ℕ → (Data → Result RawConstraint Fault) → (Data → Result RawConstraint Fault) → Type 0
AgreesBelow n one other = (value : Data) → depth value < n → one value ≡ other value

same_items : (one other : Data → Result RawConstraint Fault) (index : ℕ) (items : List Data) → AgreesBelow (suc (all_depth items)) one other → each_from index one items ≡ each_from index other items
same_items one other index [] h = refl
same_items one other index (value ∷ items) h =
    ap (λ first. and_then (below (item_step index) first) (λ first. and_then (each_from (index + 1) one items) (λ more. Ok (first ∷ more)))) (h value (omega arith))
    ∙ ap (λ later. and_then (below (item_step index) (other value)) (λ first. and_then later (λ more. Ok (first ∷ more)))) (same_items one other (index + 1) items (λ d l. h d (omega (arith, l))))

same_nested : (one other : Data → Result RawConstraint Fault) (value : Data) → AgreesBelow (depth value) one other → nested_tests one value ≡ nested_tests other value
same_nested one other value h =
    ap (below (key_step (codes "constraints")))
    (same_then (here (field as_list value (codes "constraints"))) (each_from 0 one) (each_from 0 other) (λ items e.
    let deep = list_depth value (codes "constraints") items (here_ok (field as_list value (codes "constraints")) items e) in
    same_items one other 0 items (λ d l. h d (omega (arith, l, deep)))))

same_form : (one other : Data → Result RawConstraint Fault) (form : Form) (value : Data) → AgreesBelow (depth value) one other → form_test one form value ≡ form_test other form value
same_form one other Package value h = refl
same_form one other Kind value h = refl
same_form one other All value h = ap (λ tests. and_then tests (λ tests. Ok (test.All tests))) (same_nested one other value h)
same_form one other Any value h = ap (λ tests. and_then tests (λ tests. Ok (test.Any tests))) (same_nested one other value h)
same_form one other Not value h = ap (λ tests. and_then tests (λ tests. Ok (test.Not tests))) (same_nested one other value h)
same_form one other Cel value h = refl

same_by_form : (one other : Data → Result RawConstraint Fault) (value : Data) (form : Option Form) → AgreesBelow (depth value) one other → by_form one value form ≡ by_form other value form
same_by_form one other value None h = refl
same_by_form one other value (Some form) h =
    ap (below (key_step (key form)))
    (same_then (here (field as_fields value (key form))) (form_test one form) (form_test other form) (λ inner e.
    let less = fields_depth value (key form) inner (here_ok (field as_fields value (key form)) inner e) in
    same_form one other form inner (λ d l. h d (omega (arith, l, less)))))

same_fields : (value : Data) (found : Data) → fields_of value ≡ Ok found → value ≡ found
same_fields null found e = cc e
same_fields (boolean b) found e = cc e
same_fields (number n) found e = cc e
same_fields (string s) found e = cc e
same_fields (array ds) found e = cc e
same_fields (object ms) found e = cc e

-- what nests in a constraint is all that its reading asks of `nested`
pub same_constraint : (one other : Data → Result RawConstraint Fault) (value : Data) → AgreesBelow (depth value) one other → constraint_by one value ≡ constraint_by other value
same_constraint one other value h =
    same_then (fields_of value) _ _ (λ found e.
    same_then (opt_text_at (codes "failureMessage") found) _ _ (λ message f.
    same_then (here (form_of found)) _ _ (λ form g.
    same_by_form one other found form (subst (λ d. AgreesBelow (depth d) one other) (same_fields value found e) h))))

-- any number of levels that is above the depth gives the same
enough : (n m : ℕ) (value : Data) → depth value < n → depth value < m → constraint_within n value ≡ constraint_within m value
unfolding constraint_within
enough zero m value p q = absurd (omega (arith, p))
enough (suc n) zero value p q = absurd (omega (arith, q))
enough (suc n) (suc m) value p q = same_constraint (constraint_within n) (constraint_within m) value (λ d l. enough n m d (omega (arith, l, p)) (omega (arith, l, q)))

pub constraint_is : (value : Data) → constraint value ≡ constraint_by constraint value
unfolding constraint_within
constraint_is value = same_constraint (constraint_within (depth value)) constraint value (λ d l. enough (depth value) (suc (depth d)) d l (omega arith))
