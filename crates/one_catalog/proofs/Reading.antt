-- The catalog of a body, as a view reads it and as an event takes it.
use Rattle.std.proofs.Common.{◌≡◌, ◌≤◌, ◌↔◌, Bool, true, false, cond, ℕ, List, [], ◌∷◌, Option, Some, None, Result, Ok, Err, length, nat_le, refl, sym, ap, ◌∙◌, subst}
use Rattle.std.proofs.lemmas.Bool.{leb-true, le-leb}
use Rattle.std.specs.Option.{option_and_then, is_some}
use Rattle.std.specs.Result.{result_ok}
use Rattle.json_fields.specs.Faults.{and_then}
use Rattle.catalog_stream.specs.Stream.{blobs}
use Rattle.fbc_types.specs.Rules.{broken}
use Rattle.fbc_types.specs.declared.catalog.Catalog.{Catalog}
use Rattle.fbc_types.specs.declared.fault.CheckFault.{CheckFault}
use Rattle.fbc_check.specs.Checking.{by_faults, checked}
use Rattle.fbc_read.specs.Blobs.{nothing}
use Rattle.fbc_read.specs.Bodies.{input_limit}
use Rattle.fbc_read.specs.Catalogs.{Read, reading}
use Rattle.fbc_read.specs.declared.reading.ReadFault.{ReadFault}
use Rattle.folder_events.specs.Catalogs.{or_refusal, unless_broken, valid_text}
use Rattle.folder_events.specs.Laws.{IsValid}
use Rattle.view_basis.specs.Bodies.{catalog_of, valid_catalog}
use Rattle.one_catalog.specs.Catalogs.{IsCatalogOf, is_valid_catalog}

-- what was read, and breaks no rule
abbrev pub Held : Result Read ReadFault → Catalog → Type 0
Held read catalog = (found : Read) × (read ≡ Ok found) × (broken found.catalog ≡ []) × (found.catalog ≡ catalog)

held_faults : (found : Read) (faults : List CheckFault) (catalog : Catalog) → broken found.catalog ≡ faults → result_ok (by_faults found.catalog faults) ≡ Some catalog → Held (Ok found) catalog
held_faults found [] catalog is h = (found, refl, is, (let same : found.catalog ≡ catalog = cc in same))
held_faults found (fault ∷ faults) catalog is h = absurd (let bad : None ≡ Some catalog = h in cc)

held : (read : Result Read ReadFault) (catalog : Catalog) → option_and_then (λ x. result_ok (checked x.catalog)) (result_ok read) ≡ Some catalog → Held read catalog
held (Ok found) catalog h = held_faults found (broken found.catalog) catalog refl h
held (Err fault) catalog h = absurd (let bad : None ≡ Some catalog = h in cc)

within_limit : (body : List ℕ) (b : Bool) (catalog : Catalog) → cond b (catalog_of body) None ≡ Some catalog → (b ≡ true) × (catalog_of body ≡ Some catalog)
within_limit body true catalog h = (refl, h)
within_limit body false catalog h = absurd (let bad : None ≡ Some catalog = h in cc)

pub of_view : (body : List ℕ) (catalog : Catalog) → valid_catalog body ≡ Some catalog → IsCatalogOf body catalog
unfolding valid_catalog
of_view body catalog h =
    let parts = within_limit body (nat_le (length body) input_limit) catalog h in
    let found = held (reading nothing 0 (blobs body)) catalog parts.1 in
    (record { within = leb-true (length body) input_limit parts.0; read = found.0; is_read = found.1; breaks_none = found.2 }, found.3)

pub of_event : (body : List ℕ) (valid : IsValid body) → valid_catalog body ≡ Some valid.read.catalog
unfolding valid_catalog
of_event body valid =
    ap (λ b. cond {A = Option Catalog} b (catalog_of body) None) (le-leb (length body) input_limit valid.within)
    ∙ ap (λ (r : Result Read ReadFault). option_and_then (λ (x : Read). result_ok (checked x.catalog)) (result_ok r)) valid.is_read
    ∙ ap (λ (faults : List CheckFault). result_ok (by_faults valid.read.catalog faults)) valid.breaks_none

pub catalog_both : (body : List ℕ) (catalog : Catalog) → (valid_catalog body ≡ Some catalog) ↔ IsCatalogOf body catalog
catalog_both body catalog = (of_view body catalog, λ is. of_event body is.0 ∙ ap Some is.1)

pub some_catalog : (body : List ℕ) → is_valid_catalog body ≡ true → (catalog : Catalog) × (valid_catalog body ≡ Some catalog)
some_catalog body is = by_catalog (valid_catalog body) refl is
  where
    by_catalog : (o : Option Catalog) → valid_catalog body ≡ o → is_some o ≡ true → (catalog : Catalog) × (valid_catalog body ≡ Some catalog)
    by_catalog (Some catalog) e is = (catalog, e)
    by_catalog None e is = absurd (cc)

pub passes : (body : List ℕ) → IsValid body → is_valid_catalog body ≡ true
passes body valid = ap is_some (of_event body valid)

pub test_both : (body : List ℕ) → (is_valid_catalog body ≡ true) ↔ IsValid body
test_both body = (λ is. let found = some_catalog body is in (of_view body found.0 found.1).0, passes body)

taken_faults : (text : List ℕ) (catalog : Catalog) (faults : List CheckFault) → broken catalog ≡ faults → unless_broken text faults ≡ Ok text → broken catalog ≡ []
taken_faults text catalog [] is h = is
taken_faults text catalog (fault ∷ faults) is h = absurd (cc)

taken_read : (text : List ℕ) (read : Result Read ReadFault) → and_then (or_refusal read) (λ catalog. unless_broken text (broken catalog)) ≡ Ok text
    → (found : Read) × (read ≡ Ok found) × (broken found.catalog ≡ [])
taken_read text (Ok found) h = (found, refl, taken_faults text found.catalog (broken found.catalog) refl h)
taken_read text (Err fault) h = absurd (cc)

pub taken_both : (text : List ℕ) → length text ≤ input_limit → (valid_text text ≡ Ok text) ↔ IsValid text
taken_both text within = (
  λ h. let found = taken_read text (reading nothing 0 (blobs text)) h in record { within = within; read = found.0; is_read = found.1; breaks_none = found.2 },
  λ valid.
      ap (λ (r : Result Read ReadFault). and_then (or_refusal r) (λ catalog. unless_broken text (broken catalog))) valid.is_read ∙ ap (unless_broken text) valid.breaks_none,
)
