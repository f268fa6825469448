-- A list that is read item by item.
use Rattle.std.proofs.Common.{◌≡◌, ◌+◌, ◌<◌, ◌≤◌, ℕ, List, [], ◌∷◌, ◌++◌, Result, Ok, Err, map, drop, length, refl, sym, ap, ◌∙◌, append_assoc, append-nil}
use Rattle.std.proofs.Common.{false, get_or, drop_of_length-le}
use Rattle.std.proofs.lemmas.List.{drop_more, drop-map}
use Rattle.serde_json.specs.Data.{Data}
use Rattle.serde_json.specs.View.{view}
use Rattle.serde_json.specs.declared.value.Value.{Value}
use Rattle.olm_base.specs.Outcome.{Gives}
use Rattle.json_fields.specs.declared.fault.Fault.{Fault}
use Rattle.json_fields.specs.Faults.{is_free, and_then, below, below_fault, item_step}
use Rattle.json_fields.specs.Values.{each_from, each}

-- these items, and then those that a reading gives
abbrev pub after : {T : Type 0} → List T → Result (List T) Fault → Result (List T) Fault
after found later = and_then later (λ more. Ok (found ++ more))

-- A loop that has these items of those before a number: with what the others give they are what all give.
abbrev pub Reads : {T : Type 0} → (Data → Result T Fault) → List Data → ℕ → List T → Type 0
Reads read values index found = after found (each_from index read (drop index values)) ≡ each read values

pub after_none : {T : Type 0} (later : Result (List T) Fault) → after [] later ≡ later
after_none (Ok more) = refl
after_none (Err fault) = refl

after_one : {T : Type 0} (found : List T) (value : T) (later : Result (List T) Fault) → after found (and_then later (λ more. Ok (value ∷ more))) ≡ after (found ++ value ∷ []) later
after_one found value (Ok more) = ap Ok (sym (append_assoc found (value ∷ []) more))
after_one found value (Err fault) = refl

pub one_more : {T : Type 0} (read : Data → Result T Fault) (values : List Data) (index : ℕ) (found : List T) (here : Data) (value : T)
    → drop index values ≡ here ∷ drop (index + 1) values → below (item_step index) (read here) ≡ Ok value → Reads read values index found → Reads read values (index + 1) (found ++ value ∷ [])
one_more read values index found here value e f h =
    sym (after_one found value (each_from (index + 1) read (drop (index + 1) values)))
    ∙ sym (ap (λ rest. after found (each_from index read rest)) e
    ∙ ap (λ first. after found (and_then first (λ first. and_then (each_from (index + 1) read (drop (index + 1) values)) (λ more. Ok (first ∷ more))))) f)
    ∙ h

pub one_fault : {T : Type 0} (read : Data → Result T Fault) (values : List Data) (index : ℕ) (found : List T) (here : Data) (fault : Fault)
    → drop index values ≡ here ∷ drop (index + 1) values → below (item_step index) (read here) ≡ Err fault → Reads read values index found → each read values ≡ Err fault
one_fault read values index found here fault e f h =
    sym h
    ∙ ap (λ rest. after found (each_from index read rest)) e
    ∙ ap (λ first. after found (and_then first (λ first. and_then (each_from (index + 1) read (drop (index + 1) values)) (λ more. Ok (first ∷ more))))) f

pub all_read : {T : Type 0} (read : Data → Result T Fault) (values : List Data) (index : ℕ) (found : List T) → drop index values ≡ [] → Reads read values index found → each read values ≡ Ok found
all_read read values index found e h = sym h ∙ ap (λ rest. after found (each_from index read rest)) e ∙ ap Ok (append-nil found)

-- what stands at a number of a list of values, and what follows
pub at_item : (items : List Value) (index : ℕ) (here : Value) → index < length items → here ≡ get_or items index here → drop index (map view items) ≡ view here ∷ drop (index + 1) (map view items)
at_item items index here h e =
    drop-map view index items
    ∙ ap (map view) (drop_more items index here h)
    ∙ ap (λ first. view first ∷ map view (drop (index + 1) items)) (sym e)
    ∙ ap (λ more. view here ∷ more) (sym (drop-map view (index + 1) items))

-- the exact answer of a part is that of the whole
pub below_ok : {T : Type 0} (step : List ℕ) (wanted found : Result T Fault) (value : T) → Gives is_free wanted found → below step found ≡ Ok value → below step wanted ≡ Ok value
below_ok step wanted (Ok found) value g e = ap (below step) g ∙ e
below_ok step wanted (Err fault) value g e = cc e

pub below_err : {T : Type 0} (step : List ℕ) (wanted found : Result T Fault) (fault : Fault) → Gives is_free wanted found → is_free fault ≡ false → below step found ≡ Err fault → below step wanted ≡ Err fault
below_err step wanted (Ok found) fault g free e = cc e
below_err step wanted (Err inner) fault g free e =
    let same : below_fault step inner ≡ fault = cc e in
    ap (below step) (g (ap is_free same ∙ free)) ∙ e

-- nothing stands behind the last item
pub past_items : (items : List Value) (index : ℕ) → length items ≤ index → drop index (map view items) ≡ []
past_items items index h = drop-map view index items ∙ ap (map view) (drop_of_length-le items h)

-- a reading of which only the fault is kept
abbrev pub passed : {T : Type 0} → Result T Fault → Result (Unit {0}) Fault
passed read = and_then read (λ value. Ok tt)

pub passed_ok : {T : Type 0} (step : List ℕ) (read : Result T Fault) → below step (passed read) ≡ Ok tt → (value : T) × (below step read ≡ Ok value)
passed_ok step (Ok value) e = (value, refl)
passed_ok step (Err fault) e = cc e

pub passed_err : {T : Type 0} (step : List ℕ) (read : Result T Fault) (fault : Fault) → below step (passed read) ≡ Err fault → below step read ≡ Err fault
passed_err step (Ok value) fault e = cc e
passed_err step (Err inner) fault e =
    let same : below_fault step inner ≡ fault = cc e in
    ap Err same
