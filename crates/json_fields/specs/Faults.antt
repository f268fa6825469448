-- What a reading gives: a value, or the first fault and the path to it.
use Rattle.std.specs.Prelude.{ℕ, Bool, List, [], ◌∷◌, ◌++◌, Result, Ok, Err}
use Rattle.std.specs.Fmt.{decimal}
use Rattle.olm_base.specs.Fields as field
use Rattle.olm_base.specs.declared.fields.FieldKind.{FieldKind}
use Rattle.json_fields.specs.declared.fault.Fault.{Fault}

-- want of memory alone is free
abbrev pub is_free : Fault → Bool
is_free fault = field.is_free fault.kind

-- One reading and then another one, which may depend on what the first one gave. The first fault counts.
abbrev pub and_then : {T U E : Type 0} → Result T E → (T → Result U E) → Result U E
and_then (Ok value) more = more value
and_then (Err fault) more = Err fault

-- a fault of a value itself has the empty path
abbrev pub here : {T : Type 0} → Result T FieldKind → Result T Fault
here (Ok value) = Ok value
here (Err kind) = Err (record { path = []; kind = kind })

abbrev pub below_fault : List ℕ → Fault → Fault
below_fault step fault = record { path = step ++ fault.path; kind = fault.kind }

-- the path of a fault inside a part of a value begins with the step to that part
abbrev pub below : {T : Type 0} → List ℕ → Result T Fault → Result T Fault
below step (Ok value) = Ok value
below step (Err fault) = Err (below_fault step fault)

-- the step to a field: `.name`
abbrev pub key_step : List ℕ → List ℕ
key_step key = 46 ∷ key

-- the step to an item, with its number from 0: `[2]`
abbrev pub item_step : ℕ → List ℕ
item_step index = 91 ∷ decimal index ++ 93 ∷ []
