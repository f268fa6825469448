-- What a reading that succeeds has read.
use Rattle.std.proofs.Common.{◌≡◌, ℕ, List, Result, Ok, Err, refl}
use Rattle.olm_base.specs.declared.fields.FieldKind.{FieldKind}
use Rattle.json_fields.specs.declared.fault.Fault.{Fault}
use Rattle.json_fields.specs.Faults.{and_then, here, below}
use Rattle.object_bodies.specs.declared.faults.ObjectFault.{ObjectFault}
use Rattle.object_bodies.specs.Faults.{told}

abbrev pub ok : {T E : Type 0} → T → Result T E
ok value = Ok value

pub same_ok : {T E : Type 0} (a b : T) → ok {E = E} a ≡ ok b → a ≡ b
same_ok a b e = cc e

pub read_then : {T U E : Type 0} (first : Result T E) (more : T → Result U E) (value : U)
    → and_then first more ≡ Ok value → (part : T) × (first ≡ Ok part) × (more part ≡ Ok value)
read_then (Ok part) more value e = (part, refl, e)
read_then (Err fault) more value e = cc e

pub read_told : {T : Type 0} (words : Fault → ObjectFault) (first : Result T Fault) (value : T) → told words first ≡ Ok value → first ≡ Ok value
read_told words (Ok part) value e = cc e
read_told words (Err fault) value e = cc e

pub read_below : {T : Type 0} (step : List ℕ) (first : Result T Fault) (value : T) → below step first ≡ Ok value → first ≡ Ok value
read_below step (Ok part) value e = cc e
read_below step (Err fault) value e = cc e

pub read_here : {T : Type 0} (first : Result T FieldKind) (value : T) → here first ≡ Ok value → first ≡ Ok value
read_here (Ok part) value e = cc e
read_here (Err fault) value e = cc e
