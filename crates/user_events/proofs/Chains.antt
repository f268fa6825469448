-- A chain of readings gives a value only where each of them gives one.
use Rattle.std.proofs.Common.{◌≡◌, List, ℕ, Result, Ok, Err, refl, ap}
use Rattle.olm_base.specs.declared.fields.FieldKind.{FieldKind}
use Rattle.json_fields.specs.declared.fault.Fault.{Fault}
use Rattle.json_fields.specs.Faults.{and_then, here, below}
use Rattle.object_bodies.specs.declared.faults.ObjectFault.{ObjectFault}
use Rattle.object_bodies.specs.Faults.{told}

pub ok_is : {T E : Type 0} (x y : T) → ◌≡◌ {A = Result T E} (Ok x) (Ok y) → x ≡ y
ok_is x y e = cc

pub then_ok : {T U E : Type 0} (read : Result T E) (more : T → Result U E) (x : U) → and_then read more ≡ Ok x → (y : T) × (read ≡ Ok y) × (more y ≡ Ok x)
then_ok (Ok y) more x e = (y, refl, e)
then_ok (Err fault) more x e = absurd cc

pub told_ok : {T : Type 0} (words : Fault → ObjectFault) (read : Result T Fault) (x : T) → told words read ≡ Ok x → read ≡ Ok x
told_ok words (Ok y) x e = let same : y ≡ x = cc in ap Ok same
told_ok words (Err fault) x e = absurd cc

pub below_ok : {T : Type 0} (step : List ℕ) (read : Result T Fault) (x : T) → below step read ≡ Ok x → read ≡ Ok x
below_ok step (Ok y) x e = let same : y ≡ x = cc in ap Ok same
below_ok step (Err fault) x e = absurd cc

pub here_ok : {T : Type 0} (read : Result T FieldKind) (x : T) → here read ≡ Ok x → read ≡ Ok x
here_ok (Ok y) x e = let same : y ≡ x = cc in ap Ok same
here_ok (Err kind) x e = absurd cc
