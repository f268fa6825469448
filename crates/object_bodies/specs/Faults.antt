-- What is wrong with a body, and how the fault of a field becomes one of a body.
use Rattle.std.specs.Prelude.{Bool, true, false, if◌then◌else◌, Result, Ok, Err}
use Rattle.json_fields.specs.declared.fault.Fault.{Fault}
use Rattle.json_fields.specs.Faults as json
use Rattle.object_bodies.specs.declared.faults.ObjectFault.{ObjectFault}
use Rattle.object_bodies.specs.declared.faults.ObjectFault.TheVariants.{TooLarge, NotJson, NoKind, NoName, Forbidden, BadField, Memory}

-- want of memory alone is free
abbrev pub is_free : ObjectFault → Bool
is_free (TooLarge bytes) = false
is_free NotJson = false
is_free NoKind = false
is_free NoName = false
is_free (Forbidden kind) = false
is_free (BadField path) = false
is_free Memory = true

-- a reading whose faults are told in other words
abbrev pub told : {T : Type 0} → (Fault → ObjectFault) → Result T Fault → Result T ObjectFault
told words (Ok value) = Ok value
told words (Err fault) = Err (words fault)

-- where a kind is read: whatever is wrong, there is none
abbrev pub no_kind : Fault → ObjectFault
no_kind fault = NoKind

-- where the object's name is read
abbrev pub no_name : Fault → ObjectFault
no_name fault = NoName

-- any other field is told by its path
abbrev pub bad_field : Fault → ObjectFault
bad_field fault = BadField fault.path

-- in code want of memory stays what it is
abbrev pub unless_memory : Fault → ObjectFault → ObjectFault
unless_memory fault other = if json.is_free fault then Memory else other
