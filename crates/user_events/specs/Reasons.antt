-- The reasons for which a user's event is refused, in the words that are printed.
use Rattle.std.specs.Prelude.{Bool, true, false, ◌++◌, List, ℕ, codes, Result, Err}
use Rattle.std.specs.Fmt.{decimal}
use Rattle.object_bodies.specs.declared.faults.ObjectFault.{ObjectFault}
use Rattle.object_bodies.specs.declared.faults.ObjectFault.TheVariants as fault
use Rattle.user_events.specs.declared.refusals.Refusal.{Refusal}
use Rattle.user_events.specs.declared.refusals.Refusal.TheVariants.{Reason, Memory}

-- want of memory alone is free
abbrev pub is_free : Refusal → Bool
is_free (Reason words) = false
is_free Memory = true

abbrev pub refused : {T : Type 0} → List ℕ → Result T Refusal
refused words = Err (Reason words)

-- of a body that gives no object
abbrev pub body_refusal : ObjectFault → Refusal
body_refusal (fault.TooLarge bytes) = Reason (codes "too-large " ++ decimal bytes)
body_refusal fault.NotJson = Reason (codes "not-json")
body_refusal fault.NoKind = Reason (codes "no-kind")
body_refusal fault.NoName = Reason (codes "no-name")
body_refusal (fault.Forbidden kind) = Reason (codes "forbidden " ++ kind)
body_refusal (fault.BadField path) = Reason (codes "bad-field " ++ path)
body_refusal fault.Memory = Memory
