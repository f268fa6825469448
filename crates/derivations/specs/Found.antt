-- Items that are read one after the other, as far as they are read.
use Rattle.std.specs.Prelude.{cond, List, Result, Ok, Err}
use Rattle.derivations.specs.declared.reading.each.Found.{Found}
use Rattle.derivations.specs.declared.reading.tokens.LineFault.{LineFault}
use Rattle.derivations.specs.declared.reading.tokens.LineFault.TheVariants.{Number}

-- the items, unless a number among them was written wrong
abbrev pub now : {A : Type 0} → Found A → Result (List A) LineFault
now found = cond found.is_wrong (Err Number) (Ok found.items)

-- what is made of an answer's value
abbrev pub shown : {A B E : Type 0} → (A → B) → Result A E → Result B E
shown view (Ok x) = Ok (view x)
shown view (Err fault) = Err fault
