-- What checking a catalog answers.
use Rattle.std.specs.Prelude.{Bool, true, false, List, [], ◌∷◌, Result, Ok, Err}
use Rattle.fbc_types.specs.Rules.{broken}
use Rattle.fbc_types.specs.declared.catalog.Catalog.{Catalog}
use Rattle.fbc_types.specs.declared.fault.CheckFault.{CheckFault}
use Rattle.fbc_check.specs.declared.checking.CheckRefusal.{CheckRefusal}
use Rattle.fbc_check.specs.declared.checking.CheckRefusal.TheVariants.{Broken, Memory}

-- Want of memory alone is free.
abbrev pub is_free : CheckRefusal → Bool
is_free (Broken catalog faults) = false
is_free Memory = true

abbrev pub by_faults : Catalog → List CheckFault → Result Catalog CheckRefusal
by_faults catalog [] = Ok catalog
by_faults catalog (fault ∷ faults) = Err (Broken catalog (fault ∷ faults))

-- The catalog, where it breaks no rule, and else the catalog and the whole list of the broken rules.
abbrev pub checked : Catalog → Result Catalog CheckRefusal
checked catalog = by_faults catalog (broken catalog)
