-- What checking a catalog tells of the rules that it breaks.
use Rattle.std.proofs.Common.{◌≡◌, ◌≢◌, List, [], ◌∷◌, ℕ, Ok, Err, refl}
use Rattle.fbc_types.specs.declared.catalog.Catalog.{Catalog}
use Rattle.fbc_types.specs.declared.fault.CheckFault.{CheckFault}
use Rattle.fbc_check.specs.Checking.{by_faults}
use Rattle.fbc_check.specs.declared.checking.CheckRefusal.TheVariants.{Broken}
use Rattle.folder_events.specs.Catalogs.{unless_broken}

pub kept_text : (text : List ℕ) (catalog kept : Catalog) (faults : List CheckFault) → by_faults catalog faults ≡ Ok kept → unless_broken text faults ≡ Ok text
kept_text text catalog kept [] e = refl
kept_text text catalog kept (fault ∷ faults) e = absurd cc

pub told_rules : (catalog other : Catalog) (faults told : List CheckFault) → by_faults catalog faults ≡ Err (Broken other told) → faults ≡ told
told_rules catalog other [] told e = absurd cc
told_rules catalog other (fault ∷ faults) told e = cc

pub told_some : (catalog other : Catalog) (faults told : List CheckFault) → by_faults catalog faults ≡ Err (Broken other told) → told ≢ []
told_some catalog other [] told e is = absurd cc
told_some catalog other (fault ∷ faults) told e is = let same : fault ∷ faults ≡ told = cc in absurd cc
