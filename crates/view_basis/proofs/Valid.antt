-- The catalogs of bodies.
use Rattle.std.proofs.Common.{◌≡◌, Bool, true, false, cond, ℕ, List, [], ◌∷◌, Option, Some, None, length, nat_le, refl, sym, subst}
use Rattle.std.specs.Option.{option_and_then}
use Rattle.std.specs.Result.{result_ok}
use Rattle.catalog_stream.specs.Stream.{blobs}
use Rattle.fbc_types.specs.Rules.{broken}
use Rattle.fbc_types.specs.declared.catalog.Catalog.{Catalog}
use Rattle.fbc_types.specs.declared.fault.CheckFault.{CheckFault}
use Rattle.fbc_check.specs.Checking.{by_faults, checked}
use Rattle.fbc_read.specs.Blobs.{nothing}
use Rattle.fbc_read.specs.Bodies.{input_limit}
use Rattle.fbc_read.specs.Catalogs.{Read, reading}
use Rattle.view_basis.specs.Bodies.{catalog_of, valid_catalog}
use Rattle.view_basis.specs.Laws.{ValidBreaksNothing}

kept : (found catalog : Catalog) (faults : List CheckFault) → faults ≡ broken found → result_ok (by_faults found faults) ≡ Some catalog → broken catalog ≡ []
kept found catalog [] is h = let same : found ≡ catalog = cc in subst (λ (c : Catalog). broken c ≡ []) same (sym is)
kept found catalog (fault ∷ faults) is h = absurd (let bad : None ≡ Some catalog = h in cc)

of_read : (catalog : Catalog) (read : Option Read) → option_and_then (λ read. result_ok (checked read.catalog)) read ≡ Some catalog → broken catalog ≡ []
of_read catalog None h = absurd (let bad : None ≡ Some catalog = h in cc)
of_read catalog (Some read) h = kept read.catalog catalog (broken read.catalog) refl h

by_limit : (catalog : Catalog) (body : List ℕ) (b : Bool) → cond b (catalog_of body) None ≡ Some catalog → broken catalog ≡ []
by_limit catalog body true h = of_read catalog (result_ok (reading nothing 0 (blobs body))) h
by_limit catalog body false h = absurd (let bad : None ≡ Some catalog = h in cc)

pub valid_breaks_nothing : ValidBreaksNothing
unfolding valid_catalog
valid_breaks_nothing body catalog h = by_limit catalog body (nat_le (length body) input_limit) h
