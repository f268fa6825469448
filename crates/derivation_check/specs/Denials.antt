-- What refutations deny, read against the set of what is chosen.
use Rattle.std.specs.Prelude.{ℕ, Bool, false, not, cond, ◌==◌, ◌&&◌, ◌||◌, List, [], ◌∷◌, Option, Some, None, slice_get}
use Rattle.std.specs.List.{list_all}
use Rattle.op_constraints.specs.declared.Lit.{Lit}
use Rattle.derivations.specs.declared.Refutation.{Refutation}
use Rattle.derivation_check.specs.declared.CertFault.{CertFault}
use Rattle.derivation_check.specs.declared.CertFault.TheVariants.{Denies}

-- the literal says that something of the set is out
abbrev pub denies_in : (ℕ → Bool) → Lit → Bool
denies_in set l = not l.positive && set l.var

-- the literal says that the candidate is out, or something of the set
abbrev pub denies_with : ℕ → (ℕ → Bool) → Lit → Bool
denies_with candidate set l = not l.positive && ((candidate == l.var) || set l.var)

-- there is a candidate, and each literal denies it or something of the set
abbrev pub denied_by : Option ℕ → (ℕ → Bool) → List Lit → Bool
denied_by None set lits = false
denied_by (Some candidate) set lits = list_all (λ l. denies_with candidate set l) lits

-- the first step of a choice, whose candidates are these, that denies anything else
abbrev pub denied_at : List ℕ → (ℕ → Bool) → List (ℕ × ℕ × Refutation) → Option CertFault
denied_at members set [] = None
denied_at members set (step ∷ steps) =
    cond (denied_by (slice_get members step.1) set step.2.lits) (denied_at members set steps) (Some (Denies step.0 step.1))
