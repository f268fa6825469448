-- Whether the resolution that is there still stands.
use Rattle.std.proofs.Common.{◌≡◌, ◌⊎◌, Bool, true, false, Option, Some, None, MatchBool, refl, sym, ◌∙◌, inl, subst}
use Rattle.std.specs.Bool.{Decides}
use Rattle.cluster_objects.specs.declared.resolutions.Basis.{Basis}
use Rattle.cluster_objects.specs.declared.resolutions.ResolutionStatus.{ResolutionStatus}
use Rattle.cluster_history.specs.Views.{View}
use Rattle.view_basis.specs.Basis.{basis}
use Rattle.controller_rules.specs.Resolving.{IsDue, Stands, current}

-- what a test for a fresh resolution says
abbrev pub Freshness : ResolutionStatus → Basis → Bool → Type 0
Freshness found now fresh =
    MatchBool fresh ((found.basis ≡ now) × (found.again ≡ false)) ((found.basis ≡ now → ⊥) ⊎ (found.again ≡ true))

pub by_basis : (found : ResolutionStatus) (now : Basis) (same : Bool) → found.again ≡ false → Decides same (found.basis ≡ now)
    → Freshness found now same
by_basis found now true again decides = (decides.0 refl, again)
by_basis found now false again decides = inl (λ e. let bad : false ≡ true = decides.1 e in absurd (cc bad))

module _ (view : View) (found : ResolutionStatus) (now : Basis) (there : Some found ≡ current view) (of : now ≡ basis view) where
  pub stands : (fresh : Bool) → fresh ≡ true → Freshness found now fresh → Stands view found
  stands fresh is told =
      let both = subst (λ b. Freshness found now b) is told in
      record { there = sym there; basis = both.0 ∙ of; again = both.1 }

  pub due : (fresh : Bool) → fresh ≡ false → Freshness found now fresh → IsDue view (current view)
  due fresh is told =
      let why = subst (λ b. Freshness found now b) is told in
      subst (λ o. IsDue view o) there
      (subst (λ (now : Basis). (found.basis ≡ now → ⊥) ⊎ (found.again ≡ true)) of why)

pub due_without : (view : View) → None ≡ current view → IsDue view (current view)
due_without view there = subst (λ o. IsDue view o) there tt
