-- What a user's write leaves of the plan, the resolution or the catalog at a key. The first object is what stood there before, if anything did, and the second what stands there now.
use Rattle.std.specs.Prelude.{◌≡◌, ◌⊎◌, true, Option, Some}
use Rattle.cluster_objects.specs.Kinds.{catalog_at, plan_at, resolution_at}
use Rattle.cluster_objects.specs.declared.keys.Key.{Key}
use Rattle.cluster_objects.specs.declared.objects.Object.{Object}
use Rattle.cluster_objects.specs.declared.plans.PlanStatus.{PlanStatus}
use Rattle.cluster_objects.specs.declared.resolutions.ResolutionStatus.{ResolutionStatus}
use Rattle.cluster_objects.specs.declared.statuses.CatalogStatus.{CatalogStatus}
use Rattle.lawful_history.specs.Lawful.{body_of}
use Rattle.user_events.specs.Wishes.{is_waiting}
use Rattle.folder_events.specs.Laws.{IsValid}

-- The plan waited for its approval, and has it now.
abbrev pub GetsApproved : PlanStatus → PlanStatus → Type 0
GetsApproved old new = (is_waiting old ≡ true) × (new ≡ record old { approved = true })

-- A plan stands there only where it stood there before, and then it is as it was, or it got approved.
abbrev pub KeepsPlan : Key → Option Object → Option Object → Type 0
KeepsPlan key before now =
    (new : PlanStatus) → plan_at key now ≡ Some new
    → (old : PlanStatus) × (plan_at key before ≡ Some old) × ((new ≡ old) ⊎ GetsApproved old new)

-- what was decided, and of what
pub record IsSameDecision (old new : ResolutionStatus) : Type 0 where
  pub number : new.number ≡ old.number
  pub basis : new.basis ≡ old.basis
  pub outcome : new.outcome ≡ old.outcome
  pub certificate : new.certificate ≡ old.certificate

-- A resolution stays there, with its decision.
abbrev pub KeepsResolution : Key → Option Object → Option Object → Type 0
KeepsResolution key before now =
    (old : ResolutionStatus) → resolution_at key before ≡ Some old
    → (new : ResolutionStatus) × (resolution_at key now ≡ Some new) × IsSameDecision old new

-- A catalog stands there only where it stood there before, as it was, or its body is a valid catalog.
abbrev pub KeepsCatalog : Key → Option Object → Option Object → Type 0
KeepsCatalog key before now = (catalog : CatalogStatus) → catalog_at key now ≡ Some catalog → (now ≡ before) ⊎ IsValid (body_of now)
