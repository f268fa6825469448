-- Each write of a user or of a role is one that the theorem on histories allows.
use Rattle.std.proofs.Common.{◌≡◌, ◌&&◌, inl, inr, ℕ, Bool, true, false, List, [], ap, codes}
use Rattle.std.proofs.lemmas.Bool.{and_parts}
use Rattle.cluster_objects.specs.Keys.{same_text}
use Rattle.cluster_objects.specs.Kinds.{is_catalog_key, is_lease_key, is_plan_key}
use Rattle.cluster_objects.specs.Stamps.{stamps_of}
use Rattle.cluster_objects.specs.declared.keys.Key.{Key}
use Rattle.cluster_objects.specs.declared.objects.Write.{Write}
use Rattle.cluster_objects.proofs.Stamping.{same_text-true}
use Rattle.cluster_history.specs.History.{After, History, Start}
use Rattle.cluster_history.specs.Views.{view}
use Rattle.lawful_history.specs.Lawful.{Aside, Installs, IsAllowed}
use Rattle.lawful_history.specs.Sound.{IsLawful}
use Rattle.lawful_history.proofs.Catalogs.{elsewhere}
use Rattle.install_plan.specs.Laws.{PlansAreNew}
use Rattle.csv_phases.specs.Laws.{WritesAreAside}
use Rattle.controller_rules.specs.Lawful.{ByRemoval, ByRole, ByUser, IsAllowedByRole, IsRolesPut, IsRolesRemoval, place_of}
use Rattle.controller_rules.specs.declared.roles.Role.{Role}
use Rattle.controller_rules.specs.declared.roles.Role.TheVariants.{Installer, Phases, Resolver}
use Rattle.controller_rules.proofs.Allowed.{resolver_allowed}
use Rattle.lawful_events.specs.Asks.{IsUsersWrite}
use Rattle.lease_fence.specs.Grants.{IsGrant}
use Rattle.lawful_roles.specs.Roles.{IsByUser, IsKept}

-- ---- leases

leases_apart : (key : Key) → is_lease_key key ≡ true → (is_plan_key key ≡ false) × (is_catalog_key key ≡ false)
leases_apart key is =
    let parts = and_parts (same_text key.group (codes "olmctl.local")) (same_text key.kind (codes "Lease")) is in
    let group : key.group ≡ codes "olmctl.local" = same_text-true key.group (codes "olmctl.local") parts.0 in (
      ap (λ (group : List ℕ). same_text group (codes "operators.coreos.com") && same_text key.kind (codes "InstallPlan")) group,
      ap (λ (group : List ℕ). same_text group (codes "operators.coreos.com") && same_text key.kind (codes "CatalogSource")) group,
    )

-- ---- the roles' writes

module _ (is_valid : List ℕ → Bool) (new : PlansAreNew) (aside : WritesAreAside) where
  role_allowed : (role : Role) (h : History) (w : Write) → IsRolesPut role h w → IsAllowed is_valid h w
  role_allowed Resolver h w put =
      resolver_allowed is_valid new h (view h (place_of w.key put.object) put.object.seen) w put.enabled
  role_allowed Installer h w put = Installs (place_of w.key put.object) put.object.seen put.enabled.0 put.since put.until put.enabled.1
  role_allowed Phases h w put =
      let free = (aside (view h (place_of w.key put.object) put.object.seen) w put.enabled).1 in
      Aside free.bare free.plan (elsewhere is_valid w.key w.object free.catalog)

  removal_allowed : (h : History) (w : Write) → IsRolesRemoval h w → IsAllowed is_valid h w
  removal_allowed h w removal =
      let free = (aside (view h w.key.namespace removal.length) w removal.enabled).1 in
      Aside free.bare free.plan (elsewhere is_valid w.key w.object free.catalog)

  module _ (users : (h : History) (w : Write) → IsUsersWrite h w → IsAllowed is_valid h w) (kind : (h : History) (w : Write) → IsGrant h w → is_lease_key w.key ≡ true) (bare : (h : History) (w : Write) → IsGrant h w → stamps_of w.object ≡ []) where
    user_allowed : (h : History) (w : Write) → IsByUser h w → IsAllowed is_valid h w
    user_allowed h w (inl event) = users h w event
    user_allowed h w (inr grant) =
        let apart = leases_apart w.key (kind h w grant) in
        Aside (bare h w grant) apart.0 (elsewhere is_valid w.key w.object apart.1)

    allowed : (h : History) (w : Write) → IsAllowedByRole IsByUser h w → IsAllowed is_valid h w
    allowed h w (ByUser by user) = user_allowed h w user
    allowed h w (ByRole role put) = role_allowed role h w put
    allowed h w (ByRemoval removal) = removal_allowed h w removal

    pub kept_is_lawful : (h : History) → IsKept is_valid h → IsLawful is_valid h
    kept_is_lawful (Start base) sound = sound.sound
    kept_is_lawful (After w h) kept = (kept.0, allowed h w kept.1, kept_is_lawful h kept.2)
