-- The claims of all namespaces, and whether those of a CSV are among them.
use Rattle.std.specs.Prelude.{◌≡◌, ℕ, List, [], Option, Some, slice_get}
use Rattle.std.specs.Option.{option_map_or}
use Rattle.cluster_objects.specs.Kinds.{claims_at}
use Rattle.cluster_objects.specs.Places.{claims_key}
use Rattle.cluster_objects.specs.declared.groups.Claim.{Claim}
use Rattle.cluster_objects.specs.declared.statuses.Crd.{Crd}
use Rattle.cluster_objects.specs.declared.statuses.CsvStatus.{CsvStatus}
use Rattle.cluster_history.specs.History.{History, slot}
use Rattle.cluster_history.specs.Views.{View}
use Rattle.view_basis.specs.Tips.{kind_of}
use Rattle.csv_phases.specs.Conditions.{claims}

-- Where no object of claims stands nobody claims anything.
abbrev pub claims_in : History → List Claim
claims_in h = option_map_or (λ found. found.entries) (claims_at claims_key (slot h claims_key).object) []

-- the claim of an owned kind by the view's namespace, for these targets
abbrev pub claim_for : View → Option (List (List ℕ)) → Crd → Claim
claim_for view targets crd = record { kind = kind_of crd; namespace = view.namespace; targets = targets }

-- For each kind that the CSV owns the claims of the view have that of the view's namespace for these targets.
abbrev pub HoldsClaims : View → Option (List (List ℕ)) → CsvStatus → Type 0
HoldsClaims view targets csv =
    (i : ℕ) (crd : Crd) → slice_get csv.owned i ≡ Some crd → (j : ℕ) × (slice_get (claims view) j ≡ Some (claim_for view targets crd))
