-- A key of one kind is of no other.
use Rattle.std.proofs.Common.{◌≡◌, Bool, true, false, cond, codes, ◌&&◌, List, ℕ, Option, None, refl, ap, ◌∙◌}
use Rattle.std.proofs.lemmas.Bool.{and_parts}
use Rattle.cluster_objects.specs.Keys.{same_text}
use Rattle.cluster_objects.specs.Kinds.{has_kind, is_claims_key, is_csv_key, is_deployment_key, is_lease_key, is_plan_key, is_subscription_key, local, operators}
use Rattle.cluster_objects.specs.declared.keys.Key.{Key}
use Rattle.cluster_objects.proofs.Stamping.{same_text-true}

apart : (g k g' k' : List ℕ) (key : Key) → has_kind g k key ≡ true → (same_text g g' && same_text k k') ≡ false
    → has_kind g' k' key ≡ false
apart g k g' k' key h differs =
    let (group, kind) = and_parts (same_text key.group g) (same_text key.kind k) h in
    ap (λ x. same_text x g' && same_text key.kind k') (same_text-true key.group g group)
    ∙ ap (λ x. same_text g g' && same_text x k') (same_text-true key.kind k kind) ∙ differs

pub csv_no_lease : (key : Key) → is_csv_key key ≡ true → is_lease_key key ≡ false
csv_no_lease key h = apart operators (codes "ClusterServiceVersion") local (codes "Lease") key h refl

pub subscription_no_lease : (key : Key) → is_subscription_key key ≡ true → is_lease_key key ≡ false
subscription_no_lease key h = apart operators (codes "Subscription") local (codes "Lease") key h refl

pub deployment_no_lease : (key : Key) → is_deployment_key key ≡ true → is_lease_key key ≡ false
deployment_no_lease key h = apart (codes "apps") (codes "Deployment") local (codes "Lease") key h refl

pub deployment_no_subscription : (key : Key) → is_deployment_key key ≡ true → is_subscription_key key ≡ false
deployment_no_subscription key h = apart (codes "apps") (codes "Deployment") operators (codes "Subscription") key h refl

pub plan_no_lease : (key : Key) → is_plan_key key ≡ true → is_lease_key key ≡ false
plan_no_lease key h = apart operators (codes "InstallPlan") local (codes "Lease") key h refl

pub plan_no_csv : (key : Key) → is_plan_key key ≡ true → is_csv_key key ≡ false
plan_no_csv key h = apart operators (codes "InstallPlan") operators (codes "ClusterServiceVersion") key h refl

pub plan_no_subscription : (key : Key) → is_plan_key key ≡ true → is_subscription_key key ≡ false
plan_no_subscription key h = apart operators (codes "InstallPlan") operators (codes "Subscription") key h refl

pub lease_no_csv : (key : Key) → is_lease_key key ≡ true → is_csv_key key ≡ false
lease_no_csv key h = apart local (codes "Lease") operators (codes "ClusterServiceVersion") key h refl

pub lease_no_subscription : (key : Key) → is_lease_key key ≡ true → is_subscription_key key ≡ false
lease_no_subscription key h = apart local (codes "Lease") operators (codes "Subscription") key h refl

pub lease_no_plan : (key : Key) → is_lease_key key ≡ true → is_plan_key key ≡ false
lease_no_plan key h = apart local (codes "Lease") operators (codes "InstallPlan") key h refl

pub lease_no_claims : (key : Key) → is_lease_key key ≡ true → is_claims_key key ≡ false
lease_no_claims key h = apart local (codes "Lease") local (codes "Claims") key h refl

-- nothing counts at a key of another kind
pub counts_none : {A : Type 0} (b : Bool) (found : Option A) → b ≡ false → cond b found None ≡ None
counts_none true found h = absurd (let bad : true ≡ false = h in cc)
counts_none false found h = refl

-- nor where nothing is
pub nothing_counts : {A : Type 0} (b : Bool) → cond {A = Option A} b None None ≡ None
nothing_counts true = refl
nothing_counts false = refl

-- what counts at its own kind
pub it_counts : {A : Type 0} (b : Bool) (found : Option A) → b ≡ true → cond b found None ≡ found
it_counts true found h = refl
it_counts false found h = absurd (let bad : false ≡ true = h in cc)
