-- A CSV that is put into InstallReady holds its claims.
use Rattle.std.proofs.Common.{◌≡◌, ◌&&◌, ◌||◌, Bool, true, false, cond, List, [], ◌∷◌, map, ℕ, zero, suc, Option, Some, None, slice_get, refl, sym, ap, ◌∙◌, subst}
use Rattle.std.specs.Cmp.Lexicographic.{pointwise}
use Rattle.std.specs.List.{find, list_all, list_any}
use Rattle.std.specs.Option.{option_map}
use Rattle.std.proofs.lemmas.Bool.{and_parts}
use Rattle.cluster_objects.specs.Keys.{same_text}
use Rattle.cluster_objects.specs.Kinds.{as_csv, csv_at, is_csv_key}
use Rattle.cluster_objects.specs.declared.groups.Claim.{Claim}
use Rattle.cluster_objects.specs.declared.objects.Object.{Object}
use Rattle.cluster_objects.specs.declared.objects.Write.{Write}
use Rattle.cluster_objects.specs.declared.objects.Writer.TheVariants as writer
use Rattle.cluster_objects.specs.declared.statuses.Crd.{Crd}
use Rattle.cluster_objects.specs.declared.statuses.CsvPhase.{CsvPhase}
use Rattle.cluster_objects.specs.declared.statuses.CsvPhase.TheVariants as phase
use Rattle.cluster_objects.specs.declared.statuses.CsvStatus.{CsvStatus}
use Rattle.cluster_objects.proofs.Stamping.{same_text-true}
use Rattle.cluster_history.specs.History.{After, History}
use Rattle.cluster_history.specs.Views.{View, view}
use Rattle.op_properties.specs.Offers.{same_kind}
use Rattle.op_properties.proofs.Singles.{same_kind_is}
use Rattle.operator_groups.specs.Acts.{acts, acts_in}
use Rattle.operator_groups.specs.Claiming.{claim, claim_against, is_against, is_claim, is_older, same_targets}
use Rattle.operator_groups.specs.declared.claiming.Claimed.{Claimed}
use Rattle.operator_groups.specs.declared.claiming.Claimed.TheVariants.{Held}
use Rattle.operator_groups.specs.declared.groups.Acts.{Acts}
use Rattle.operator_groups.specs.declared.groups.Acts.TheVariants.{Ungrouped, Several, In, Everywhere}
use Rattle.csv_phases.specs.Conditions.{claim_of, claims, claims_are_held, claims_of, crds_are_there, group_fits, is_held, is_ready, replaced_is_gone}
use Rattle.csv_phases.specs.Csvs.{Csv, is_in}
use Rattle.csv_phases.specs.Edges.{applies, row}
use Rattle.csv_phases.specs.declared.edges.Edge.{Edge}
use Rattle.csv_phases.specs.declared.edges.Edge.TheVariants.{Begin, Ready, Unready, Misfit, Deploy, Succeed, InstallFailed, CrdLost, DeploymentLost, Recover, Replaced, Retire, Remove}
use Rattle.csv_phases.proofs.Members.{through}
use Rattle.csv_phases.proofs.Taking.{of_write}
use Rattle.lawful_events.proofs.Chains.{some_is}
use Rattle.lawful_roles.specs.Roles.{IsKept}
use Rattle.role_laws.specs.Claims.{HoldsClaims, claim_for}
use Rattle.role_laws.proofs.Kept.{By, ByPhases, OfGrant, OfInstaller, OfPhases, OfResolver, OfUser, kept_in_order, other_writer, who_had}
use Rattle.role_laws.proofs.Phasing.{LeadsCsv, leads_csv}

-- ---- only a CSV that is ready comes to InstallReady

other_phase : {T : Type 0} (p : CsvPhase) → Some p ≡ Some phase.InstallReady → (p ≡ phase.InstallReady → ⊥) → T
other_phase p is apart = absurd (apart (some_is p phase.InstallReady is))

comes_ready : (v : View) (csv : Csv) (edge : Edge) → applies v csv edge ≡ true → (row v csv edge).to ≡ Some phase.InstallReady → is_ready v csv ≡ true
comes_ready v csv Begin holds to = other_phase phase.Pending to (λ e. cc)
comes_ready v csv Ready holds to = (and_parts (is_in phase.Pending csv.status.phase) (is_ready v csv) holds).1
comes_ready v csv Unready holds to = other_phase phase.Pending to (λ e. cc)
comes_ready v csv Misfit holds to = other_phase phase.Failed to (λ e. cc)
comes_ready v csv Deploy holds to = other_phase phase.Installing to (λ e. cc)
comes_ready v csv Succeed holds to = other_phase phase.Succeeded to (λ e. cc)
comes_ready v csv InstallFailed holds to = other_phase phase.Failed to (λ e. cc)
comes_ready v csv CrdLost holds to = other_phase phase.Pending to (λ e. cc)
comes_ready v csv DeploymentLost holds to = other_phase phase.Failed to (λ e. cc)
comes_ready v csv Recover holds to = other_phase phase.Pending to (λ e. cc)
comes_ready v csv Replaced holds to = other_phase phase.Replacing to (λ e. cc)
comes_ready v csv Retire holds to = other_phase phase.Deleting to (λ e. cc)
comes_ready v csv Remove holds to = absurd (let bad : None ≡ Some phase.InstallReady = to in cc)

held_of : (v : View) (csv : Csv) → is_ready v csv ≡ true → claims_are_held v csv ≡ true
held_of v csv ready =
    (and_parts (crds_are_there v csv && replaced_is_gone v csv && group_fits v csv) (claims_are_held v csv) ready).1

-- ---- then each claim is held

abbrev held_by : View → Csv → Acts → Bool
held_by v csv where_to = elim where_to [
  | Ungrouped ↦ true
  | Several ↦ false
  | In targets ↦ list_all is_held (claims_of v (Some targets) csv)
  | Everywhere ↦ list_all is_held (claims_of v None csv)
]

all_held : (v : View) (csv : Csv) (targets : Option (List (List ℕ))) → held_by v csv (acts_in targets) ≡ true
    → list_all is_held (claims_of v targets csv) ≡ true
all_held v csv None held = held
all_held v csv (Some targets) held = held

all_at : (held : Crd → Claimed) (crds : List Crd) → list_all is_held (map held crds) ≡ true → (i : ℕ) (crd : Crd)
    → slice_get crds i ≡ Some crd → is_held (held crd) ≡ true
all_at held [] all i crd at = absurd (let bad : None ≡ Some crd = at in cc)
all_at held (x ∷ xs) all zero crd at =
    subst (λ (c : Crd). is_held (held c) ≡ true) (some_is x crd at) (and_parts (is_held (held x)) (list_all is_held (map held xs)) all).0
all_at held (x ∷ xs) all (suc i) crd at = all_at held xs (and_parts (is_held (held x)) (list_all is_held (map held xs)) all).1 i crd at

-- ---- and what is held is there

same_texts : (a b : List (List ℕ)) → pointwise same_text a b ≡ true → a ≡ b
same_texts [] [] h = refl
same_texts [] (y ∷ ys) h = absurd (let bad : false ≡ true = h in cc)
same_texts (x ∷ xs) [] h = absurd (let bad : false ≡ true = h in cc)
same_texts (x ∷ xs) (y ∷ ys) h =
    let (first, rest) = and_parts (same_text x y) (pointwise same_text xs ys) h in
    ap (λ t. t ∷ xs) (same_text-true x y first) ∙ ap (λ ts. y ∷ ts) (same_texts xs ys rest)

targets_are : (a b : Option (List (List ℕ))) → same_targets a b ≡ true → a ≡ b
targets_are None None h = refl
targets_are None (Some others) h = absurd (let bad : false ≡ true = h in cc)
targets_are (Some targets) None h = absurd (let bad : false ≡ true = h in cc)
targets_are (Some targets) (Some others) h = ap Some (same_texts targets others h)

claim_is : (wanted entry : Claim) → is_claim wanted entry ≡ true → entry ≡ wanted
claim_is wanted entry h =
    let (older, targets) = and_parts (is_older wanted entry) (same_targets entry.targets wanted.targets) h in
    let (kind, namespace) = and_parts (same_kind entry.kind wanted.kind) (same_text entry.namespace wanted.namespace) older in
    ap (λ part. record entry { kind = part }) (same_kind_is entry.kind wanted.kind kind)
    ∙ ap (λ part. record entry { kind = wanted.kind; namespace = part }) (same_text-true entry.namespace wanted.namespace namespace)
    ∙ ap (λ part. record wanted { targets = part }) (targets_are entry.targets wanted.targets targets)

among : (wanted : Claim) (entries : List Claim) → list_any (is_claim wanted) entries ≡ true → (j : ℕ) × (slice_get entries j ≡ Some wanted)
among wanted [] h = absurd (let bad : false ≡ true = h in cc)
among wanted (entry ∷ entries) h = by_test (is_claim wanted entry) refl (among wanted entries) h
  where
    by_test : (b : Bool) → is_claim wanted entry ≡ b → (list_any (is_claim wanted) entries ≡ true → (j : ℕ) × (slice_get entries j ≡ Some wanted))
        → (b || list_any (is_claim wanted) entries) ≡ true → (j : ℕ) × (slice_get (entry ∷ entries) j ≡ Some wanted)
    by_test true is rest h = (zero, ap Some (claim_is wanted entry is))
    by_test false is rest h = let (j, at) = rest h in (suc j, at)

any_of : (b : Bool) (entries : List Claim) (wanted : Claim) (other : Option Claim)
    → is_held (cond b Held (claim_against entries wanted other)) ≡ true → b ≡ true
any_of true entries wanted other h = refl
any_of false entries wanted None h = absurd (let bad : false ≡ true = h in cc)
any_of false entries wanted (Some other) h = absurd (let bad : false ≡ true = h in cc)

held_there : (entries : List Claim) (wanted : Claim) → is_held (claim entries wanted) ≡ true → (j : ℕ) × (slice_get entries j ≡ Some wanted)
held_there entries wanted h =
    among wanted entries (any_of (list_any (is_claim wanted) entries) entries wanted (find (is_against wanted) entries) h)

-- ---- the law

holds : (v : View) (w : Write) (new : CsvStatus) (targets : Option (List (List ℕ))) → csv_at w.key w.object ≡ Some new
    → new.phase ≡ phase.InstallReady → acts v ≡ acts_in targets → LeadsCsv v w → HoldsClaims v targets new
holds v w new targets put ready group leads i crd at =
    let to : (row v leads.csv leads.edge).to ≡ Some phase.InstallReady =
    leads.to ∙ ap (λ o. option_map (λ (s : CsvStatus). s.phase) o) put ∙ ap Some ready in
    let held = held_of v leads.csv (comes_ready v leads.csv leads.edge leads.holds to) in
    let each : list_all is_held (claims_of v targets leads.csv) ≡ true =
    all_held v leads.csv targets (subst (λ (a : Acts). held_by v leads.csv a ≡ true) group held) in
    let owned : slice_get leads.csv.status.owned i ≡ Some crd = ap (λ crds. slice_get crds i) (sym (leads.owned new put)) ∙ at in
    held_there (claims v) (claim_for v targets crd) (all_at (claim_of v targets) leads.csv.status.owned each i crd owned)

by_phases : (is_valid : List ℕ → Bool) (h : History) (w : Write) (object : Object) (new : CsvStatus) (targets : Option (List (List ℕ)))
    → IsKept is_valid (After w h) → w.object ≡ Some object → csv_at w.key w.object ≡ Some new → new.phase ≡ phase.InstallReady
    → acts (view h w.key.namespace object.seen) ≡ acts_in targets → ByPhases h w
    → HoldsClaims (view h w.key.namespace object.seen) targets new
by_phases is_valid h w object new targets kept puts put ready group by =
    let v = view h by.namespace by.length in
    let kind = (through (is_csv_key w.key) (as_csv w.object) new put).0 in
    let leads = leads_csv v w (kept_in_order is_valid h by.namespace by.length kept.2) kind (of_write v w by.enabled) in
    let same : v ≡ view h w.key.namespace object.seen =
    ap (λ (ns : List ℕ). view h ns by.length) (sym leads.own) ∙ ap (λ (a : ℕ). view h w.key.namespace a) (sym (by.seen object puts)) in
    subst (λ (u : View). HoldsClaims u targets new) same
    (holds v w new targets put ready (ap acts same ∙ group) leads)

pub holds_claims : (is_valid : List ℕ → Bool) (h : History) (w : Write) (object : Object) (new : CsvStatus) (targets : Option (List (List ℕ)))
    → IsKept is_valid (After w h) → w.by ≡ writer.Phases → w.object ≡ Some object → csv_at w.key w.object ≡ Some new
    → new.phase ≡ phase.InstallReady → acts (view h w.key.namespace object.seen) ≡ acts_in targets
    → HoldsClaims (view h w.key.namespace object.seen) targets new
holds_claims is_valid h w object new targets kept phases puts put ready group = by_writer (who_had is_valid h w kept)
  where
    by_writer : By h w → HoldsClaims (view h w.key.namespace object.seen) targets new
    by_writer (OfUser by event) = other_writer w writer.User writer.Phases by phases (λ e. cc)
    by_writer (OfGrant by grant) = other_writer w writer.User writer.Phases by phases (λ e. cc)
    by_writer (OfResolver by) = other_writer w writer.Resolver writer.Phases by.by phases (λ e. cc)
    by_writer (OfInstaller by) = other_writer w writer.Installer writer.Phases by.by phases (λ e. cc)
    by_writer (OfPhases by) = by_phases is_valid h w object new targets kept puts put ready group by
