-- The writes of the role phases are aside, go along edges, and keep claims disjoint.
use Rattle.std.proofs.Common.{◌≡◌, Bool, true, false, cond, not, List, [], ◌∷◌, ℕ, Option, Some, None, refl, sym, ap, ◌∙◌, inl, inr, subst}
use Rattle.std.specs.List.{find}
use Rattle.std.proofs.lemmas.Bool.{and_parts}
use Rattle.cluster_objects.specs.Kinds.{as_csv, as_subscription, claims_at, csv_at, is_claims_key, is_csv_key, is_subscription_key, subscription_at}
use Rattle.cluster_objects.specs.Stamps.{stamps_of}
use Rattle.cluster_objects.specs.declared.groups.ClaimsStatus.{ClaimsStatus}
use Rattle.cluster_objects.specs.declared.objects.Object.{Object}
use Rattle.cluster_objects.specs.declared.objects.Write.{Write}
use Rattle.cluster_objects.specs.declared.objects.Writer.TheVariants as writer
use Rattle.cluster_objects.specs.declared.statuses.Crd.{Crd}
use Rattle.cluster_objects.specs.declared.statuses.CsvPhase.{CsvPhase}
use Rattle.cluster_objects.specs.declared.statuses.CsvPhase.TheVariants as phase
use Rattle.cluster_objects.specs.declared.statuses.CsvStatus.{CsvStatus}
use Rattle.cluster_objects.specs.declared.statuses.SubState.{SubState}
use Rattle.cluster_objects.specs.declared.statuses.SubscriptionStatus.{SubscriptionStatus}
use Rattle.cluster_history.specs.History.{IsInOrder}
use Rattle.cluster_history.specs.Views.{View}
use Rattle.operator_groups.specs.Acts.{acts}
use Rattle.operator_groups.specs.Claiming.{AreDisjoint}
use Rattle.operator_groups.specs.declared.claiming.Claimed.{Claimed}
use Rattle.operator_groups.specs.declared.claiming.Claimed.TheVariants.{Held, Taken, Next}
use Rattle.operator_groups.specs.declared.groups.Acts.{Acts}
use Rattle.operator_groups.specs.declared.groups.Acts.TheVariants.{Ungrouped, Several, In as Within, Everywhere}
use Rattle.operator_groups.proofs.Disjoint.{stay}
use Rattle.operator_groups.proofs.Members.{In, get_in}
use Rattle.csv_phases.specs.Conditions.{claim_of, claims, claims_of, first_unheld, is_held}
use Rattle.csv_phases.specs.Csvs.{Csv, csvs, is_in}
use Rattle.csv_phases.specs.Edges.{IsCsvEdge, applies, row}
use Rattle.csv_phases.specs.Laws.{IsAside, IsPhasesWrite}
use Rattle.csv_phases.specs.Phases.{claims_write, next_claims, phases_writes, puts, removes, with_phase, with_state}
use Rattle.csv_phases.specs.States.{IsSubscriptionEdge, Subscription, same_state, state_of, subscriptions}
use Rattle.csv_phases.specs.declared.edges.Edge.{Edge}
use Rattle.csv_phases.specs.declared.edges.Edge.TheVariants.{Begin, Ready, Unready, Misfit, Deploy, Succeed, InstallFailed, CrdLost, DeploymentLost, Recover, Replaced, Retire, Remove}
use Rattle.csv_phases.proofs.Keys.{IsSpared, csv_keyed, csv_no_claims, csv_no_subscription, csv_spared, csv_stands, deployment_no_csv, deployment_spared, subscription_keyed, subscription_no_claims, subscription_no_csv, subscription_spared, subscription_stands}
use Rattle.csv_phases.proofs.Members.{Member, OfClaims, OfCollection, OfDeployment, OfEdge, OfState, in_mapped, made, member, through}

-- what is so of each part is so of each write
pub of_write : (view : View) (w : Write) → IsPhasesWrite view w → Member view w
of_write view w is = member view w (get_in (phases_writes view) is.0 w is.1)

wrong : {T : Type 0} (b : Bool) (o : Option T) (x : T) → b ≡ false → cond b o None ≡ Some x → ⊥
wrong true o x b h = absurd (let bad : true ≡ false = b in cc)
wrong false o x b h = absurd (let bad : None ≡ Some x = h in cc)

nothing : {T : Type 0} (b : Bool) (x : T) → cond b None None ≡ Some x → ⊥
nothing true x h = absurd (let bad : None ≡ Some x = h in cc)
nothing false x h = absurd (let bad : None ≡ Some x = h in cc)

-- ---- aside

abbrev Aside : Write → Type 0
Aside w = (w.by ≡ writer.Phases) × IsAside w

aside : (w : Write) → w.by ≡ writer.Phases → stamps_of w.object ≡ [] → IsSpared w.key → Aside w
aside w by bare key =
    (by, record { bare = bare; plan = key.plan; resolution = key.resolution; catalog = key.catalog })

edge_aside : (view : View) (csv : Csv) (to : Option CsvPhase) → is_csv_key csv.key ≡ true → Aside (made view csv to)
edge_aside view csv None key = aside (made view csv None) refl refl (csv_spared csv.key key)
edge_aside view csv (Some new) key = aside (made view csv (Some new)) refl refl (csv_spared csv.key key)

pub all_aside : (view : View) (w : Write) → Member view w → Aside w
all_aside view w (OfEdge csv edge among holds is) =
    subst Aside (sym is) (edge_aside view csv (row view csv edge).to (csv_keyed view csv among))
all_aside view w (OfClaims csv next comes is) =
    subst Aside (sym is) (aside (claims_write view next) refl refl (record { plan = refl; resolution = refl; catalog = refl }))
all_aside view w (OfDeployment csv name version is) =
    subst Aside (sym is) (aside _ refl refl (record { plan = refl; resolution = refl; catalog = refl }))
all_aside view w (OfCollection e kind is) =
    subst Aside (sym is) (aside (removes e.0 e.1.version) refl refl (deployment_spared e.0 kind))
all_aside view w (OfState s among differs is) =
    subst Aside (sym is) (aside _ refl refl (subscription_spared s.key (subscription_keyed view s among)))

-- ---- edges of CSVs that are put

abbrev PutsAlong : View → Write → Type 0
PutsAlong view w = (new : CsvStatus) → csv_at w.key w.object ≡ Some new → (old : CsvPhase) × IsCsvEdge view w.key old (Some new.phase)

same_csv : (a b : CsvStatus) → Some a ≡ Some b → a ≡ b
same_csv a b e = ap (λ o. elim o [ None ↦ a | Some x ↦ x ]) e

edge_put : (view : View) (csv : Csv) (edge : Edge) → IsInOrder view.slots → In (csvs view) csv → applies view csv edge ≡ true
    → (to : Option CsvPhase) → (row view csv edge).to ≡ to → PutsAlong view (made view csv to)
edge_put view csv edge up among holds None to new h = absurd (nothing (is_csv_key csv.key) new h)
edge_put view csv edge up among holds (Some p) to new h =
    let found = (through (is_csv_key csv.key) (as_csv (Some (with_phase view csv p))) new h).1 in
    let same : p ≡ new.phase = ap (λ (s : CsvStatus). s.phase) (same_csv (record csv.status { phase = p }) new found) in (
      csv.status.phase,
      record {
        csv = csv;
        stands = csv_stands view csv up among;
        from = refl;
        edge = edge;
        holds = holds;
        to = to ∙ ap Some same;
      },
    )

pub all_put : (view : View) (w : Write) → IsInOrder view.slots → Member view w → PutsAlong view w
all_put view w up (OfEdge csv edge among holds is) =
    subst (PutsAlong view) (sym is) (edge_put view csv edge up among holds (row view csv edge).to refl)
all_put view w up (OfClaims csv next comes is) =
    subst (PutsAlong view) (sym is) (λ new h. absurd (let bad : None ≡ Some new = h in cc))
all_put view w up (OfDeployment csv name version is) =
    subst (PutsAlong view) (sym is) (λ new h. absurd (let bad : None ≡ Some new = h in cc))
all_put view w up (OfCollection e kind is) =
    subst (PutsAlong view) (sym is) (λ new h. absurd (nothing (is_csv_key e.0) new h))
all_put view w up (OfState s among differs is) =
    subst (PutsAlong view) (sym is)
    (λ new h. absurd (wrong (is_csv_key s.key) _ new (subscription_no_csv s.key (subscription_keyed view s among)) h))

-- ---- removals

abbrev RemovesAlong : View → Write → Type 0
RemovesAlong view w = w.object ≡ None → is_csv_key w.key ≡ true → IsCsvEdge view w.key phase.Deleting None

deleting : (p : CsvPhase) → is_in phase.Deleting p ≡ true → p ≡ phase.Deleting
deleting phase.Nothing h = absurd (let bad : false ≡ true = h in cc)
deleting phase.Pending h = absurd (let bad : false ≡ true = h in cc)
deleting phase.InstallReady h = absurd (let bad : false ≡ true = h in cc)
deleting phase.Installing h = absurd (let bad : false ≡ true = h in cc)
deleting phase.Succeeded h = absurd (let bad : false ≡ true = h in cc)
deleting phase.Failed h = absurd (let bad : false ≡ true = h in cc)
deleting phase.Replacing h = absurd (let bad : false ≡ true = h in cc)
deleting phase.Deleting h = refl

goes_on : {p : CsvPhase} (new : CsvPhase) → Some new ≡ None → p ≡ phase.Deleting
goes_on new e = absurd (let bad : Some new ≡ None = e in cc)

removed : (view : View) (csv : Csv) (edge : Edge) (p : CsvPhase) → (row view csv edge).from p ≡ true
    → (row view csv edge).to ≡ None → p ≡ phase.Deleting
removed view csv Begin p h e = goes_on phase.Pending e
removed view csv Ready p h e = goes_on phase.InstallReady e
removed view csv Unready p h e = goes_on phase.Pending e
removed view csv Misfit p h e = goes_on phase.Failed e
removed view csv Deploy p h e = goes_on phase.Installing e
removed view csv Succeed p h e = goes_on phase.Succeeded e
removed view csv InstallFailed p h e = goes_on phase.Failed e
removed view csv CrdLost p h e = goes_on phase.Pending e
removed view csv DeploymentLost p h e = goes_on phase.Failed e
removed view csv Recover p h e = goes_on phase.Pending e
removed view csv Replaced p h e = goes_on phase.Replacing e
removed view csv Retire p h e = goes_on phase.Deleting e
removed view csv Remove p h e = deleting p h

puts_some : {T : Type 0} (object : Object) → Some object ≡ None → T
puts_some object h = absurd (let bad : Some object ≡ None = h in cc)

edge_removal : (view : View) (csv : Csv) (edge : Edge) → IsInOrder view.slots → In (csvs view) csv → applies view csv edge ≡ true
    → (to : Option CsvPhase) → (row view csv edge).to ≡ to → RemovesAlong view (made view csv to)
edge_removal view csv edge up among holds (Some p) to none key = puts_some (with_phase view csv p) none
edge_removal view csv edge up among holds None to none key =
    let from = (and_parts ((row view csv edge).from csv.status.phase) (row view csv edge).holds holds).0 in
    record {
      csv = csv;
      stands = csv_stands view csv up among;
      from = removed view csv edge csv.status.phase from to;
      edge = edge;
      holds = holds;
      to = to;
    }

pub all_removed : (view : View) (w : Write) → IsInOrder view.slots → Member view w → RemovesAlong view w
all_removed view w up (OfEdge csv edge among holds is) =
    subst (RemovesAlong view) (sym is) (edge_removal view csv edge up among holds (row view csv edge).to refl)
all_removed view w up (OfClaims csv next comes is) = subst (RemovesAlong view) (sym is) (λ none key. puts_some _ none)
all_removed view w up (OfDeployment csv name version is) = subst (RemovesAlong view) (sym is) (λ none key. puts_some _ none)
all_removed view w up (OfCollection e kind is) =
    subst (RemovesAlong view) (sym is) (λ none key. absurd (let bad : true ≡ false = sym key ∙ deployment_no_csv e.0 kind in cc))
all_removed view w up (OfState s among differs is) = subst (RemovesAlong view) (sym is) (λ none key. puts_some _ none)

-- ---- states

abbrev StatesAlong : View → Write → Type 0
StatesAlong view w =
    (new : SubscriptionStatus) → subscription_at w.key w.object ≡ Some new → (old : SubState) × IsSubscriptionEdge view w.key old new.state

same_sub : (a b : SubscriptionStatus) → Some a ≡ Some b → a ≡ b
same_sub a b e = ap (λ o. elim o [ None ↦ a | Some x ↦ x ]) e

edge_state : (view : View) (csv : Csv) (to : Option CsvPhase) → is_csv_key csv.key ≡ true → StatesAlong view (made view csv to)
edge_state view csv None key new h = absurd (nothing (is_subscription_key csv.key) new h)
edge_state view csv (Some p) key new h = absurd (wrong (is_subscription_key csv.key) _ new (csv_no_subscription csv.key key) h)

state_put : (view : View) (s : Subscription) → IsInOrder view.slots → In (subscriptions view) s
    → same_state s.status.state (state_of view s.status.spec) ≡ false
    → StatesAlong view (puts s.key s.version (with_state view s (state_of view s.status.spec)))
state_put view s up among differs new h =
    let to = state_of view s.status.spec in
    let found = (through (is_subscription_key s.key) (as_subscription (Some (with_state view s to))) new h).1 in
    let same : to ≡ new.state = ap (λ (x : SubscriptionStatus). x.state) (same_sub (record s.status { state = to }) new found) in (
      s.status.state,
      record {
        subscription = s;
        stands = subscription_stands view s up among;
        from = refl;
        to = same;
        differs = ap (same_state s.status.state) (sym same) ∙ differs;
      },
    )

pub all_states : (view : View) (w : Write) → IsInOrder view.slots → Member view w → StatesAlong view w
all_states view w up (OfEdge csv edge among holds is) =
    subst (StatesAlong view) (sym is) (edge_state view csv (row view csv edge).to (csv_keyed view csv among))
all_states view w up (OfClaims csv next comes is) =
    subst (StatesAlong view) (sym is) (λ new h. absurd (let bad : None ≡ Some new = h in cc))
all_states view w up (OfDeployment csv name version is) =
    subst (StatesAlong view) (sym is) (λ new h. absurd (let bad : None ≡ Some new = h in cc))
all_states view w up (OfCollection e kind is) =
    subst (StatesAlong view) (sym is) (λ new h. absurd (nothing (is_subscription_key e.0) new h))
all_states view w up (OfState s among differs is) = subst (StatesAlong view) (sym is) (state_put view s up among differs)

-- ---- claims

abbrev KeepsClaims : View → Write → Type 0
KeepsClaims view w =
    (new : ClaimsStatus) → claims_at w.key w.object ≡ Some new → AreDisjoint (claims view) → AreDisjoint new.entries

abbrev next_in : Option Claimed → Option ClaimsStatus
next_in unheld = elim unheld [
  | None ↦ None
  | Some claimed ↦ (elim claimed [ Held ↦ None | Taken namespace ↦ None | Next next ↦ Some next ])
]

is_next : (o : Option Claimed) (next : ClaimsStatus) → next_in o ≡ Some next → o ≡ Some (Next next)
is_next None next h = absurd (let bad : None ≡ Some next = h in cc)
is_next (Some Held) next h = absurd (let bad : None ≡ Some next = h in cc)
is_next (Some (Taken namespace)) next h = absurd (let bad : None ≡ Some next = h in cc)
is_next (Some (Next other)) next h = ap (λ o. elim o [ None ↦ Some (Next other) | Some x ↦ Some (Next x) ]) h

found_by : (p : Claimed → Bool) (b : Bool) (x : Claimed) (rest : Option Claimed) (c : Claimed) (xs : List Claimed)
    → (rest ≡ Some c → In xs c) → cond b (Some x) rest ≡ Some c → In (x ∷ xs) c
found_by p true x rest c xs more h = inl (ap (λ o. elim o [ None ↦ c | Some y ↦ y ]) (sym h))
found_by p false x rest c xs more h = inr (more h)

found_in : (p : Claimed → Bool) (xs : List Claimed) (c : Claimed) → find p xs ≡ Some c → In xs c
found_in p [] c h = absurd (let bad : None ≡ Some c = h in cc)
found_in p (x ∷ xs) c h = found_by p (p x) x (find p xs) c xs (found_in p xs c) h

abbrev unheld_by : View → Csv → Acts → Option Claimed
unheld_by view csv a = elim a [
  | Ungrouped ↦ None
  | Several ↦ None
  | Within targets ↦ find (λ claimed. not (is_held claimed)) (claims_of view (Some targets) csv)
  | Everywhere ↦ find (λ claimed. not (is_held claimed)) (claims_of view None csv)
]

next_claimed : (c d : Claimed) → Some c ≡ Some d → c ≡ d
next_claimed c d e = ap (λ o. elim o [ None ↦ c | Some x ↦ x ]) e

claimed_by : (view : View) (csv : Csv) (targets : Option (List (List ℕ))) (c : Claimed)
    → find (λ claimed. not (is_held claimed)) (claims_of view targets csv) ≡ Some c → (crd : Crd) × (c ≡ claim_of view targets crd)
claimed_by view csv targets c h =
    let (crd, among, is) = in_mapped (claim_of view targets) csv.status.owned c (found_in _ (claims_of view targets csv) c h) in
    (crd, is)

unheld : (view : View) (csv : Csv) (a : Acts) (c : Claimed) → unheld_by view csv a ≡ Some c
    → (targets : Option (List (List ℕ))) × (crd : Crd) × (c ≡ claim_of view targets crd)
unheld view csv Ungrouped c h = absurd (let bad : None ≡ Some c = h in cc)
unheld view csv Several c h = absurd (let bad : None ≡ Some c = h in cc)
unheld view csv (Within targets) c h = let (crd, is) = claimed_by view csv (Some targets) c h in (Some targets, crd, is)
unheld view csv Everywhere c h = let (crd, is) = claimed_by view csv None c h in (None, crd, is)

same_claims : (a b : ClaimsStatus) → Some a ≡ Some b → a ≡ b
same_claims a b e = ap (λ o. elim o [ None ↦ a | Some x ↦ x ]) e

claims_put : (view : View) (csv : Csv) (next : ClaimsStatus) → next_claims view csv ≡ Some next → KeepsClaims view (claims_write view next)
claims_put view csv next comes new h disjoint =
    let (targets, crd, is) = unheld view csv (acts view) (Next next) (is_next (first_unheld view csv) next comes) in
    let stays = stay (claims view) _ next disjoint (sym is) in
    subst (λ (c : ClaimsStatus). AreDisjoint c.entries) (same_claims next new h) stays

edge_claims : (view : View) (csv : Csv) (to : Option CsvPhase) → is_csv_key csv.key ≡ true → KeepsClaims view (made view csv to)
edge_claims view csv None key new h = absurd (nothing (is_claims_key csv.key) new h)
edge_claims view csv (Some p) key new h = absurd (wrong (is_claims_key csv.key) _ new (csv_no_claims csv.key key) h)

pub all_claims : (view : View) (w : Write) → Member view w → KeepsClaims view w
all_claims view w (OfEdge csv edge among holds is) =
    subst (KeepsClaims view) (sym is) (edge_claims view csv (row view csv edge).to (csv_keyed view csv among))
all_claims view w (OfClaims csv next comes is) = subst (KeepsClaims view) (sym is) (claims_put view csv next comes)
all_claims view w (OfDeployment csv name version is) =
    subst (KeepsClaims view) (sym is) (λ new h. absurd (let bad : None ≡ Some new = h in cc))
all_claims view w (OfCollection e kind is) =
    subst (KeepsClaims view) (sym is) (λ new h. absurd (nothing (is_claims_key e.0) new h))
all_claims view w (OfState s among differs is) =
    subst (KeepsClaims view) (sym is)
    (λ new h. absurd (wrong (is_claims_key s.key) _ new (subscription_no_claims s.key (subscription_keyed view s among)) h))
