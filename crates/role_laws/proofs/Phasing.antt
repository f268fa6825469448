-- What a write of the role phases does at its key, in the view that it has it in.
use Rattle.std.proofs.Common.{◌≡◌, true, false, Option, Some, None, refl, sym, ap, ◌∙◌, subst}
use Rattle.std.specs.Option.{option_map}
use Rattle.cluster_objects.specs.Keys.{same_text}
use Rattle.cluster_objects.specs.Kinds.{as_claims, claims_at, csv_at, is_claims_key, is_csv_key, is_lease_key, is_subscription_key, subscription_at}
use Rattle.cluster_objects.specs.Places.{claims_key}
use Rattle.cluster_objects.specs.declared.groups.ClaimsStatus.{ClaimsStatus}
use Rattle.cluster_objects.specs.declared.keys.Key.{Key}
use Rattle.cluster_objects.specs.declared.objects.Write.{Write}
use Rattle.cluster_objects.specs.declared.statuses.CsvPhase.{CsvPhase}
use Rattle.cluster_objects.specs.declared.statuses.CsvStatus.{CsvStatus}
use Rattle.cluster_objects.specs.declared.statuses.SubscriptionStatus.{SubscriptionStatus}
use Rattle.cluster_objects.proofs.Stamping.{same_text-true}
use Rattle.cluster_history.specs.History.{IsInOrder, slot_in}
use Rattle.cluster_history.specs.Views.{View}
use Rattle.cluster_history.specs.declared.slots.Slot.{Slot}
use Rattle.view_basis.specs.Tips.{csv_in}
use Rattle.operator_groups.proofs.Members.{In}
use Rattle.csv_phases.specs.Csvs.{Csv, csv_entry, csv_of, csvs}
use Rattle.csv_phases.specs.Edges.{applies, csv_there, row}
use Rattle.csv_phases.specs.Phases.{claims_write, with_phase}
use Rattle.csv_phases.specs.States.{IsSubscriptionEdge, Subscription, same_state, state_of, subscription_entry, subscription_of, subscriptions}
use Rattle.csv_phases.specs.Phases.{puts, with_state}
use Rattle.csv_phases.specs.declared.edges.Edge.{Edge}
use Rattle.csv_phases.proofs.Keys.{csv_keyed, csv_no_claims, csv_no_subscription, csv_stands, deployment_no_csv, subscription_keyed, subscription_no_claims, subscription_no_csv, subscription_stands}
use Rattle.csv_phases.proofs.Members.{Member, OfClaims, OfCollection, OfDeployment, OfEdge, OfState, inside, made, then_inside, through}
use Rattle.lawful_events.proofs.Chains.{none_is_some, some_is, true_or_false}
use Rattle.role_laws.specs.Csvs.{phase_of}
use Rattle.role_laws.proofs.Separate.{csv_no_lease, deployment_no_lease, deployment_no_subscription, it_counts, nothing_counts, subscription_no_lease}

-- ---- CSVs

-- the CSV of a slot, and what stands in the slot
record IsEntry (view : View) (e : Key × Slot) (csv : Csv) : Type 0 where
  version : csv.version ≡ e.1.version
  own : e.0.namespace ≡ view.namespace
  there : csv_at e.0 e.1.object ≡ Some csv.status

entry_is : (view : View) (e : Key × Slot) (csv : Csv) → csv_entry view e ≡ Some csv → IsEntry view e csv
entry_is view e csv h =
    let (status, is, made) = then_inside (csv_of e) (csv_in view.namespace e) csv h in
    let (own, at) = through (same_text e.0.namespace view.namespace) (csv_at e.0 e.1.object) status is in
    let (object, stands, same) =
    inside (λ object. let c : Csv = record { key = e.0; version = e.1.version; object = object; status = status } in c) e.1.object csv made in
    record {
      version = ap (λ (c : Csv). c.version) (sym same);
      own = same_text-true e.0.namespace view.namespace own;
      there = at ∙ ap (λ (c : Csv). Some c.status) same;
    }

-- the write leads the CSV at its key along an edge
pub record LeadsCsv (view : View) (w : Write) : Type 0 where
  pub csv : Csv
  pub edge : Edge
  pub stands : csv_there view w.key ≡ Some csv
  pub holds : applies view csv edge ≡ true
  pub to : (row view csv edge).to ≡ phase_of w.key w.object
  pub expects : w.expect ≡ (slot_in view.slots w.key).version
  pub own : w.key.namespace ≡ view.namespace
  pub there : csv_at w.key (slot_in view.slots w.key).object ≡ Some csv.status
  pub owned : (new : CsvStatus) → csv_at w.key w.object ≡ Some new → new.owned ≡ csv.status.owned

leads : (view : View) (csv : Csv) (edge : Edge) → IsInOrder view.slots → In (csvs view) csv → applies view csv edge ≡ true
    → (to : Option CsvPhase) → (row view csv edge).to ≡ to → LeadsCsv view (made view csv to)
leads view csv edge up among holds None to =
    let stands = csv_stands view csv up among in
    let entry = entry_is view (csv.key, slot_in view.slots csv.key) csv stands in
    let none : csv_at csv.key None ≡ None = nothing_counts (is_csv_key csv.key) in
    record {
      csv = csv;
      edge = edge;
      stands = stands;
      holds = holds;
      to = to ∙ sym (ap (λ o. option_map (λ (s : CsvStatus). s.phase) o) none);
      expects = entry.version;
      own = entry.own;
      there = entry.there;
      owned = λ new is. absurd (none_is_some new (sym none ∙ is));
    }
leads view csv edge up among holds (Some p) to =
    let stands = csv_stands view csv up among in
    let entry = entry_is view (csv.key, slot_in view.slots csv.key) csv stands in
    let put : CsvStatus = record csv.status { phase = p } in
    let written : csv_at csv.key (Some (with_phase view csv p)) ≡ Some put = it_counts (is_csv_key csv.key) (Some put) (csv_keyed view csv among) in
    record {
      csv = csv;
      edge = edge;
      stands = stands;
      holds = holds;
      to = to ∙ sym (ap (λ o. option_map (λ (s : CsvStatus). s.phase) o) written);
      expects = entry.version;
      own = entry.own;
      there = entry.there;
      owned = λ new is. ap (λ (s : CsvStatus). s.owned) (some_is new put (sym is ∙ written));
    }

pub leads_csv : (view : View) (w : Write) → IsInOrder view.slots → is_csv_key w.key ≡ true → Member view w → LeadsCsv view w
leads_csv view w up kind (OfEdge csv edge among holds is) =
    subst (LeadsCsv view) (sym is) (leads view csv edge up among holds (row view csv edge).to refl)
leads_csv view w up kind (OfClaims csv next comes is) =
    absurd (true_or_false (is_csv_key w.key) kind (ap (λ (x : Write). is_csv_key x.key) is))
leads_csv view w up kind (OfDeployment csv name version is) =
    absurd (true_or_false (is_csv_key w.key) kind (ap (λ (x : Write). is_csv_key x.key) is))
leads_csv view w up kind (OfCollection e deployment is) =
    absurd (true_or_false (is_csv_key w.key) kind (ap (λ (x : Write). is_csv_key x.key) is ∙ deployment_no_csv e.0 deployment))
leads_csv view w up kind (OfState s among differs is) =
    absurd (true_or_false (is_csv_key w.key) kind
    (ap (λ (x : Write). is_csv_key x.key) is ∙ subscription_no_csv s.key (subscription_keyed view s among)))

-- ---- Subscriptions

record IsSubscriptionEntry (view : View) (e : Key × Slot) (s : Subscription) : Type 0 where
  version : s.version ≡ e.1.version
  own : e.0.namespace ≡ view.namespace
  there : subscription_at e.0 e.1.object ≡ Some s.status

subscription_entry_is : (view : View) (e : Key × Slot) (s : Subscription) → subscription_entry view e ≡ Some s → IsSubscriptionEntry view e s
subscription_entry_is view e s h =
    let (own, there) = through (same_text e.0.namespace view.namespace) _ s h in
    let (object, stands, made) = then_inside (subscription_of e) e.1.object s there in
    let (status, at, same) =
    inside (λ status. let x : Subscription = record { key = e.0; version = e.1.version; object = object; status = status } in x)
    (subscription_at e.0 (Some object)) s made in
    record {
      version = ap (λ (x : Subscription). x.version) (sym same);
      own = same_text-true e.0.namespace view.namespace own;
      there = ap (λ o. subscription_at e.0 o) stands ∙ at ∙ ap (λ (x : Subscription). Some x.status) same;
    }

-- the write leads the Subscription at its key along an edge
pub record LeadsSubscription (view : View) (w : Write) : Type 0 where
  pub old : SubscriptionStatus
  pub new : SubscriptionStatus
  pub edge : IsSubscriptionEdge view w.key old.state new.state
  pub expects : w.expect ≡ (slot_in view.slots w.key).version
  pub own : w.key.namespace ≡ view.namespace
  pub there : subscription_at w.key (slot_in view.slots w.key).object ≡ Some old
  pub put : subscription_at w.key w.object ≡ Some new

state_leads : (view : View) (s : Subscription) → IsInOrder view.slots → In (subscriptions view) s
    → same_state s.status.state (state_of view s.status.spec) ≡ false
    → LeadsSubscription view (puts s.key s.version (with_state view s (state_of view s.status.spec)))
state_leads view s up among differs =
    let stands = subscription_stands view s up among in
    let entry = subscription_entry_is view (s.key, slot_in view.slots s.key) s stands in
    let new : SubscriptionStatus = record s.status { state = state_of view s.status.spec } in
    record {
      old = s.status;
      new = new;
      edge = record { subscription = s; stands = stands; from = refl; to = refl; differs = differs };
      expects = entry.version;
      own = entry.own;
      there = entry.there;
      put = it_counts (is_subscription_key s.key) (Some new) (subscription_keyed view s among);
    }

edge_key : (view : View) (csv : Csv) (to : Option CsvPhase) → (made view csv to).key ≡ csv.key
edge_key view csv None = refl
edge_key view csv (Some new) = refl

csv_written : (view : View) (w : Write) (csv : Csv) (to : Option CsvPhase) → In (csvs view) csv → w ≡ made view csv to → is_csv_key w.key ≡ true
csv_written view w csv to among is =
    ap (λ (x : Write). is_csv_key x.key) is ∙ ap is_csv_key (edge_key view csv to) ∙ csv_keyed view csv among

pub leads_subscription : (view : View) (w : Write) → IsInOrder view.slots → is_subscription_key w.key ≡ true → Member view w
    → LeadsSubscription view w
leads_subscription view w up kind (OfEdge csv edge among holds is) =
    absurd (true_or_false (is_subscription_key w.key) kind
    (csv_no_subscription w.key (csv_written view w csv (row view csv edge).to among is)))
leads_subscription view w up kind (OfClaims csv next comes is) =
    absurd (true_or_false (is_subscription_key w.key) kind (ap (λ (x : Write). is_subscription_key x.key) is))
leads_subscription view w up kind (OfDeployment csv name version is) =
    absurd (true_or_false (is_subscription_key w.key) kind (ap (λ (x : Write). is_subscription_key x.key) is))
leads_subscription view w up kind (OfCollection e deployment is) =
    absurd (true_or_false (is_subscription_key w.key) kind
    (ap (λ (x : Write). is_subscription_key x.key) is ∙ deployment_no_subscription e.0 deployment))
leads_subscription view w up kind (OfState s among differs is) =
    subst (LeadsSubscription view) (sym is) (state_leads view s up among differs)

-- ---- claims

-- the write is of the claims, over those of the view
pub record PutsClaims (view : View) (w : Write) : Type 0 where
  pub key : w.key ≡ claims_key
  pub expects : w.expect ≡ (slot_in view.slots w.key).version

claims_kind : (w : Write) (new : ClaimsStatus) → claims_at w.key w.object ≡ Some new → is_claims_key w.key ≡ true
claims_kind w new is = (through (is_claims_key w.key) (as_claims w.object) new is).0

pub puts_claims : (view : View) (w : Write) (new : ClaimsStatus) → claims_at w.key w.object ≡ Some new → Member view w → PutsClaims view w
puts_claims view w new put (OfEdge csv edge among holds is) =
    absurd (true_or_false (is_claims_key w.key) (claims_kind w new put)
    (csv_no_claims w.key (csv_written view w csv (row view csv edge).to among is)))
puts_claims view w new put (OfClaims csv next comes is) =
    subst (PutsClaims view) (sym is) (let p : PutsClaims view (claims_write view next) = record { key = refl; expects = refl } in p)
puts_claims view w new put (OfDeployment csv name version is) =
    absurd (true_or_false (is_claims_key w.key) (claims_kind w new put) (ap (λ (x : Write). is_claims_key x.key) is))
puts_claims view w new put (OfCollection e deployment is) =
    absurd (none_is_some new
    (sym (ap (λ (x : Write). claims_at x.key x.object) is ∙ nothing_counts (is_claims_key e.0)) ∙ put))
puts_claims view w new put (OfState s among differs is) =
    absurd (true_or_false (is_claims_key w.key) (claims_kind w new put)
    (ap (λ (x : Write). is_claims_key x.key) is ∙ subscription_no_claims s.key (subscription_keyed view s among)))

-- ---- leases

pub no_lease : (view : View) (w : Write) → Member view w → is_lease_key w.key ≡ false
no_lease view w (OfEdge csv edge among holds is) = csv_no_lease w.key (csv_written view w csv (row view csv edge).to among is)
no_lease view w (OfClaims csv next comes is) = ap (λ (x : Write). is_lease_key x.key) is
no_lease view w (OfDeployment csv name version is) = ap (λ (x : Write). is_lease_key x.key) is
no_lease view w (OfCollection e deployment is) = ap (λ (x : Write). is_lease_key x.key) is ∙ deployment_no_lease e.0 deployment
no_lease view w (OfState s among differs is) =
    ap (λ (x : Write). is_lease_key x.key) is ∙ subscription_no_lease s.key (subscription_keyed view s among)
