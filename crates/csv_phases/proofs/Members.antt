-- What each write of the role phases is made of.
use Rattle.std.proofs.Common.{◌≡◌, ◌⊎◌, Bool, true, false, cond, ◌&&◌, not, List, [], ◌∷◌, ◌++◌, ℕ, Option, Some, None, map, refl, sym, ap, ◌∙◌, inl, inr}
use Rattle.std.specs.List.{cons_option, filter, filter_map, flat_map}
use Rattle.std.specs.Option.{is_some, option_and_then, option_map}
use Rattle.std.proofs.lemmas.Bool.{and_parts}
use Rattle.cluster_objects.specs.Keys.{same_text}
use Rattle.cluster_objects.specs.Kinds.{as_deployment, is_deployment_key}
use Rattle.cluster_objects.specs.Places.{deployment_key}
use Rattle.cluster_objects.specs.declared.groups.ClaimsStatus.{ClaimsStatus}
use Rattle.cluster_objects.specs.declared.keys.Key.{Key}
use Rattle.cluster_objects.specs.declared.objects.Write.{Write}
use Rattle.cluster_objects.specs.declared.statuses.CsvPhase.{CsvPhase}
use Rattle.cluster_objects.specs.declared.statuses.CsvPhase.TheVariants as phase
use Rattle.cluster_history.specs.History.{slot_in}
use Rattle.cluster_history.specs.Views.{View}
use Rattle.cluster_history.specs.declared.slots.Slot.{Slot}
use Rattle.operator_groups.proofs.Members.{In, in_append}
use Rattle.csv_phases.specs.Conditions.{is_missing, group_fits}
use Rattle.csv_phases.specs.Csvs.{Csv, csvs, deployment_in, is_in}
use Rattle.csv_phases.specs.Edges.{applies, chosen}
use Rattle.csv_phases.specs.Phases.{claims_write, claims_writes, collection_writes, deployment_write, deployment_writes, edge_write, edge_writes, is_collected, is_free, is_listed, is_orphan, new_deployment, next_claims, phases_writes, puts, removal_writes, removes, state_write, state_writes, with_phase, with_state}
use Rattle.csv_phases.specs.States.{Subscription, same_state, state_of, subscriptions}
use Rattle.csv_phases.specs.declared.edges.Edge.{Edge}
use Rattle.csv_phases.specs.declared.edges.Edge.TheVariants.{Remove}
use Rattle.csv_phases.proofs.Leading.{chosen_applies}

-- ---- members of lists

from_cons : {Y : Type 0} (o : Option Y) (ys : List Y) (y : Y) → In (cons_option o ys) y → (o ≡ Some y) ⊎ In ys y
from_cons None ys y h = inr h
from_cons (Some z) ys y (inl e) = inl (ap Some (sym e))
from_cons (Some z) ys y (inr h) = inr h

pub in_picked : {X Y : Type 0} (f : X → Option Y) (xs : List X) (y : Y) → In (filter_map f xs) y → (x : X) × In xs x × (f x ≡ Some y)
in_picked f [] y h = absurd h
in_picked f (x ∷ xs) y h =
    elim (from_cons (f x) (filter_map f xs) y h) [
      | inl e ↦ (x, inl refl, e)
      | inr r ↦ (let (z, among, is) = in_picked f xs y r in (z, inr among, is))
    ]

kept_by : {X : Type 0} (b : Bool) (y : X) (ys : List X) (x : X) → In (cond b (y ∷ ys) ys) x → ((x ≡ y) × (b ≡ true)) ⊎ In ys x
kept_by true y ys x (inl e) = inl (e, refl)
kept_by true y ys x (inr r) = inr r
kept_by false y ys x h = inr h

in_kept : {X : Type 0} (p : X → Bool) (xs : List X) (x : X) → In (filter p xs) x → In xs x × (p x ≡ true)
in_kept p [] x h = absurd h
in_kept p (y ∷ ys) x h =
    elim (kept_by (p y) y (filter p ys) x h) [
      | inl e ↦ (inl e.0, ap p e.0 ∙ e.1)
      | inr r ↦ (let (among, is) = in_kept p ys x r in (inr among, is))
    ]

pub in_mapped : {X Y : Type 0} (f : X → Y) (xs : List X) (y : Y) → In (map f xs) y → (x : X) × In xs x × (y ≡ f x)
in_mapped f [] y h = absurd h
in_mapped f (x ∷ xs) y (inl e) = (x, inl refl, e)
in_mapped f (x ∷ xs) y (inr r) = let (z, among, is) = in_mapped f xs y r in (z, inr among, is)

in_flat : {X Y : Type 0} (f : X → List Y) (xs : List X) (y : Y) → In (flat_map f xs) y → (x : X) × In xs x × In (f x) y
in_flat f [] y h = absurd h
in_flat f (x ∷ xs) y h =
    elim (in_append (f x) (flat_map f xs) y h) [
      | inl a ↦ (x, inl refl, a)
      | inr b ↦ (let (z, among, is) = in_flat f xs y b in (z, inr among, is))
    ]

-- ---- options

pub through : {T : Type 0} (b : Bool) (o : Option T) (x : T) → cond b o None ≡ Some x → (b ≡ true) × (o ≡ Some x)
through true o x h = (refl, h)
through false o x h = absurd (let bad : None ≡ Some x = h in cc)

kept_back : {T : Type 0} (b : Bool) (y x : T) → cond b None (Some y) ≡ Some x → (b ≡ false) × (y ≡ x)
kept_back true y x h = absurd (let bad : None ≡ Some x = h in cc)
kept_back false y x h = (refl, ap (λ o. elim o [ None ↦ x | Some z ↦ z ]) h)

pub inside : {T U : Type 0} (f : T → U) (o : Option T) (y : U) → option_map f o ≡ Some y → (x : T) × (o ≡ Some x) × (f x ≡ y)
inside f None y h = absurd (let bad : None ≡ Some y = h in cc)
inside f (Some x) y h = (x, refl, ap (λ o. elim o [ None ↦ f x | Some z ↦ z ]) h)

pub then_inside : {T U : Type 0} (f : T → Option U) (o : Option T) (y : U) → option_and_then f o ≡ Some y → (x : T) × (o ≡ Some x) × (f x ≡ Some y)
then_inside f None y h = absurd (let bad : None ≡ Some y = h in cc)
then_inside f (Some x) y h = (x, refl, h)

there_or_not : {T : Type 0} (b : Bool) (o : Option T) → is_some (cond b o None) ≡ true → is_some o ≡ true
there_or_not true o h = h
there_or_not false o h = absurd (let bad : false ≡ true = h in cc)

test_of : {T : Type 0} (b : Bool) (o : Option T) → is_some (cond b o None) ≡ true → b ≡ true
test_of true o h = refl
test_of false o h = h

-- ---- the writes

-- what an edge makes of a CSV, by where it leads
abbrev pub made : View → Csv → Option CsvPhase → Write
made view csv to = elim to [ None ↦ removes csv.key csv.version | Some new ↦ puts csv.key csv.version (with_phase view csv new) ]

-- what a write of the list is made of
pub data Member (view : View) (w : Write) : Type 0 where
  OfEdge : (csv : Csv) (edge : Edge) → In (csvs view) csv → applies view csv edge ≡ true → w ≡ edge_write view csv edge → Member view w
  OfClaims : (csv : Csv) (next : ClaimsStatus) → next_claims view csv ≡ Some next → w ≡ claims_write view next → Member view w
  OfDeployment : (csv : Csv) (name : List ℕ) (version : ℕ) → w ≡ puts (deployment_key view.namespace name) version (new_deployment view csv) → Member view w
  OfCollection : (e : Key × Slot) → is_deployment_key e.0 ≡ true → w ≡ removes e.0 e.1.version → Member view w
  OfState : (s : Subscription) → In (subscriptions view) s → same_state s.status.state (state_of view s.status.spec) ≡ false
      → w ≡ puts s.key s.version (with_state view s (state_of view s.status.spec)) → Member view w

of_edges : (view : View) (w : Write) → In (edge_writes view) w → Member view w
of_edges view w h =
    let (csv, among, made) = in_picked (λ csv. option_map (edge_write view csv) (chosen view csv)) (csvs view) w h in
    let (edge, takes, is) = inside (edge_write view csv) (chosen view csv) w made in
    OfEdge csv edge among (chosen_applies view csv edge takes) (sym is)

of_removals : (view : View) (w : Write) → In (removal_writes view) w → Member view w
of_removals view w h =
    let (csv, kept, is) = in_mapped (λ csv. edge_write view csv Remove) (filter (λ csv. applies view csv Remove) (csvs view)) w h in
    let (among, holds) = in_kept (λ csv. applies view csv Remove) (csvs view) csv kept in
    OfEdge csv Remove among holds is

of_claims : (view : View) (w : Write) → In (claims_writes view) w → Member view w
of_claims view w h =
    let (csv, kept, made) = in_picked (λ csv. option_map (claims_write view) (next_claims view csv))
    (filter (λ csv. is_in phase.Pending csv.status.phase && group_fits view csv) (csvs view)) w h in
    let (next, comes, is) = inside (claims_write view) (next_claims view csv) w made in
    OfClaims csv next comes (sym is)

same_write : (a b : Write) → Some a ≡ Some b → a ≡ b
same_write a b e = ap (λ o. elim o [ None ↦ a | Some x ↦ x ]) e

of_deployments : (view : View) (w : Write) → In (deployment_writes view) w → Member view w
of_deployments view w h =
    let (csv, kept, some) = in_flat (λ csv. filter_map (deployment_write view csv) csv.status.deployments)
    (filter (λ csv. is_in phase.InstallReady csv.status.phase) (csvs view)) w h in
    let (name, among, made) = in_picked (deployment_write view csv) csv.status.deployments w some in
    let there = slot_in view.slots (deployment_key view.namespace name) in
    let put = puts (deployment_key view.namespace name) there.version (new_deployment view csv) in
    let (b, is) = through (is_missing view csv name && is_free view there.object) (Some put) w made in
    OfDeployment csv name there.version (same_write w put (sym is))

of_collection : (view : View) (w : Write) → In (collection_writes view) w → Member view w
of_collection view w h =
    let (e, kept, is) = in_mapped (λ entry. removes entry.0 entry.1.version) (filter (is_collected view) view.slots) w h in
    let (among, holds) = in_kept (is_collected view) view.slots e kept in
    let front =
    (and_parts (is_some (deployment_in view.namespace e) && is_orphan view e.1.object) (not (is_listed view e.0.name)) holds).0 in
    let there = (and_parts (is_some (deployment_in view.namespace e)) (is_orphan view e.1.object) front).0 in
    let at =
    there_or_not (same_text e.0.namespace view.namespace) (cond (is_deployment_key e.0) (as_deployment e.1.object) None) there in
    OfCollection e (test_of (is_deployment_key e.0) (as_deployment e.1.object) at) is

of_states : (view : View) (w : Write) → In (state_writes view) w → Member view w
of_states view w h =
    let (s, among, made) = in_picked (state_write view) (subscriptions view) w h in
    let new = state_of view s.status.spec in
    let (differs, is) = kept_back (same_state s.status.state new) (puts s.key s.version (with_state view s new)) w made in
    OfState s among differs (sym is)

pub member : (view : View) (w : Write) → In (phases_writes view) w → Member view w
member view w h =
    let two = edge_writes view ++ removal_writes view in
    let three = two ++ claims_writes view in
    let four = three ++ deployment_writes view in
    let five = four ++ collection_writes view in
    elim (in_append five (state_writes view) w h) [
      | inr a ↦ of_states view w a
      | inl b ↦ (elim (in_append four (collection_writes view) w b) [
        | inr a ↦ of_collection view w a
        | inl c ↦ (elim (in_append three (deployment_writes view) w c) [
          | inr a ↦ of_deployments view w a
          | inl d ↦ (elim (in_append two (claims_writes view) w d) [
            | inr a ↦ of_claims view w a
            | inl e ↦ (elim (in_append (edge_writes view) (removal_writes view) w e) [
              | inr a ↦ of_removals view w a
              | inl f ↦ of_edges view w f
            ])
          ])
        ])
      ])
    ]
