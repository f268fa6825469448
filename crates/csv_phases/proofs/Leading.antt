-- Where edges lead, and which one is chosen.
use Rattle.std.proofs.Common.{◌≡◌, Bool, true, false, cond, ◌&&◌, ◌==◌, List, [], ◌∷◌, ℕ, Option, Some, None, refl, sym, ap, ◌∙◌, subst}
use Rattle.std.specs.List.{find, list_all, list_any}
use Rattle.std.specs.Option.{option_map_or}
use Rattle.std.proofs.lemmas.Bool.{and_parts, or_from, eqb-true}
use Rattle.cluster_objects.specs.declared.statuses.CsvPhase.{CsvPhase}
use Rattle.cluster_objects.specs.declared.statuses.CsvPhase.TheVariants as phase
use Rattle.cluster_objects.specs.declared.statuses.Readiness.{Readiness}
use Rattle.cluster_objects.specs.declared.statuses.Readiness.TheVariants as state
use Rattle.cluster_history.specs.Views.{View}
use Rattle.view_basis.specs.Tips.{is_replaced}
use Rattle.csv_phases.specs.Conditions.{claims_are_held, crds_are_there, deployment_is_lost, deployments_are_ready, group_fits, is_failed_state, is_ready, is_ready_state, replaced_is_gone}
use Rattle.csv_phases.specs.Csvs.{Csv, is_current, is_in, owned_deployment, rank}
use Rattle.csv_phases.specs.Edges.{applies, chosen, moves, row}
use Rattle.csv_phases.specs.declared.edges.Edge.{Edge}
use Rattle.csv_phases.specs.declared.edges.Edge.TheVariants.{Begin, Ready, Unready, Misfit, Deploy, Succeed, InstallFailed, CrdLost, DeploymentLost, Recover, Replaced, Retire, Remove}

-- ---- edges change phases

-- a CSV in the one phase isn't in another one
other_phase : (a b p : CsvPhase) → is_in a p ≡ true → is_in b a ≡ false → is_in b p ≡ false
other_phase a b p h apart = ap (λ n. rank b == n) (sym (eqb-true (rank a) (rank p) h)) ∙ apart

not_replacing : (p : CsvPhase) → is_current p ≡ true → is_in phase.Replacing p ≡ false
not_replacing phase.Nothing h = refl
not_replacing phase.Pending h = refl
not_replacing phase.InstallReady h = refl
not_replacing phase.Installing h = refl
not_replacing phase.Succeeded h = refl
not_replacing phase.Failed h = refl
not_replacing phase.Replacing h = absurd (let bad : false ≡ true = h in cc)
not_replacing phase.Deleting h = absurd (let bad : false ≡ true = h in cc)

same_some : (a b : CsvPhase) → Some a ≡ Some b → a ≡ b
same_some a b e = ap (λ o. elim o [ None ↦ a | Some x ↦ x ]) e

-- by the row's phases
by_row : (a b new p : CsvPhase) → is_in a p ≡ true → is_in b a ≡ false → Some b ≡ Some new → is_in new p ≡ false
by_row a b new p h apart e = subst (λ q. is_in q p ≡ false) (same_some b new e) (other_phase a b p h apart)

leads_on : (view : View) (csv : Csv) (edge : Edge) (p new : CsvPhase) → (row view csv edge).from p ≡ true
    → (row view csv edge).to ≡ Some new → is_in new p ≡ false
leads_on view csv Begin p new h e = by_row phase.Nothing phase.Pending new p h refl e
leads_on view csv Ready p new h e = by_row phase.Pending phase.InstallReady new p h refl e
leads_on view csv Unready p new h e = by_row phase.InstallReady phase.Pending new p h refl e
leads_on view csv Misfit p new h e = by_row phase.Pending phase.Failed new p h refl e
leads_on view csv Deploy p new h e = by_row phase.InstallReady phase.Installing new p h refl e
leads_on view csv Succeed p new h e = by_row phase.Installing phase.Succeeded new p h refl e
leads_on view csv InstallFailed p new h e = by_row phase.Installing phase.Failed new p h refl e
leads_on view csv CrdLost p new h e = by_row phase.Succeeded phase.Pending new p h refl e
leads_on view csv DeploymentLost p new h e = by_row phase.Succeeded phase.Failed new p h refl e
leads_on view csv Recover p new h e = by_row phase.Failed phase.Pending new p h refl e
leads_on view csv Replaced p new h e =
    subst (λ q. is_in q p ≡ false) (same_some phase.Replacing new e) (not_replacing p h)
leads_on view csv Retire p new h e = by_row phase.Replacing phase.Deleting new p h refl e
leads_on view csv Remove p new h e = absurd (let bad : None ≡ Some new = e in cc)

pub change : (view : View) (csv : Csv) (edge : Edge) (new : CsvPhase) → applies view csv edge ≡ true
    → (row view csv edge).to ≡ Some new → is_in new csv.status.phase ≡ false
change view csv edge new h e =
    leads_on view csv edge csv.status.phase new
    (and_parts ((row view csv edge).from csv.status.phase) (row view csv edge).holds h).0 e

-- ---- the chosen edge

same_edge : (a b : Edge) → Some a ≡ Some b → a ≡ b
same_edge a b e = ap (λ o. elim o [ None ↦ a | Some x ↦ x ]) e

found_by : (p : Edge → Bool) (b : Bool) (x : Edge) (rest : Option Edge) (edge : Edge) → b ≡ p x
    → (rest ≡ Some edge → p edge ≡ true) → cond b (Some x) rest ≡ Some edge → p edge ≡ true
found_by p true x rest edge is more h = subst (λ e. p e ≡ true) (same_edge x edge h) (sym is)
found_by p false x rest edge is more h = more h

found : (p : Edge → Bool) (xs : List Edge) (edge : Edge) → find p xs ≡ Some edge → p edge ≡ true
found p [] edge h = absurd (let bad : None ≡ Some edge = h in cc)
found p (x ∷ xs) edge h = found_by p (p x) x (find p xs) edge refl (found p xs edge) h

pub chosen_applies : (view : View) (csv : Csv) (edge : Edge) → chosen view csv ≡ Some edge → applies view csv edge ≡ true
chosen_applies view csv edge h =
    found_by (applies view csv) (applies view csv Replaced) Replaced (find (applies view csv) moves) edge refl
    (found (applies view csv) moves edge) h

-- what is chosen of a CSV as if it were in this phase
abbrev chosen_in : View → Csv → CsvPhase → Option Edge
chosen_in view csv p =
    cond (is_current p && is_replaced view csv.key.name) (Some Replaced)
    (find (λ edge. (row view csv edge).from p && (row view csv edge).holds) moves)

pub none_chosen : (view : View) (csv : Csv) → csv.status.phase ≡ phase.Deleting → chosen view csv ≡ None
none_chosen view csv h = ap (chosen_in view csv) h

-- ---- conditions that exclude each other

ready_only : (found : Option Readiness) → option_map_or is_ready_state found false ≡ true → option_map_or is_failed_state found true ≡ false
ready_only None h = absurd (let bad : false ≡ true = h in cc)
ready_only (Some state.Waiting) h = refl
ready_only (Some state.Ready) h = refl
ready_only (Some state.Failed) h = absurd (let bad : false ≡ true = h in cc)

all_ready : (view : View) (csv : Csv) (names : List (List ℕ))
    → list_all (λ name. option_map_or is_ready_state (owned_deployment view csv name) false) names ≡ true
    → list_any (λ name. option_map_or is_failed_state (owned_deployment view csv name) true) names ≡ false
all_ready view csv [] h = refl
all_ready view csv (name ∷ names) h =
    let (first, rest) =
    and_parts (option_map_or is_ready_state (owned_deployment view csv name) false)
    (list_all (λ name. option_map_or is_ready_state (owned_deployment view csv name) false) names) h in
    or_from _ _ (ready_only (owned_deployment view csv name) first) (all_ready view csv names rest)

pub ready_not_lost : (view : View) (csv : Csv) → deployments_are_ready view csv ≡ true → deployment_is_lost view csv ≡ false
ready_not_lost view csv h = all_ready view csv csv.status.deployments h

pub ready_fits : (view : View) (csv : Csv) → is_ready view csv ≡ true → group_fits view csv ≡ true
ready_fits view csv h =
    let front =
    and_parts (crds_are_there view csv && replaced_is_gone view csv && group_fits view csv) (claims_are_held view csv) h in
    (and_parts (crds_are_there view csv && replaced_is_gone view csv) (group_fits view csv) front.0).1
