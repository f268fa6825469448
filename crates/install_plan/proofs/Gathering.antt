-- The steps of all manifests, one that is taken at a time.
use Rattle.std.proofs.Common.{◌≡◌, ◌<◌, ◌+◌, ℕ, suc, Bool, true, false, not, if◌then◌else◌, List, [], ◌∷◌, ◌++◌, map, drop, get_or, length, Option, Some, None, Result, Ok, Err, refl, sym, ap, ◌∙◌, subst, append_assoc, append-nil, drop-cons, add-one}
use Rattle.std.specs.List.{filter_map, flat_map, list_any}
use Rattle.std.specs.Option.{option_or}
use Rattle.std.proofs.lemmas.List.{map-append}
use Rattle.cluster_objects.specs.declared.plans.PlanFault.{PlanFault}
use Rattle.cluster_objects.specs.declared.plans.Step.{Step}
use Rattle.cluster_objects.specs.declared.resolutions.Taken.{Taken}
use Rattle.view_basis.specs.declared.visible.Visible.{Visible}
use Rattle.install_plan.specs.Answers.{Answers}
use Rattle.install_plan.specs.declared.refusal.PlanRefusal.{PlanRefusal}
use Rattle.install_plan.specs.declared.refusal.PlanRefusal.TheVariants.{Cause, Memory}
use Rattle.cluster_history.specs.Views.{View}
use Rattle.view_basis.specs.Basis.{subscriptions}
use Rattle.view_basis.specs.Visible.{visible_catalogs}
use Rattle.install_plan.specs.Plans.{added_steps, bundled, good_manifests, kept_steps, manifest_steps, of_manifest, same_key_fault, steps_for, steps_from, steps_in_order}
use Rattle.install_plan.specs.Subscribing.{Subscriptions, is_manual}
use Rattle.install_plan.specs.Steps.{Bundled, bad_in, bad_manifest, good_steps, is_csv_step, lacking_fault, no_manifest, read, steps_of, unless}
use Rattle.install_plan.specs.declared.turns.Turned.{Turned}

pub unless_ok : {T : Type 0} (cause : Option PlanFault) (value found : T) → unless cause value ≡ Ok found → (cause ≡ None) × (value ≡ found)
unless_ok None value found e = (refl, cc e)
unless_ok (Some fault) value found e = cc e

pub unless_err : {T : Type 0} (cause : Option PlanFault) (value : T) (fault : PlanFault) → unless cause value ≡ Err fault → cause ≡ Some fault
unless_err None value fault e = cc e
unless_err (Some other) value fault e = cc e

-- what is still to come, after these steps and where this is the first that lacks a CSV
abbrev pub coming : List ℕ → List Turned → Option Taken → List Bundled → Result (List Turned) PlanFault
coming namespace turned lacking all =
    unless (option_or (bad_manifest namespace all) (option_or (lacking_fault lacking) (no_manifest namespace all))) (turned ++ manifest_steps namespace all)

abbrev lacking_now : Option Taken → Taken → Bool → Option Taken
lacking_now lacking one has = option_or lacking (if has then None else Some one)

lacks_next : (namespace : List ℕ) (lacking : Option Taken) (bundled : Bundled) (all : List Bundled) (has : Bool)
    → list_any is_csv_step (read namespace bundled) ≡ has
    → option_or (lacking_fault lacking) (no_manifest namespace (bundled ∷ all)) ≡ option_or (lacking_fault (lacking_now lacking bundled.0 has)) (no_manifest namespace all)
lacks_next namespace (Some first) bundled all has h = refl
lacks_next namespace None bundled all true h = rw h refl
lacks_next namespace None bundled all false h = rw h refl

steps_next : (namespace : List ℕ) (turned : List Turned) (bundled : Bundled) (all : List Bundled)
    → turned ++ manifest_steps namespace (bundled ∷ all) ≡ (turned ++ map of_manifest (steps_of namespace bundled)) ++ manifest_steps namespace all
steps_next namespace turned bundled all =
    ap (λ more. turned ++ more) (map-append of_manifest (steps_of namespace bundled) (flat_map (steps_of namespace) all))
    ∙ sym (append_assoc turned (map of_manifest (steps_of namespace bundled)) (manifest_steps namespace all))

pub coming_next : (namespace : List ℕ) (turned : List Turned) (lacking : Option Taken) (bundled : Bundled) (all : List Bundled) (found : List (Option Step))
    → good_steps namespace bundled ≡ Ok found
    → coming namespace turned lacking (bundled ∷ all)
    ≡ coming namespace (turned ++ map of_manifest (filter_map (λ found. found) found)) (lacking_now lacking bundled.0 (list_any is_csv_step found)) all
coming_next namespace turned lacking bundled all found e =
    let parts = unless_ok (bad_in namespace bundled) (read namespace bundled) found e in
    ap (λ bad. unless (option_or (option_or bad (bad_manifest namespace all)) (option_or (lacking_fault lacking) (no_manifest namespace (bundled ∷ all)))) (turned ++ manifest_steps namespace (bundled ∷ all))) parts.0
    ∙ ap (λ no. unless (option_or (bad_manifest namespace all) no) (turned ++ manifest_steps namespace (bundled ∷ all)))
    (lacks_next namespace lacking bundled all (list_any is_csv_step (read namespace bundled)) refl)
    ∙ ap (λ steps. unless (option_or (bad_manifest namespace all) (option_or (lacking_fault (lacking_now lacking bundled.0 (list_any is_csv_step (read namespace bundled)))) (no_manifest namespace all))) steps)
    (steps_next namespace turned bundled all)
    ∙ ap (λ (found : List (Option Step)). coming namespace (turned ++ map of_manifest (filter_map (λ found. found) found)) (lacking_now lacking bundled.0 (list_any is_csv_step found)) all) parts.1

pub coming_bad : (namespace : List ℕ) (turned : List Turned) (lacking : Option Taken) (bundled : Bundled) (all : List Bundled) (fault : PlanFault)
    → good_steps namespace bundled ≡ Err fault → coming namespace turned lacking (bundled ∷ all) ≡ Err fault
coming_bad namespace turned lacking bundled all fault e =
    let bad = unless_err (bad_in namespace bundled) (read namespace bundled) fault e in
    ap (λ bad. unless (option_or (option_or bad (bad_manifest namespace all)) (option_or (lacking_fault lacking) (no_manifest namespace (bundled ∷ all)))) (turned ++ manifest_steps namespace (bundled ∷ all))) bad

pub coming_end : (namespace : List ℕ) (turned : List Turned) (lacking : Option Taken) → unless (lacking_fault lacking) turned ≡ coming namespace turned lacking []
coming_end namespace turned None = ap Ok (sym (append-nil turned))
coming_end namespace turned (Some one) = refl

-- the one at a place, and those after it
pub at_place : (catalogs : List Visible) (taken : List Taken) (i : ℕ) (one : Taken) → i < length taken → one ≡ get_or taken i one
    → map (bundled catalogs) (drop i taken) ≡ bundled catalogs one ∷ map (bundled catalogs) (drop (i + 1) taken)
at_place catalogs taken i one below is =
    ap (map (bundled catalogs))
    (drop-cons taken i one below ∙ ap (λ one. one ∷ drop (suc i) taken) (sym is) ∙ ap (λ n. one ∷ drop n taken) (sym (add-one i)))

-- a cause is passed on
pub err_answers : {S T : Type 0} (one : Result S PlanFault) (other : Result T PlanFault) (refusal : PlanRefusal)
    → ((fault : PlanFault) → one ≡ Err fault → other ≡ Err fault) → Answers one (Err refusal) → Answers other (Err refusal)
err_answers one other (Cause fault) passed e = passed fault e
err_answers one other Memory passed e = tt

-- ---- with the subscriptions that the plan adds

or_some : (a b c : Option PlanFault) (fault : PlanFault) → option_or a b ≡ Some fault → option_or a (option_or b c) ≡ Some fault
or_some None None c fault e = cc e
or_some None (Some other) c fault e = e
or_some (Some first) b c fault e = e

or_none : (a b c : Option PlanFault) → option_or a b ≡ None → option_or a (option_or b c) ≡ c
or_none None None c e = refl
or_none None (Some other) c e = cc e
or_none (Some first) b c e = cc e

module _ (namespace : List ℕ) (catalogs : List Visible) (subscribed : Subscriptions) (taken : List Taken) where
  all : List Bundled
  all = map (bundled catalogs) taken

  added : List Turned
  added = added_steps namespace subscribed (is_manual subscribed taken) taken

  pub from_bad : (fault : PlanFault) → good_manifests namespace (map (bundled catalogs) taken) ≡ Err fault → steps_from namespace catalogs subscribed taken ≡ Err fault
  unfolding all added
  from_bad fault e =
      let steps = steps_in_order (manifest_steps namespace all ++ added) in
      let cause = unless_err (option_or (bad_manifest namespace all) (no_manifest namespace all)) (manifest_steps namespace all) fault e in
      ap (λ cause. unless cause steps) (or_some (bad_manifest namespace all) (no_manifest namespace all) (same_key_fault steps) fault cause)

  pub from_good : (turned : List Turned) → good_manifests namespace (map (bundled catalogs) taken) ≡ Ok turned
      → steps_from namespace catalogs subscribed taken ≡ kept_steps (turned ++ added_steps namespace subscribed (is_manual subscribed taken) taken)
  unfolding all added
  from_good turned e =
      let steps = steps_in_order (manifest_steps namespace all ++ added) in
      let parts = unless_ok (option_or (bad_manifest namespace all) (no_manifest namespace all)) (manifest_steps namespace all) turned e in
      ap (λ cause. unless cause steps) (or_none (bad_manifest namespace all) (no_manifest namespace all) (same_key_fault steps) parts.0)
      ∙ ap (λ (turned : List Turned). kept_steps (turned ++ added)) parts.1

pub same_for : (view : View) (namespace : List ℕ) (catalogs : List Visible) (subscribed : Subscriptions) (taken other : List Taken)
    → namespace ≡ view.namespace → catalogs ≡ visible_catalogs view → subscribed ≡ subscriptions view → taken ≡ other
    → steps_from namespace catalogs subscribed taken ≡ steps_for view other
same_for view namespace catalogs subscribed taken other n c s t =
    ap (λ (n : List ℕ). steps_from n catalogs subscribed taken) n
    ∙ ap (λ (c : List Visible). steps_from view.namespace c subscribed taken) c
    ∙ ap (λ (s : Subscriptions). steps_from view.namespace (visible_catalogs view) s taken) s
    ∙ ap (steps_for view) t
