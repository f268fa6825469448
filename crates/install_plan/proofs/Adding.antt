-- One step more at the end.
use Rattle.std.proofs.Common.{◌≡◌, ◌<◌, ◌+◌, ℕ, Bool, not, List, [], ◌∷◌, ◌++◌, get_or, length, map, take, Option, sym, ap, ◌∙◌, append_assoc}
use Rattle.std.specs.Prelude.{filter}
use Rattle.std.specs.List.{filter_map}
use Rattle.std.proofs.lemmas.List.{map-append, take_more}
use Rattle.std.proofs.lemmas.List.Elements.{filter-append, filter_map-append}
use Rattle.cluster_objects.specs.declared.plans.Step.{Step}
use Rattle.cluster_objects.specs.declared.resolutions.Taken.{Taken}
use Rattle.install_plan.specs.Plans.{added_steps, of_manifest, of_plan, unasked}
use Rattle.install_plan.specs.Subscribing.{Subscriptions, is_subscribed, new_subscription}
use Rattle.install_plan.specs.declared.turns.Turned.{Turned}

abbrev pub manifest_turns : List (Option Step) → List Turned
manifest_turns read = map of_manifest (filter_map (λ found. found) read)

pub read_more : (first : List Turned) (read : List (Option Step)) (found : Option Step)
    → first ++ manifest_turns read ++ manifest_turns (found ∷ []) ≡ first ++ manifest_turns (read ++ found ∷ [])
read_more first read found =
    append_assoc first (manifest_turns read) (manifest_turns (found ∷ []))
    ∙ ap (λ more. first ++ more)
    (sym (ap (map of_manifest) (filter_map-append (λ found. found) read (found ∷ []))
    ∙ map-append of_manifest (filter_map (λ found. found) read) (filter_map (λ found. found) (found ∷ []))))

pub added_more : (namespace : List ℕ) (subscriptions : Subscriptions) (manual : Bool) (first : List Turned) (taken : List Taken) (i : ℕ) (one : Taken)
    → i < length taken → one ≡ get_or taken i one
    → first ++ added_steps namespace subscriptions manual (take i taken) ++ added_steps namespace subscriptions manual (one ∷ [])
    ≡ first ++ added_steps namespace subscriptions manual (take (i + 1) taken)
added_more namespace subscriptions manual first taken i one below is =
    let added = added_steps namespace subscriptions manual in
    let step : Taken → Turned = λ one. of_plan (new_subscription namespace manual one) in
    let keep : Taken → Bool = λ one. not (is_subscribed subscriptions one) in
    let next : take (i + 1) taken ≡ take i taken ++ one ∷ [] = take_more taken i one below ∙ ap (λ (one : Taken). take i taken ++ one ∷ []) (sym is) in
    append_assoc first (added (take i taken)) (added (one ∷ []))
    ∙ ap (λ more. first ++ more)
    (sym (ap added next ∙ ap (map step) (filter-append keep (take i taken) (one ∷ []))
    ∙ map-append step (filter keep (take i taken)) (filter keep (one ∷ []))))
