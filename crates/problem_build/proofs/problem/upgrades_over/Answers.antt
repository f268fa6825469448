use Rattle.std.proofs.Common.{◌≡◌, ◌∙◌, ℕ, List, [], ap, subst, Option, Some}
use Rattle.std.specs.List.{find}
use Rattle.std.specs.Option.{option_map_or}
use Rattle.std.specs.Result.{IfOk}
use Rattle.cluster_objects.specs.declared.resolutions.Tip.{Tip}
use Rattle.cluster_objects.specs.declared.statuses.SubSpec.{SubSpec}
use Rattle.fbc_types.specs.Texts.{same}
use Rattle.problem_build.specs.Asking.{upgrades_from}
use Rattle.problem_build.proofs.problem.upgrades_over.Goals as goal

pub returns-in-Some : goal.returns-in-Some
returns-in-Some c =
    let test = λ (s : List ℕ × SubSpec). same s.0 c.args.name.now in
    let there : Some c.in-Some.found.now ≡ find test c.args.basis.now.subscriptions = c.in-Some.ensures ∙ ap (find test) c.as_slice.ensures in
    subst (λ (o : Option (List ℕ × SubSpec)). IfOk c.upgrades_from.result (λ found. found ≡ option_map_or (λ (s : List ℕ × SubSpec). upgrades_from c.args.catalogs.now c.args.basis.now.tips s.1) o [])) there
    (subst (λ (t : List Tip). IfOk c.upgrades_from.result (λ found. found ≡ upgrades_from c.args.catalogs.now t c.in-Some.found.now.1)) c.as_slice-in-Some.ensures c.upgrades_from.ensures)
