use Rattle.std.proofs.Common.{◌≡◌, Option, refl, subst, sym, ◌∙◌}
use Rattle.std.specs.List.{slice_get}
use Rattle.std.specs.Result.{IfOk}
use Rattle.cluster_objects.specs.declared.objects.Write.{Write}
use Rattle.csv_phases.specs.Phases.{claims_writes, collection_writes, deployment_writes, edge_writes, phases_writes, removal_writes, state_writes}
use Rattle.phases_role.proofs.Parts.{first_a, first_b, first_c, first_d, first_e, first_f}
use Rattle.phases_role.proofs.first.phases_first.Goals as goal

pub returns-in-Some : goal.returns-in-Some
returns-in-Some c =
    let v = c.args.view.now in
    first_a (edge_writes v) (removal_writes v) (claims_writes v) (deployment_writes v) (collection_writes v) (state_writes v)
    c.in-Some.write (sym c.in-Some.is ∙ c.in_ok-write.ensures)

pub returns-in-Some-2 : goal.returns-in-Some-2
returns-in-Some-2 c =
    let v = c.args.view.now in
    first_b (edge_writes v) (removal_writes v) (claims_writes v) (deployment_writes v) (collection_writes v) (state_writes v)
    (sym c.in_default.is ∙ c.in_ok-write.ensures)
    c.in-Some-2.write (sym c.in-Some-2.is ∙ c.in_ok-write-2.ensures)

pub returns-in-Some-3 : goal.returns-in-Some-3
returns-in-Some-3 c =
    let v = c.args.view.now in
    first_c (edge_writes v) (removal_writes v) (claims_writes v) (deployment_writes v) (collection_writes v) (state_writes v)
    (sym c.in_default.is ∙ c.in_ok-write.ensures)
    (sym c.in_default-2.is ∙ c.in_ok-write-2.ensures)
    c.in-Some-3.write (sym c.in-Some-3.is ∙ c.in_ok-write-3.ensures)

pub returns-in-Some-4 : goal.returns-in-Some-4
returns-in-Some-4 c =
    let v = c.args.view.now in
    first_d (edge_writes v) (removal_writes v) (claims_writes v) (deployment_writes v) (collection_writes v) (state_writes v)
    (sym c.in_default.is ∙ c.in_ok-write.ensures)
    (sym c.in_default-2.is ∙ c.in_ok-write-2.ensures)
    (sym c.in_default-3.is ∙ c.in_ok-write-3.ensures)
    c.in-Some-4.write (sym c.in-Some-4.is ∙ c.in_ok-write-4.ensures)

pub returns-in-Some-5 : goal.returns-in-Some-5
returns-in-Some-5 c =
    let v = c.args.view.now in
    first_e (edge_writes v) (removal_writes v) (claims_writes v) (deployment_writes v) (collection_writes v) (state_writes v)
    (sym c.in_default.is ∙ c.in_ok-write.ensures)
    (sym c.in_default-2.is ∙ c.in_ok-write-2.ensures)
    (sym c.in_default-3.is ∙ c.in_ok-write-3.ensures)
    (sym c.in_default-4.is ∙ c.in_ok-write-4.ensures)
    c.in-Some-5.write (sym c.in-Some-5.is ∙ c.in_ok-write-5.ensures)

pub returns : goal.returns
returns c =
    let v = c.args.view.now in
    let same : slice_get (state_writes v) 0 ≡ slice_get (phases_writes v) 0 =
    first_f (edge_writes v) (removal_writes v) (claims_writes v) (deployment_writes v) (collection_writes v) (state_writes v)
    (sym c.in_default.is ∙ c.in_ok-write.ensures)
    (sym c.in_default-2.is ∙ c.in_ok-write-2.ensures)
    (sym c.in_default-3.is ∙ c.in_ok-write-3.ensures)
    (sym c.in_default-4.is ∙ c.in_ok-write-4.ensures)
    (sym c.in_default-5.is ∙ c.in_ok-write-5.ensures)
    (slice_get (state_writes v) 0) refl in
    subst (λ (o : Option Write). IfOk c.first_state.result (λ write. write ≡ o)) same c.first_state.ensures
