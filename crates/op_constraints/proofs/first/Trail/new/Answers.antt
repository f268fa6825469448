use Rattle.std.proofs.Common.{◌<◌, ℕ, List, sym, ap, ◌∙◌, subst, length}
use Rattle.std.specs.List.{AllByRecursion}
use Rattle.op_constraints.specs.Walks.{is_among}
use Rattle.op_constraints.proofs.Taking.{mandatory-there}
use Rattle.op_constraints.proofs.Trying.{at-begun}
use Rattle.op_constraints.proofs.first.Trail.new.Goals as goal

pub set_of-requires : goal.set_of-requires
set_of-requires c =
    let P : List ℕ → Type 0 = λ vs. AllByRecursion (λ v. v < length c.args.problem.now) vs in
    subst P (sym (c.as_slice.ensures.value ∙ c.in_ok-chosen.ensures.variables)) (mandatory-there c.args.problem.now)

pub returns-clause-at : goal.returns-clause-at
returns-clause-at c = λ tries.
    at-begun c.args.problem.now tries c.in_ok-set.set c.in_ok-chosen.chosen.items c.new.result.items
    c.requires c.in_ok-chosen.ensures.variables c.in_ok-set.ensures.size (c.in_ok-set.ensures.same ∙ ap is_among c.as_slice.ensures.value) c.new.ensures.items
