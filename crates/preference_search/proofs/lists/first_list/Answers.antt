use Rattle.std.proofs.Common.{◌≡◌, sym, ap, ◌∙◌, false}
use Rattle.std.specs.List.{list_any}
use Rattle.op_constraints.specs.declared.Constraint.TheVariants.{Dependency}
use Rattle.op_constraints.specs.Meets.{at}
use Rattle.op_constraints.proofs.WalkLaws.{passed-at}
use Rattle.preference_search.proofs.Opening.{list-at}
use Rattle.preference_search.proofs.lists.first_list.Goals as goal

pub returns-then-not-has_any-clause-some : goal.returns-then-not-has_any-clause-some
returns-then-not-has_any-clause-some c =
    let members = c.as_slice-then-not-has_any.result.now in
    let none : list_any (at c.args.bits.now) members ≡ false = cc (c.as_slice.ensures, c.as_slice-then-not-has_any.ensures, c.has_any.ensures, c.if-not-has_any.true) in
    c.loop-place.invariant
    ∙ passed-at (at c.args.bits.now) c.args.constraints.now c.loop-place.place c.index-constraints-place.result members c.loop-place-test.true c.index-constraints-place.is
    (c.in-Dependency.is ∙ ap Dependency (sym c.as_slice-then-not-has_any.ensures)) none

pub returns-then-not-has_any-clause-at : goal.returns-then-not-has_any-clause-at
returns-then-not-has_any-clause-at c =
    let members = c.as_slice-then-not-has_any.result.now in
    list-at c.args.constraints.now c.loop-place.place c.index-constraints-place.result members c.loop-place-test.true c.index-constraints-place.is
    (c.in-Dependency.is ∙ ap Dependency (sym c.as_slice-then-not-has_any.ensures))
