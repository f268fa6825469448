use Rattle.std.proofs.Common.{ℕ, List, ◌∙◌, sym, subst}
use Rattle.std.proofs.lemmas.Bool.{false≢true}
use Rattle.op_constraints.specs.declared.Constraint.{Constraint}
use Rattle.op_constraints.specs.Tries.{IsTried}
use Rattle.op_constraints.specs.declared.first.Tried.TheVariants.{Found}
use Rattle.op_constraints.proofs.Trying.{trying-first, found}
use Rattle.op_constraints.proofs.first.first_walk.Goals as goal

pub loop-trail-init : goal.loop-trail-init
loop-trail-init c = record { at = c.in_ok-trail.ensures.at c.args.tries; problem = c.in_ok-trail.ensures.problem }

pub go_on-requires : goal.go_on-requires
go_on-requires c =
    let t = c.loop-trail.trail in
    trying-first t.problem.now c.args.tries t.set t.chosen.items t.numbers.items t.count c.loop-trail.invariant.at
    (λ s. false≢true (sym c.loop-trail-test.true ∙ c.succeeds.ensures.1 s))

pub returns-in-Some : goal.returns-in-Some
returns-in-Some c =
    let came = rw c.in-Some.is at c.in_ok-end.ensures.end in
    let P : List (List Constraint) → Type 0 = λ p. IsTried p c.args.tries c.in-Some.end in
    subst P (c.in_ok-end.ensures.problem ∙ c.loop-trail.invariant.problem) came

pub returns : goal.returns
returns c =
    let t = c.loop-trail.trail in
    let P : List (List Constraint) → Type 0 = λ p. IsTried p c.args.tries (Found t.numbers.items) in
    let Q : List ℕ → Type 0 = λ ks. IsTried c.args.problem.now c.args.tries (Found ks) in
    subst Q (sym c.from_vec.ensures) (subst P c.loop-trail.invariant.problem
    (found t.problem.now c.args.tries t.set t.chosen.items t.numbers.items t.count c.loop-trail.invariant.at (c.succeeds.ensures.0 c.loop-trail-test.false)))
