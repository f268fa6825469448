use Rattle.std.proofs.Common.{◌≡◌, List, ◌∙◌, sym, subst, None}
use Rattle.op_constraints.specs.declared.Constraint.{Constraint}
use Rattle.op_constraints.specs.Walks.{waiting, member}
use Rattle.op_constraints.specs.Tries.{IsTried}
use Rattle.op_constraints.specs.declared.first.Tried.TheVariants.{Nothing}
use Rattle.op_constraints.proofs.Trying.{trying-back, ended}
use Rattle.op_constraints.proofs.first.Trail.go_on.Goals as goal

pub loop-var-preserved : goal.loop-var-preserved
loop-var-preserved c =
    let s = c.loop-var.self in
    let t = c.leave.new.self in
    let none : member (waiting s.problem.now s.chosen.items) c.loop-var.number ≡ None = sym c.in_default.ensures.member in
    record {
      trying = trying-back s.problem.now t.problem.now c.args.tries s.set t.set s.chosen.items t.chosen.items t.numbers.items s.numbers.items s.count t.count c.in-Some-leave.last c.loop-var.number
          c.in-Some-leave.ensures.problem c.in-Some-leave.ensures.count c.in-Some-leave.ensures.numbers c.loop-var.invariant.trying none c.in-Some-leave.ensures.stands;
      problem = c.in-Some-leave.ensures.problem ∙ c.loop-var.invariant.problem;
      count = c.in-Some-leave.ensures.count ∙ c.loop-var.invariant.count;
    }

pub returns-in-None-clause-end : goal.returns-in-None-clause-end
returns-in-None-clause-end c =
    let s = c.loop-var.self in
    let none : member (waiting s.problem.now s.chosen.items) c.loop-var.number ≡ None = sym c.in_default.ensures.member in
    let P : List (List Constraint) → Type 0 = λ p. IsTried p c.args.tries Nothing in
    subst P (sym c.in-None.ensures.problem)
    (ended s.problem.now c.args.tries s.set s.chosen.items s.numbers.items s.count c.loop-var.number c.loop-var.invariant.trying c.in-None.ensures.none none)
