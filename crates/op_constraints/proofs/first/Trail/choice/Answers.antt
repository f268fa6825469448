use Rattle.std.proofs.Common.{◌≡◌, ◌<◌, ℕ, List, [], ◌∷◌, ◌++◌, suc, drop, length, get_or, ap, ◌∙◌, arith}
use Rattle.op_constraints.specs.Meets.{at, constraints_of}
use Rattle.op_constraints.specs.Walks.{dependencies, agenda}
use Rattle.op_constraints.proofs.Looking.{looks-next, waiting-at}
use Rattle.op_constraints.proofs.Trying.{waiting-few, said-of}
use Rattle.op_constraints.proofs.first.Trail.choice.Goals as goal

there : (xs ys : List ℕ) (i : ℕ) → ys ≡ xs → i < length ys → i < length xs
there xs ys i e h = omega (arith, h, ap length e)

pub returns-in-Some-clause-some : goal.returns-in-Some-clause-some
returns-in-Some-clause-some c =
    let s = c.args.self.now in
    let i = c.loop-var.var-index in
    let members = c.in-Some.members.now in
    let rest = dependencies (drop (suc c.in-Some.field-0-0) c.constraints.result.now) in (
      rest ++ agenda s.problem.now (drop (suc i) s.chosen.items),
      waiting-at s.problem.now s.chosen.items i 0 c.var-item.result members rest c.loop-var.invariant (there s.chosen.items c.deref-var-items.result.now i c.deref-var-items.ensures.value c.loop-var-test.true) (c.var-item.is ∙ ap (λ xs. get_or xs i c.var-item.result) c.deref-var-items.ensures.value)
          (said-of (at s.set) s.chosen.items c.constraints.result.now (constraints_of s.problem.now c.var-item.result) (members ∷ rest) c.requires.same c.constraints.ensures c.in-Some.ensures.some),
    )

pub returns-in-Some-clause-few : goal.returns-in-Some-clause-few
returns-in-Some-clause-few c =
    let s = c.args.self.now in
    let i = c.loop-var.var-index in
    let members = c.in-Some.members.now in
    let rest = dependencies (drop (suc c.in-Some.field-0-0) c.constraints.result.now) in
    waiting-few s.problem.now s.chosen.items members (rest ++ agenda s.problem.now (drop (suc i) s.chosen.items)) c.len-count.ensures.kept
    (waiting-at s.problem.now s.chosen.items i 0 c.var-item.result members rest c.loop-var.invariant (there s.chosen.items c.deref-var-items.result.now i c.deref-var-items.ensures.value c.loop-var-test.true) (c.var-item.is ∙ ap (λ xs. get_or xs i c.var-item.result) c.deref-var-items.ensures.value)
    (said-of (at s.set) s.chosen.items c.constraints.result.now (constraints_of s.problem.now c.var-item.result) (members ∷ rest) c.requires.same c.constraints.ensures c.in-Some.ensures.some))

pub loop-var-preserved : goal.loop-var-preserved
loop-var-preserved c =
    let s = c.args.self.now in
    let i = c.loop-var.var-index in
    looks-next s.problem.now s.chosen.items i 0 c.var-item.result c.loop-var.invariant (there s.chosen.items c.deref-var-items.result.now i c.deref-var-items.ensures.value c.loop-var-test.true) (c.var-item.is ∙ ap (λ xs. get_or xs i c.var-item.result) c.deref-var-items.ensures.value)
    (said-of (at s.set) s.chosen.items c.constraints.result.now (constraints_of s.problem.now c.var-item.result) [] c.requires.same c.constraints.ensures c.in_default.ensures.none)
