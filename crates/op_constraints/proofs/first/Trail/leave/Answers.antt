use Rattle.std.proofs.Common.{ℕ, List, subst, arith}
use Rattle.op_constraints.specs.WalkInvariant.{Stands}
use Rattle.op_constraints.proofs.Taking.{stands-back, some_chosen}
use Rattle.op_constraints.proofs.first.Trail.leave.Goals as goal

pub returns-in-Some-clause-stands : goal.returns-in-Some-clause-stands
returns-in-Some-clause-stands c =
    let s = c.args.self.now in
    let numbers = c.pop.new.self.items in
    let P : List ℕ → Type 0 = λ ks. Stands s.problem.now s.set s.chosen.items ks in
    let stands = subst P c.in_ok-last.ensures.items c.requires in
    rw c.remove.ensures (stands-back s.problem.now s.set s.chosen.items numbers c.in_ok-last.last c.in-Some.var c.pop-2.new.self.items stands c.in-Some.ensures.items)

pub returns-in_default-clause-stands : goal.returns-in_default-clause-stands
returns-in_default-clause-stands c =
    let s = c.args.self.now in
    let numbers = c.pop.new.self.items in
    let P : List ℕ → Type 0 = λ ks. Stands s.problem.now s.set s.chosen.items ks in
    let stands = subst P c.in_ok-last.ensures.items c.requires in
    absurd (some_chosen s.problem.now s.set s.chosen.items numbers c.in_ok-last.last stands (omega (arith, c.in_default.ensures.cases, s.chosen.ok)))
