use Rattle.std.proofs.Common.{arith}
use Rattle.op_constraints.proofs.Trying.{spent, offered-within, at-one}
use Rattle.op_constraints.proofs.first.Trail.try_one.Goals as goal

pub returns-then-self-tries-clause-end : goal.returns-then-self-tries-clause-end
returns-then-self-tries-clause-end c =
    let s = c.args.self.now in
    spent s.problem.now c.args.tries s.set s.chosen.items s.numbers.items s.count c.args.number c.args.var c.requires.trying c.requires.offered c.if-self-tries.true

pub take-requires : goal.take-requires
take-requires c =
    let s = c.args.self.now in
    offered-within s.problem.now s.set s.chosen.items s.numbers.items c.args.number c.args.var c.requires.trying.stands c.requires.offered

pub returns-clause-end : goal.returns-clause-end
returns-clause-end c =
    let s = c.args.self.now in
    let t = c.take.new.self in
    let e = c.in_ok-take.ensures in (
      at-one s.problem.now t.problem.now c.args.tries s.set t.set s.chosen.items t.chosen.items s.numbers.items t.numbers.items s.count t.count c.args.number c.args.var
          e.problem e.count e.set e.chosen e.numbers c.requires.trying c.requires.offered (omega (arith, c.if-self-tries.false)),
      omega (arith, e.count),
    )
