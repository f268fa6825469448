use Rattle.std.proofs.Common.{◌≤◌, ◌∷◌, length, arith}
use Rattle.clause_trail.specs.declared.Entry.{Entry}
use Rattle.clause_solver.proofs.Propagating.{few}
use Rattle.clause_solver.proofs.propagation.put.Goals as goal

pub prove-unreachable-requires : goal.prove-unreachable-requires
prove-unreachable-requires c =
    let entries = c.args.trail.now.entries in
    let e : Entry = c.args.entry in
    let room : length (e ∷ entries) ≤ c.args.trail.now.size = few c.args.trail.now.size (e ∷ entries) (c.requires.var, c.requires.unknown, c.len-count.ensures.ordered) in
    omega (arith, room, c.if-prove.true, c.size.ensures, c.len-count.ensures.count)
