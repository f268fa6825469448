use Rattle.std.proofs.Common.{◌<◌, length, subst, arith}
use Rattle.clause_trail.specs.declared.Scan.{Scan}
use Rattle.clause_trail.specs.Trails.{literals}
use Rattle.clause_trail.specs.Scans.{Scans}
use Rattle.clause_solver.proofs.Propagating.{forced_var, forced_unknown}
use Rattle.clause_solver.proofs.propagation.propagate.Goals as goal

pub put-requires-clause-var : goal.put-requires-clause-var
put-requires-clause-var c =
    let problem = c.args.problem.now in
    let lemmas = c.args.lemmas.now in
    let trail = literals c.loop-reason.trail.entries in
    let s = subst (λ (x : Scan). Scans problem lemmas trail x) c.in-Unit.is c.in_ok-scan.ensures in
    let var : c.in-Unit.lit.var < length problem = forced_var problem lemmas trail c.in-Unit.lit c.in-Unit.reason.hint c.in-Unit.reason.lits c.requires.closed c.requires.clauses s.0 s.1 in
    omega (arith, var, c.loop-reason.invariant.caused.size)

pub put-requires-clause-unknown : goal.put-requires-clause-unknown
put-requires-clause-unknown c =
    let trail = literals c.loop-reason.trail.entries in
    let s = subst (λ (x : Scan). Scans c.args.problem.now c.args.lemmas.now trail x) c.in-Unit.is c.in_ok-scan.ensures in
    forced_unknown trail c.in-Unit.reason.lits c.in-Unit.lit s.1
