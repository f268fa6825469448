use Rattle.std.proofs.Common.{List, subst}
use Rattle.op_constraints.specs.declared.Constraint.{Constraint}
use Rattle.clause_trail.specs.declared.Scan.{Scan}
use Rattle.clause_trail.specs.Trails.{literals}
use Rattle.clause_trail.specs.Scans.{Scans, ScansGiven}
use Rattle.clause_trail.proofs.Scanning.{map_ok}
use Rattle.clause_solver.specs.Scans.{ScansLemmas}
use Rattle.clause_solver.proofs.Propagating.{both, given_only}
use Rattle.clause_solver.proofs.propagation.scan.Goals as goal

pub returns-in-Settled : goal.returns-in-Settled
returns-in-Settled c =
    let problem = c.args.problem.now in
    let lemmas = c.args.lemmas.now in
    let trail = literals c.args.trail.now.entries in
    let given = subst (λ (s : Scan). ScansGiven problem lemmas trail s) c.in-Settled.is (c.in_ok-found.ensures lemmas) in
    let P : Scan → Type 0 = λ s. (p : List (List Constraint)) → ScansLemmas p lemmas trail s in
    let Q : Scan → Type 0 = λ s. Scans problem lemmas trail s in
    map_ok P Q c.scan_lemmas.result (λ s h. both problem lemmas trail s given (h problem)) c.scan_lemmas.ensures

pub returns-in_default : goal.returns-in_default
returns-in_default c = given_only c.args.problem.now c.args.lemmas.now (literals c.args.trail.now.entries) c.in_ok-found.found c.in_default.not-Settled (c.in_ok-found.ensures c.args.lemmas.now)
