use Rattle.std.proofs.Common.{◌≡◌, ℕ, List, [], ◌∷◌, map, sym, subst, IfOk}
use Rattle.op_constraints.specs.declared.Constraint.{Constraint}
use Rattle.op_constraints.specs.declared.Constraint.TheVariants.{Dependency}
use Rattle.derivations.specs.declared.Hint.TheVariants.{Given}
use Rattle.derivations.specs.Clauses.{positive, negative}
use Rattle.clause_trail.specs.declared.Scan.{Scan}
use Rattle.clause_trail.specs.Trails.{literals}
use Rattle.clause_trail.specs.Scans.{ScansClause, ScansConstraint}
use Rattle.clause_trail.proofs.Scanning.{map_ok, dependency-scan}
use Rattle.clause_trail.proofs.given.scan_constraint.Goals as goal

pub returns-in-Dependency : goal.returns-in-Dependency
returns-in-Dependency c =
    let trail = literals c.args.trail.now.entries in
    let v = c.args.var in
    let P : List ℕ → Scan → Type 0 = λ ms s. ScansClause trail (Given v c.args.place []) (negative v ∷ map positive ms) s in
    let Q : Constraint → Scan → Type 0 = λ k s. ScansConstraint trail v c.args.place k s in
    let R : List ℕ → Type 0 = λ ms. IfOk c.scan_row-in-Dependency.result (P ms) in
    let S : Constraint → Type 0 = λ k. IfOk c.scan_row-in-Dependency.result (Q k) in
    subst S (sym c.in-Dependency.is)
    (map_ok (P c.in-Dependency.members) (Q (Dependency c.in-Dependency.members)) c.scan_row-in-Dependency.result (λ s h. dependency-scan trail v c.args.place c.in-Dependency.members s h)
    (subst R c.as_slice.ensures c.scan_row-in-Dependency.ensures))
