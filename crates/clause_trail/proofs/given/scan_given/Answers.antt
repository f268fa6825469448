use Rattle.std.proofs.Common.{◌≡◌, ℕ, ◌<◌, List, sym, subst, arith, inl, inr, Some}
use Rattle.std.proofs.lemmas.Bool.{cases_lt}
use Rattle.op_constraints.specs.declared.Constraint.{Constraint}
use Rattle.op_constraints.specs.Meets.{constraint_at, constraints_of}
use Rattle.clause_trail.specs.declared.Scan.{Scan}
use Rattle.clause_trail.specs.declared.Scan.TheVariants.{Settled}
use Rattle.clause_trail.specs.Trails.{literals}
use Rattle.clause_trail.specs.Scans.{IsSettledGiven, ScansVariable}
use Rattle.clause_trail.proofs.Scanning.{at-within}
use Rattle.clause_trail.proofs.given.scan_given.Goals as goal

pub loop-index-preserved : goal.loop-index-preserved
loop-index-preserved c = λ v place k less e.
    let trail = literals c.args.trail.now.entries in
    let problem = c.args.problem.now in
    let i = c.loop-index.index in
    elim (cases_lt v i) [
      | inl before ↦ c.loop-index.invariant v place k before e
      | inr after ↦
          (let at : v ≡ i = omega (arith, less, after) in
          let P : Scan → Type 0 = λ s. ScansVariable trail i c.constraints.result.now s in
          let Q : List Constraint → Type 0 = λ cs. ScansVariable trail i cs Settled in
          let all = subst Q c.constraints.ensures (subst P c.in-Settled.is c.in_ok-found.ensures) in
          let e' : constraint_at problem i place ≡ Some k = subst (λ (n : ℕ). constraint_at problem n place ≡ Some k) at e in
          subst (λ (n : ℕ). IsSettledGiven trail n k) (sym at) (all place k e'))
    ]

pub returns : goal.returns
returns c = λ earlier v place k e. c.loop-index.invariant v place k (let low = at-within c.args.problem.now v place k e in omega (arith, low, c.loop-index-test.false, c.len-index-end.ensures.count)) e
