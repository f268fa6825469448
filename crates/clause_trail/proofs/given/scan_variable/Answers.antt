use Rattle.std.proofs.Common.{◌≡◌, ℕ, ◌<◌, sym, subst, arith, inl, inr, Some, slice_get}
use Rattle.std.proofs.lemmas.Bool.{cases_lt}
use Rattle.op_constraints.specs.declared.Constraint.{Constraint}
use Rattle.clause_trail.specs.declared.Scan.{Scan}
use Rattle.clause_trail.specs.Trails.{literals}
use Rattle.clause_trail.specs.Scans.{IsSettledGiven, ScansConstraint}
use Rattle.clause_trail.proofs.Scanning.{got-same, got-within}
use Rattle.clause_trail.proofs.given.scan_variable.Goals as goal

pub loop-place-preserved : goal.loop-place-preserved
loop-place-preserved c = λ p k less e.
    let trail = literals c.args.trail.now.entries in
    let v = c.args.var in
    let constraints = c.args.constraints.now in
    let i = c.loop-place.place in
    let here = c.index-constraints-place.result in
    elim (cases_lt p i) [
      | inl before ↦ c.loop-place.invariant p k before e
      | inr after ↦
          (let at : p ≡ i = omega (arith, less, after) in
          let e' : slice_get constraints i ≡ Some k = subst (λ (n : ℕ). slice_get constraints n ≡ Some k) at e in
          let P : Scan → Type 0 = λ s. ScansConstraint trail v i here s in
          let Q : Constraint → Type 0 = λ d. IsSettledGiven trail v d in
          subst Q (got-same constraints i here k c.loop-place-test.true c.index-constraints-place.is e') (subst P c.in-Settled.is c.in_ok-found.ensures))
    ]

pub returns : goal.returns
returns c = λ place k e. c.loop-place.invariant place k (let low = got-within c.args.constraints.now place k e in omega (arith, low, c.loop-place-test.false)) e
