use Rattle.std.proofs.Common.{◌≡◌, ℕ, ◌<◌, Bool, List, length, map, sym, ap, ◌∙◌, subst, arith}
use Rattle.std.specs.List.{filter, AllByRecursion}
use Rattle.op_constraints.specs.declared.Lit.{Lit}
use Rattle.op_constraints.specs.Meets.{at}
use Rattle.op_constraints.specs.Walks.{is_among}
use Rattle.derivations.specs.Clauses.{positive, is_in}
use Rattle.clause_trail.specs.Trails.{literals, IsKnown, IsOrdered}
use Rattle.clause_trail.specs.Scans.{AllSettled}
use Rattle.clause_solver.specs.Searching.{IsModel}
use Rattle.clause_solver.proofs.Modelling.{in_positive, meets, given_below, all_true, vars_within}
use Rattle.clause_solver.proofs.Turning.{if_ok}
use Rattle.clause_solver.proofs.searching.model.Goals as goal

pub set_of-requires : goal.set_of-requires
set_of-requires c =
    let n = length c.args.problem.now in
    let ordered = subst (λ k. IsOrdered k c.args.trail.now.entries) c.requires.size c.in_ok-vars.ensures.ordered in
    subst (λ (vs : List ℕ). AllByRecursion (λ v. v < n) vs) (sym (c.as_slice.ensures.value ∙ c.in_ok-vars.ensures.vars)) (vars_within n c.args.trail.now.entries ordered)

pub returns : goal.returns
returns c =
    let problem = c.args.problem.now in
    let entries = c.args.trail.now.entries in
    let size = c.args.trail.now.size in
    let vars = c.as_slice.result.now in
    let is : vars ≡ map (λ e. e.lit.var) (filter (λ e. e.lit.positive) entries) = c.as_slice.ensures.value ∙ c.in_ok-vars.ensures.vars in
    let known : (v : ℕ) → v < length problem → IsKnown (literals entries) v = λ v h. c.requires.known v (omega (arith, h, c.requires.size)) in
    let P : List Bool → Type 0 = λ set. at set ≡ is_among vars in
    let Q : List Bool → Type 0 = λ set. (lemmas : List (List Lit)) → AllSettled problem lemmas (literals entries) → IsModel problem (literals entries) set in
    if_ok P Q c.set_of.result
    (λ set same lemmas settled.
    let each : (v : ℕ) → at set v ≡ is_in (literals entries) (positive v) = λ v. ap (λ (f : ℕ → Bool). f v) same ∙ (ap (λ (vs : List ℕ). is_among vs v) is ∙ in_positive entries v) in (
      meets problem lemmas size entries (at set) c.requires.closed c.len-count.ensures.kept.distinct_members c.in_ok-vars.ensures.ordered known settled each (given_below problem c.requires.closed),
      all_true size entries (at set) c.in_ok-vars.ensures.ordered each,
    ))
    c.set_of.ensures.same
