use Rattle.std.proofs.Common.{◌∙◌}
use Rattle.clause_analysis.specs.Caused.{assumed}
use Rattle.clause_solver.specs.declared.searching.Answer.{Answer}
use Rattle.clause_solver.specs.Searching.{IsAnswer}
use Rattle.clause_solver.specs.Solving.{Solves}
use Rattle.clause_solver.proofs.Assuming.{begins, assumption_is, solves}
use Rattle.clause_solver.proofs.Turning.{if_ok}
use Rattle.clause_solver.proofs.solving.solve_with.Goals as goal

pub search-requires-clause-caused : goal.search-requires-clause-caused
search-requires-clause-caused g c =
    begins c.args.problem.now c.args.lemmas.now c.in_ok-trail.trail c.args.vars.now (c.in_ok-trail.ensures.size ∙ c.len-count.ensures.count) c.in_ok-trail.ensures.entries

pub returns-clause-answer : goal.returns-clause-answer
returns-clause-answer g c =
    let problem = c.args.problem.now in
    let vars = c.args.vars.now in
    let lits = assumed c.in_ok-trail.trail.entries in
    let log = g.S.ProofSink.lemmas c.search.new.sink in
    let left = c.search.new.budget.left in
    let P : Answer → Type 0 = λ answer. IsAnswer problem lits log left answer in
    let Q : Answer → Type 0 = λ answer. Solves problem vars log left answer in
    if_ok P Q c.search.result (λ answer h. solves problem vars lits log left answer (assumption_is c.in_ok-trail.trail.entries vars c.in_ok-trail.ensures.entries) h) c.search.ensures.answer
