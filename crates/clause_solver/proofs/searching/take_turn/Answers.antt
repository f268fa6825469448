use Rattle.std.proofs.Common.{◌<◌, List, Option, IfNone, IfSome, sym, ◌∙◌, subst}
use Rattle.op_constraints.specs.declared.Lit.{Lit}
use Rattle.clause_trail.specs.declared.Reason.{Reason}
use Rattle.clause_trail.specs.declared.Scan.TheVariants.{Conflict}
use Rattle.clause_trail.specs.Trails.{literals}
use Rattle.clause_trail.specs.Scans.{Scans, AllSettled}
use Rattle.clause_analysis.specs.declared.Analysis.{Analysis}
use Rattle.clause_analysis.specs.Analysed.{IsAnalysed}
use Rattle.clause_analysis.specs.Caused.{IsCaused}
use Rattle.clause_solver.specs.declared.searching.Turn.{Turn}
use Rattle.clause_solver.specs.Searching.{Comes, Decides}
use Rattle.clause_solver.proofs.Logs.{held-clauses}
use Rattle.clause_solver.proofs.Turning.{if_ok, comes, learnt_var, learnt_unknown, caused-learnt, fewer_learnt}
use Rattle.clause_solver.proofs.searching.take_turn.Goals as goal

pub propagate-requires-clause-clauses : goal.propagate-requires-clause-clauses
propagate-requires-clause-clauses g c = held-clauses c.args.problem.now c.args.lemmas.now (g.S.ProofSink.lemmas c.args.sink.now) c.requires.held

pub returns-in-None-clause-turn : goal.returns-in-None-clause-turn
returns-in-None-clause-turn g c =
    let problem = c.args.problem.now in
    let lemmas = c.args.lemmas.now in
    let log = g.S.ProofSink.lemmas c.args.sink.now in
    let left = c.args.budget.now.left in
    let before = c.args.trail.now in
    let middle = c.propagate.new.trail in
    let after = c.decide.new.trail in
    let settled = subst (λ (o : Option Reason). IfNone o (AllSettled problem lemmas (literals middle.entries))) c.in-None.is c.in_ok-propagate.ensures.settled in
    let P : Turn → Type 0 = λ turn. (ls : List (List Lit)) → IsCaused problem ls middle → AllSettled problem ls (literals middle.entries) → Decides problem ls middle after turn in
    let Q : Turn → Type 0 = λ turn. Comes problem lemmas log left left before after turn in
    if_ok P Q c.decide.result
    (λ turn h. comes problem lemmas log left before middle after turn c.requires.caused c.in_ok-propagate.ensures.caused c.in_ok-propagate.ensures.assumed c.in_ok-propagate.ensures.more (h lemmas c.in_ok-propagate.ensures.caused settled))
    c.decide.ensures

pub learn-requires-clause-var : goal.learn-requires-clause-var
learn-requires-clause-var g c =
    let problem = c.args.problem.now in
    let lemmas = c.args.lemmas.now in
    let middle = c.propagate.new.trail in
    let caused = c.in_ok-propagate.ensures.caused in
    let scans = subst (λ (o : Option Reason). IfSome o (λ reason. Scans problem lemmas (literals middle.entries) (Conflict reason))) c.in-Some.is c.in_ok-propagate.ensures.conflict in
    let learnt = subst (λ (a : Analysis). IsAnalysed problem lemmas middle.entries a) c.in-Lemma.is (c.in_ok-refutation-in-Some.ensures problem lemmas caused scans) in
    subst (λ n. c.in-Lemma.learnt.forced.var < n) (sym caused.size) (learnt_var problem lemmas middle.entries c.in-Lemma.learnt learnt)

pub learn-requires-clause-unknown : goal.learn-requires-clause-unknown
learn-requires-clause-unknown g c =
    let problem = c.args.problem.now in
    let lemmas = c.args.lemmas.now in
    let middle = c.propagate.new.trail in
    let caused = c.in_ok-propagate.ensures.caused in
    let scans = subst (λ (o : Option Reason). IfSome o (λ reason. Scans problem lemmas (literals middle.entries) (Conflict reason))) c.in-Some.is c.in_ok-propagate.ensures.conflict in
    let learnt = subst (λ (a : Analysis). IsAnalysed problem lemmas middle.entries a) c.in-Lemma.is (c.in_ok-refutation-in-Some.ensures problem lemmas caused scans) in
    learnt_unknown problem lemmas middle.entries c.in-Lemma.learnt learnt

pub returns-clause-turn : goal.returns-clause-turn
returns-clause-turn g c =
    let problem = c.args.problem.now in
    let lemmas = c.args.lemmas.now in
    let before = c.args.trail.now in
    let middle = c.propagate.new.trail in
    let after = c.learn.new.trail in
    let caused = c.in_ok-propagate.ensures.caused in
    let scans = subst (λ (o : Option Reason). IfSome o (λ reason. Scans problem lemmas (literals middle.entries) (Conflict reason))) c.in-Some.is c.in_ok-propagate.ensures.conflict in
    let learnt = subst (λ (a : Analysis). IsAnalysed problem lemmas middle.entries a) c.in-Lemma.is (c.in_ok-refutation-in-Some.ensures problem lemmas caused scans) in
    let both = caused-learnt problem lemmas c.learn.new.lemmas (g.S.ProofSink.lemmas c.args.sink.now) middle after c.in-Lemma.learnt c.requires.held caused learnt c.in_ok-learn-in-Lemma.ensures.held_more c.in_ok-learn-in-Lemma.ensures.size c.in_ok-learn-in-Lemma.ensures.trail in (
      both.0,
      both.1 ∙ c.in_ok-propagate.ensures.assumed,
      fewer_learnt c.args.budget.now.left c.learn.new.budget.left before after c.in_ok-learn-in-Lemma.ensures.left (c.in_ok-learn-in-Lemma.ensures.size ∙ (caused.size ∙ sym c.requires.caused.size)),
    )
