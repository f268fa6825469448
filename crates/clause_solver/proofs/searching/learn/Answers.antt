use Rattle.clause_solver.proofs.Turning.{held_more}
use Rattle.clause_solver.proofs.searching.learn.Goals as goal

pub returns-clause-held : goal.returns-clause-held
returns-clause-held g c = λ problem h f i.
    held_more problem c.args.lemmas.now c.add.new.lemmas (g.S.ProofSink.lemmas c.args.sink.now) (g.S.ProofSink.lemmas c.add.new.sink) c.args.learnt.lemma
    c.in_ok-number.ensures.held c.in_ok-number.ensures.pushed h f i
