use Rattle.olm_cli.proofs.Said.{words_tell}
use Rattle.olm_cli.proofs.telling.tell_words.Goals as goal

pub returns-then-tell-clause-line : goal.returns-then-tell-clause-line
returns-then-tell-clause-line g c =
    let text = c.tell_fault.ensures.text in
    words_tell (g.E.Sink.held c.args.err.now) (g.E.Sink.held c.tell.new.err) (g.E.Sink.held c.tell_fault.new.err) text.0 (c.tell.ensures.whole c.if-tell.true) text.1
