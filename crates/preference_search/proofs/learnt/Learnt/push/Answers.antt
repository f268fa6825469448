use Rattle.std.proofs.Common.{ap, length}
use Rattle.derivations.specs.declared.Lemma.{Lemma}
use Rattle.preference_search.proofs.Indexing.{push-named}
use Rattle.preference_search.proofs.learnt.Learnt.push.Goals as goal

pub invariant_of-self-2 : goal.invariant_of-self-2
invariant_of-self-2 c =
    let s = c.self.inside in
    let lemma : Lemma = record { lits = c.args.lits.now; hints = c.args.hints.now } in
    push-named c.push.result s.log.lemmas c.push.new.self.lemmas s.naming c.list_lemma.new.naming lemma _
    c.self.invariant c.in_ok-list_lemma.ensures.grown c.in_ok-list_lemma.ensures.listed (ap length c.as_slice.ensures) c.push.ensures.added c.push.ensures.kept
