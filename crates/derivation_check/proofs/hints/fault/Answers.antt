use Rattle.std.proofs.Common.{ap, ◌∙◌, take, length}
use Rattle.derivations.specs.Follows.{clauses}
use Rattle.derivation_check.specs.Scan.{answer}
use Rattle.derivation_check.proofs.Denied.{bad_fault, good_fault, clauses_below}
use Rattle.derivation_check.proofs.hints.fault.Goals as goal

pub returns-then-not-deny_all-clause-fault : goal.returns-then-not-deny_all-clause-fault
returns-then-not-deny_all-clause-fault c =
    bad_fault c.args.problem.now (take c.args.number (clauses c.args.lemmas.now)) c.clear.new.self (length c.args.marks.now) c.args.lits.now c.args.hints.now
    c.clear.ensures c.requires.size c.requires.closed (clauses_below c.args.problem.now c.args.number c.args.lemmas.now c.requires.within) (cc (c.deny_all.ensures.clause, c.if-not-deny_all.true))

pub returns-clause-fault : goal.returns-clause-fault
returns-clause-fault c =
    c.hints_fault.ensures.answer
    ∙ (ap (λ k. answer c.args.problem.now (take c.args.number (clauses c.args.lemmas.now)) k c.args.hints.now) c.deny_all.ensures.denied
    ∙ good_fault c.args.problem.now (take c.args.number (clauses c.args.lemmas.now)) c.clear.new.self (length c.args.marks.now) c.args.lits.now c.args.hints.now
    c.clear.ensures c.requires.size c.requires.closed (clauses_below c.args.problem.now c.args.number c.args.lemmas.now c.requires.within) (cc (c.deny_all.ensures.clause, c.if-not-deny_all.false)))
