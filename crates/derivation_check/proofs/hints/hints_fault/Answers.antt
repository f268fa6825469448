use Rattle.std.proofs.Common.{sym, ◌∙◌, take}
use Rattle.derivations.specs.Follows.{clauses}
use Rattle.derivation_check.proofs.ScanLemmas.{answer_err_at, answer_not_unit_at}
use Rattle.derivation_check.proofs.hints.hints_fault.Goals as goal

pub returns-in-Err-clause-answer : goal.returns-in-Err-clause-answer
returns-in-Err-clause-answer c =
    sym (c.loop-i.invariant.0 ∙ answer_err_at c.args.problem.now (take c.args.number (clauses c.args.lemmas.now)) c.loop-i.marks c.args.hints.now c.loop-i.i c.index-hints-i.result c.in-Err.cause c.loop-i-test.true c.index-hints-i.is c.in-Err.ensures.left)

pub returns-in-None-clause-answer : goal.returns-in-None-clause-answer
returns-in-None-clause-answer c =
    sym (c.loop-i.invariant.0 ∙ answer_not_unit_at c.args.problem.now (take c.args.number (clauses c.args.lemmas.now)) c.loop-i.marks c.args.hints.now c.loop-i.i c.index-hints-i.result c.in-Ok.left c.loop-i-test.true c.if-i-hints.false c.index-hints-i.is c.in-Ok.ensures.left c.in-None.ensures)
