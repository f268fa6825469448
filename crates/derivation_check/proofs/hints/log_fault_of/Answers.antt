use Rattle.std.proofs.Common.{◌≡◌, ◌∙◌, take, None}
use Rattle.derivations.specs.Follows.{clauses, fault_of}
use Rattle.derivation_check.proofs.LogSteps.{log_step, within_step}
use Rattle.derivation_check.proofs.hints.log_fault_of.Goals as goal

pub loop-i-preserved : goal.loop-i-preserved
loop-i-preserved c =
    let lemma = c.index-lemmas-i.result in
    let none : fault_of c.args.problem.now (take c.loop-i.i (clauses c.args.lemmas.now)) lemma.lits lemma.hints ≡ None = cc (c.in-None.is, c.fault-cause.ensures.fault, c.as_slice.ensures, c.as_slice-in-loop-i.ensures) in
    record {
      rest = c.loop-i.invariant.rest ∙ log_step c.args.problem.now c.args.lemmas.now c.loop-i.i lemma c.loop-i-test.true c.index-lemmas-i.is none;
      within = within_step c.args.problem.now c.args.lemmas.now c.loop-i.i lemma c.loop-i-test.true c.index-lemmas-i.is none c.loop-i.invariant.within;
      size = c.fault-cause.ensures.same ∙ c.loop-i.invariant.size;
      listed = c.fault-cause.ensures.listed ∙ c.loop-i.invariant.listed;
    }
