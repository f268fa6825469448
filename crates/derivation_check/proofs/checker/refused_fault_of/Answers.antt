use Rattle.std.proofs.Common.{[], None, Some, sym, ap, ◌∙◌}
use Rattle.std.specs.List.{list_all}
use Rattle.op_constraints.specs.Meets.{at}
use Rattle.op_constraints.specs.Walks.{begun}
use Rattle.derivation_check.specs.Denials.{denies_in}
use Rattle.derivation_check.proofs.LogSteps.{log_within}
use Rattle.derivation_check.proofs.RefusedLemmas.{denies_more, denies_right}
use Rattle.derivation_check.proofs.checker.refused_fault_of.Goals as goal

pub returns-then-not-deny_set-clause-fault : goal.returns-then-not-deny_set-clause-fault
returns-then-not-deny_set-clause-fault c =
    denies_more c.args.problem.now c.args.lemmas.now c.args.refutation.now (at c.set.result.now) c.restart.new.self c.deny_set.result
    c.set.ensures.same (c.restart.ensures ∙ ap begun c.requires.ready.walks)
    (c.deny_set.ensures ∙ ap (λ lits. list_all (λ l. denies_in (at c.set.result.now) l) lits) c.as_slice.ensures) c.if-not-deny_set.true

pub refutation_fault-requires-clause-within : goal.refutation_fault-requires-clause-within
refutation_fault-requires-clause-within c = log_within c.args.problem.now [] c.args.lemmas.now c.requires.follows

pub returns-in-None-clause-fault : goal.returns-in-None-clause-fault
returns-in-None-clause-fault c =
    denies_right c.args.problem.now c.args.lemmas.now c.args.refutation.now (at c.set.result.now) c.restart.new.self c.deny_set.result None
    c.set.ensures.same (c.restart.ensures ∙ ap begun c.requires.ready.walks)
    (c.deny_set.ensures ∙ ap (λ lits. list_all (λ l. denies_in (at c.set.result.now) l) lits) c.as_slice.ensures) c.if-not-deny_set.false
    (sym c.refutation_fault.ensures.fault ∙ c.in-None.is)

pub returns-in-Some-clause-fault : goal.returns-in-Some-clause-fault
returns-in-Some-clause-fault c =
    denies_right c.args.problem.now c.args.lemmas.now c.args.refutation.now (at c.set.result.now) c.restart.new.self c.deny_set.result (Some c.in-Some.cause)
    c.set.ensures.same (c.restart.ensures ∙ ap begun c.requires.ready.walks)
    (c.deny_set.ensures ∙ ap (λ lits. list_all (λ l. denies_in (at c.set.result.now) l) lits) c.as_slice.ensures) c.if-not-deny_set.false
    (sym c.refutation_fault.ensures.fault ∙ c.in-Some.is)
