use Rattle.std.proofs.Common.{◌∙◌}
use Rattle.op_constraints.specs.Meets.{at}
use Rattle.preference_search.proofs.Opening.{waits-here, waits-next, few-members}
use Rattle.preference_search.proofs.lists.next_open.Goals as goal

pub returns-in-Some-clause-some : goal.returns-in-Some-clause-some
returns-in-Some-clause-some c =
    waits-here c.args.problem.now (at c.args.bits.now) c.args.chosen.now c.loop-owner.owner-index c.owner-item.result c.in-Some.place c.constraints.result.now c.in-Some.members.now
    c.requires.same c.loop-owner.invariant c.loop-owner-test.true c.owner-item.is c.constraints.ensures c.in-Some.ensures.some c.in-Some.ensures.at

pub returns-in-Some-clause-few : goal.returns-in-Some-clause-few
returns-in-Some-clause-few c =
    few-members c.args.problem.now c.owner-item.result c.in-Some.place c.constraints.result.now c.in-Some.members.now
    c.len-count.ensures.kept c.constraints.ensures c.in-Some.ensures.at

pub loop-owner-preserved : goal.loop-owner-preserved
loop-owner-preserved c =
    c.loop-owner.invariant
    ∙ waits-next c.args.problem.now (at c.args.bits.now) c.args.chosen.now c.loop-owner.owner-index c.owner-item.result c.constraints.result.now
    c.loop-owner-test.true c.owner-item.is c.constraints.ensures c.in_default.ensures.none
