use Rattle.std.proofs.Common.{◌<◌, arith}
use Rattle.version_ranges.proofs.Loops.{conditions_end, conditions_fault, conditions_more}
use Rattle.version_ranges.proofs.Turns.{has_bytes}
use Rattle.version_ranges.proofs.parsing.read_conditions.Goals as goal

pub returns-then-ends-clause-answer : goal.returns-then-ends-clause-answer
returns-then-ends-clause-answer c =
    conditions_end c.args.place c.conditions.at c.count_spaces.result c.args.rest.now c.conditions.conditions c.ends.result _
    c.count_spaces.ensures.count c.ends.ensures c.if-ends.true c.conditions.invariant.all

pub conditions-smaller : goal.conditions-smaller
conditions-smaller c =
    let some : 0 < c.in-Ok.count = has_bytes _ _ _ c.in-Ok.ensures.answer in
    omega (arith, c.in-Ok.ensures.within)

pub conditions-preserved : goal.conditions-preserved
conditions-preserved c =
    record {
      within = omega (arith, c.in-Ok.ensures.within);
      all = conditions_more c.args.place c.conditions.at c.count_spaces.result c.args.rest.now c.conditions.conditions c.push.new.self c.in-Ok.condition c.in-Ok.count c.ends.result _
          c.count_spaces.ensures.count c.ends.ensures c.if-ends.false c.in-Ok.ensures.answer c.in-Ok-push.ensures.ok c.conditions.invariant.all;
    }

pub returns-in-Err-clause-answer : goal.returns-in-Err-clause-answer
returns-in-Err-clause-answer c = λ bound.
    conditions_fault c.args.place c.conditions.at c.count_spaces.result c.args.rest.now c.conditions.conditions c.in-Err.fault c.ends.result _
    c.count_spaces.ensures.count c.ends.ensures c.if-ends.false (c.in-Err.ensures.answer bound) c.conditions.invariant.all
