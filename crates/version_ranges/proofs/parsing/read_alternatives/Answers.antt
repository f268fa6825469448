use Rattle.std.proofs.Common.{◌≡◌, ap, ◌∙◌, ◌-◌, length, drop, take, arith}
use Rattle.std.proofs.lemmas.List.{length-drop, take_rest}
use Rattle.version_ranges.proofs.Loops.{alternatives_end, alternatives_fault, alternatives_more}
use Rattle.version_ranges.proofs.parsing.read_alternatives.Goals as goal

pub returns-then-end-text : goal.returns-then-end-text
returns-then-end-text c =
    alternatives_end c.alternatives.at c.in-Ok.count c.args.text.now c.alternatives.alternatives c.push.new.self c.in-Ok.conditions _
    c.in-Ok.ensures.answer c.if-end-text.true c.in-Ok-push.ensures.ok c.alternatives.invariant.all

pub alternatives-preserved : goal.alternatives-preserved
alternatives-preserved c =
    let left : length (take (length c.args.text.now - c.alternatives.at) (drop c.alternatives.at c.args.text.now)) ≡ length c.args.text.now - c.alternatives.at = ap length (take_rest c.args.text.now c.alternatives.at) ∙ length-drop c.alternatives.at c.args.text.now in
    let other : c.in-Ok.count ≡ length (take (length c.args.text.now - c.alternatives.at) (drop c.alternatives.at c.args.text.now)) → ⊥ = λ e. c.if-end-text.false (omega arith) in
    let far = c.in-Ok.ensures.bars other in
    record {
      within = omega arith;
      all = alternatives_more c.alternatives.at c.in-Ok.count c.args.text.now c.alternatives.alternatives c.push.new.self c.in-Ok.conditions _
          c.in-Ok.ensures.answer (omega arith) c.in-Ok-push.ensures.ok c.alternatives.invariant.all;
    }

pub returns-in-Err : goal.returns-in-Err
returns-in-Err c = λ bound.
    alternatives_fault c.alternatives.at c.args.text.now c.alternatives.alternatives c.in-Err.fault _
    (c.in-Err.ensures.answer bound) c.alternatives.invariant.all
