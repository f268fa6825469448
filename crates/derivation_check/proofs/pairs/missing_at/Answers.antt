use Rattle.std.proofs.Common.{◌≡◌, ◌+◌, ◌-◌, suc, ◌++◌, map, drop, sym, ap, ◌∙◌, arith}
use Rattle.std.specs.List.{range_with_len}
use Rattle.derivation_check.specs.Faults.{pair_of, pairs_fault}
use Rattle.derivation_check.proofs.PairLemmas.{missing_here, passed_here}
use Rattle.derivation_check.proofs.pairs.missing_at.Goals as goal

pub returns-then-not-is_next_at-clause-some : goal.returns-then-not-is_next_at-clause-some
returns-then-not-is_next_at-clause-some c =
    λ rest. c.loop-candidate.invariant.same rest
    ∙ missing_here c.args.choice c.loop-candidate.candidate (c.args.number - c.loop-candidate.candidate) (c.args.start + c.loop-candidate.candidate) (map pair_of c.args.steps.now) rest (omega arith)
    (sym c.is_next_at.ensures.next ∙ c.if-not-is_next_at.true)

pub loop-candidate-preserved : goal.loop-candidate-preserved
loop-candidate-preserved c =
    let left = c.args.number - (c.loop-candidate.candidate + 1) in
    let counted : c.args.number - c.loop-candidate.candidate ≡ suc left = omega arith in
    let onward : (c.args.start + c.loop-candidate.candidate) + 1 ≡ c.args.start + (c.loop-candidate.candidate + 1) = omega arith in
    record {
      same = λ rest. c.loop-candidate.invariant.same rest
          ∙ (passed_here c.args.choice c.loop-candidate.candidate (c.args.number - c.loop-candidate.candidate) left (c.args.start + c.loop-candidate.candidate) (map pair_of c.args.steps.now) rest counted
          (sym c.is_next_at.ensures.next ∙ c.if-not-is_next_at.false)
          ∙ ap (λ n. pairs_fault n (map (λ j. (c.args.choice, j)) (range_with_len (c.loop-candidate.candidate + 1) left) ++ rest) (drop n (map pair_of c.args.steps.now))) onward);
      within = omega (arith, c.if-not-is_next_at.ensures.within);
    }
