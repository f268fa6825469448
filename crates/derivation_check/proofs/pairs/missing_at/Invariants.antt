use Rattle.std.proofs.Common.{◌≡◌, ℕ, ◌+◌, ◌-◌, ◌≤◌, ◌++◌, List, drop, map, length}
use Rattle.std.specs.List.{range_with_len}
use Rattle.derivation_check.specs.Faults.{pair_of, pairs_fault}
use Rattle.derivation_check.proofs.pairs.missing_at.Given as goal

abbrev pub invariant-loop-candidate : goal.invariant-loop-candidate
invariant-loop-candidate l = record {
  same : (rest : List (ℕ × ℕ)) → pairs_fault l.start (map (λ j. (l.choice, j)) (range_with_len 0 l.number) ++ rest) (drop l.start (map pair_of l.steps)) ≡ pairs_fault (l.start + l.candidate) (map (λ j. (l.choice, j)) (range_with_len l.candidate (l.number - l.candidate)) ++ rest) (drop (l.start + l.candidate) (map pair_of l.steps));
  within : l.start + l.candidate ≤ length l.steps;
}
