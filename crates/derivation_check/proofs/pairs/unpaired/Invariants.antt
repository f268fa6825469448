use Rattle.std.proofs.Common.{◌≡◌, ◌≤◌, drop, map, length}
use Rattle.derivations.specs.Accepted.{pairs_from}
use Rattle.derivation_check.specs.Faults.{pair_of, pairs_fault}
use Rattle.derivation_check.proofs.pairs.unpaired.Given as goal

abbrev pub invariant-loop-i : goal.invariant-loop-i
invariant-loop-i l = record {
  same : pairs_fault 0 (pairs_from 0 l.numbers) (map pair_of l.steps) ≡ pairs_fault l.next (pairs_from l.i (drop l.i l.numbers)) (drop l.next (map pair_of l.steps));
  within : l.next ≤ length l.steps;
}
