use Rattle.std.proofs.Common.{◌≡◌, drop, ◌&&◌, length}
use Rattle.derivation_check.specs.Scan.{denied_in, are_new}
use Rattle.derivation_check.proofs.hints.deny_all.Given as goal

abbrev pub invariant-loop-lit : goal.invariant-loop-lit
invariant-loop-lit l = record {
  denied : denied_in l.initial.marks l.lits ≡ denied_in l.marks (drop l.lit-index l.lits);
  new : are_new l.initial.marks l.lits ≡ (l.good && are_new l.marks (drop l.lit-index l.lits));
  same : length l.marks ≡ length l.initial.marks;
}
