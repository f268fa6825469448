use Rattle.std.proofs.Common.{◌≡◌, drop, length}
use Rattle.derivation_check.specs.Members.{are_struck}
use Rattle.derivation_check.proofs.members.strike_all.Given as goal

abbrev pub invariant-loop-var : goal.invariant-loop-var
invariant-loop-var l = record {
  struck : are_struck l.initial.marks l.vars ≡ are_struck l.marks (drop l.var-index l.vars);
  same : length l.marks ≡ length l.initial.marks;
}
