use Rattle.std.proofs.Common.{◌≡◌, drop, length}
use Rattle.derivation_check.specs.Members.{listed_in}
use Rattle.derivation_check.proofs.members.list_all.Given as goal

abbrev pub invariant-loop-var : goal.invariant-loop-var
invariant-loop-var l = record {
  listed : listed_in l.initial.marks l.vars ≡ listed_in l.marks (drop l.var-index l.vars);
  same : length l.marks ≡ length l.initial.marks;
}
