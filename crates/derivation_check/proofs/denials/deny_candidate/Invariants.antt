use Rattle.std.proofs.Common.{◌≡◌, take, true}
use Rattle.std.specs.List.{list_all}
use Rattle.op_constraints.specs.Meets.{at}
use Rattle.derivation_check.specs.Denials.{denies_with}
use Rattle.derivation_check.proofs.denials.deny_candidate.Given as goal

abbrev pub invariant-loop-lit : goal.invariant-loop-lit
invariant-loop-lit l = list_all (λ k. denies_with l.candidate (at l.set) k) (take l.lit-index l.lits) ≡ true
