use Rattle.std.proofs.Common.{◌≡◌, ℕ, ◌<◌, true, Some, slice_get}
use Rattle.op_constraints.specs.declared.Constraint.{Constraint}
use Rattle.preference_search.specs.Naming.{may_deny, IsListed, IsGrown}
use Rattle.preference_search.proofs.naming.list_variable.Given as goal

abbrev pub invariant-loop-number : goal.invariant-loop-number
invariant-loop-number l = record {
  listed : (number w : ℕ) (c : Constraint) → number < l.number → slice_get l.constraints number ≡ Some c → may_deny l.owner w c ≡ true → IsListed l.places w (record { owner = l.owner; constraint = number });
  grown : IsGrown l.initial.places l.places;
}
