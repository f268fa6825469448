use Rattle.std.proofs.Common.{◌≡◌, ℕ, ◌<◌, true, Some}
use Rattle.op_constraints.specs.declared.Constraint.{Constraint}
use Rattle.op_constraints.specs.Meets.{constraint_at}
use Rattle.preference_search.specs.Naming.{may_deny, IsListed}
use Rattle.preference_search.proofs.naming.places_of.Given as goal

abbrev pub invariant-loop-number : goal.invariant-loop-number
invariant-loop-number l =
    (v number w : ℕ) (c : Constraint) → v < l.number → constraint_at l.problem v number ≡ Some c → may_deny v w c ≡ true → IsListed l.places w (record { owner = v; constraint = number })
