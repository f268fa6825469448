-- The test that IsWithin says the meaning of.
use Rattle.std.specs.Prelude.{ℕ, nat_lt, Bool, true}
use Rattle.std.specs.List.{list_all}
use Rattle.op_constraints.specs.declared.Constraint.{Constraint}
use Rattle.op_constraints.specs.declared.Constraint.TheVariants.{Mandatory, Prohibited, Dependency, Conflict, AtMost}

abbrev pub is_within : ℕ → Constraint → Bool
is_within n Mandatory = true
is_within n Prohibited = true
is_within n (Dependency members) = list_all (λ m. nat_lt m n) members
is_within n (Conflict other) = nat_lt other n
is_within n (AtMost most members) = list_all (λ m. nat_lt m n) members
