-- What the order of faults promises.
use Rattle.std.specs.Prelude.{◌≡◌, ◌↔◌, List, None}
use Rattle.op_constraints.specs.declared.Constraint.{Constraint}
use Rattle.derivations.specs.declared.Certificate.{Certificate}
use Rattle.derivations.specs.Accepted.{IsAccepted}
use Rattle.derivation_check.specs.Faults.{first_fault}

-- there is no first fault exactly where the certificate is accepted
abbrev pub NoFaultIsAccepted : Type 0
NoFaultIsAccepted = (problem : List (List Constraint)) (certificate : Certificate) → (first_fault problem certificate ≡ None) ↔ IsAccepted problem certificate
