use Rattle.std.proofs.Common.{◌≡◌, ◌++◌, ◌∷◌, [], List, ℕ, map, drop}
use Rattle.problem_build.specs.Numbers.{numbers_where}
use Rattle.problem_build.specs.Variables as spec
use Rattle.std.specs.Borrow.{Bor}
use Rattle.op_properties.specs.declared.offer.Offer.{Offer}
use Rattle.op_properties.specs.Offers.{shown}
use Rattle.op_constraints.specs.declared.Constraint.TheVariants.{AtMost}
use Rattle.problem_build.proofs.rows.add_packages.Given as goal

abbrev pub invariant-loop-name : goal.invariant-loop-name
invariant-loop-name l =
    l.rows.items ++ map (λ (x : List ℕ). AtMost 1 (numbers_where l.first (spec.is_of_package x) (map (λ (o : Bor Offer). shown o.now) l.offers)) ∷ []) (drop l.name-index l.packages) ≡ l.initial.rows.items ++ map (λ (x : List ℕ). AtMost 1 (numbers_where l.first (spec.is_of_package x) (map (λ (o : Bor Offer). shown o.now) l.offers)) ∷ []) l.packages
