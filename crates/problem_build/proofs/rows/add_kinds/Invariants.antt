use Rattle.std.proofs.Common.{◌≡◌, ◌++◌, ◌∷◌, [], map, drop}
use Rattle.problem_build.specs.Numbers.{numbers_where}
use Rattle.problem_build.specs.Variables as spec
use Rattle.std.specs.Borrow.{Bor}
use Rattle.op_properties.specs.declared.offer.Offer.{Offer}
use Rattle.op_properties.specs.Offers.{shown}
use Rattle.olm_base.specs.declared.gvk.Gvk.{Gvk}
use Rattle.op_constraints.specs.declared.Constraint.TheVariants.{AtMost}
use Rattle.problem_build.proofs.rows.add_kinds.Given as goal

abbrev pub invariant-loop-kind : goal.invariant-loop-kind
invariant-loop-kind l =
    l.rows.items ++ map (λ (x : Gvk). AtMost 1 (numbers_where l.first (spec.has_kind x) (map (λ (o : Bor Offer). shown o.now) l.offers)) ∷ []) (drop l.kind-index l.kinds) ≡ l.initial.rows.items ++ map (λ (x : Gvk). AtMost 1 (numbers_where l.first (spec.has_kind x) (map (λ (o : Bor Offer). shown o.now) l.offers)) ∷ []) l.kinds
