use Rattle.std.proofs.Common.{rules, ◌∙◌, sym, ap, Some}
use Rattle.std.specs.List.{list_any}
use Rattle.fbc_types.specs.Texts.{has_bad_range}
use Rattle.fbc_types.specs.declared.property.RawConstraint.TheViews.{the_lemmas}
use Rattle.op_properties.specs.Asked as spec
use Rattle.op_properties.proofs.Whole.{first_more}
use Rattle.op_properties.proofs.Written.{good_package, good_all, good_any, good_not}
use Rattle.op_properties.proofs.asked.+asked.Goals as goal

pub read_constraint-package_in-requires : goal.read_constraint-package_in-requires
read_constraint-package_in-requires t c = good_package c.args.constraint.now c.requires c.in-Package.name c.in-Package.range c.in-Package.is

pub read_constraint-read_members-requires : goal.read_constraint-read_members-requires
read_constraint-read_members-requires t c =
    (search (rules, the_lemmas), ap (list_any has_bad_range) c.as_slice.ensures ∙ good_all c.args.constraint.now c.requires c.in-All.members c.in-All.is)

pub read_constraint-read_members-requires-in-Any : goal.read_constraint-read_members-requires-in-Any
read_constraint-read_members-requires-in-Any t c =
    (search (rules, the_lemmas), ap (list_any has_bad_range) c.as_slice-in-Any.ensures ∙ good_any c.args.constraint.now c.requires c.in-Any.members c.in-Any.is)

pub read_constraint-read_members-requires-in-Not : goal.read_constraint-read_members-requires-in-Not
read_constraint-read_members-requires-in-Not t c =
    (search (rules, the_lemmas), ap (list_any has_bad_range) c.as_slice-in-Not.ensures ∙ good_not c.args.constraint.now c.requires c.in-Not.members c.in-Not.is)

pub read_members-constraints-preserved : goal.read_members-constraints-preserved
read_members-constraints-preserved t c =
    first_more spec.requirement_of c.args.constraints.now c.constraints.constraint-index c.constraint-item.result c.constraints.members c.in_ok-read_constraint.field-0
    c.constraints-test.true c.constraint-item.is c.constraints.invariant c.in_ok-read_constraint.ensures
    ∙ ap Some (sym c.in_ok-push.ensures.ok)
