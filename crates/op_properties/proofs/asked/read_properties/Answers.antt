use Rattle.std.proofs.Common.{◌∙◌, sym, ap, Some, None}
use Rattle.std.specs.Option.{option_map}
use Rattle.std.proofs.lemmas.List.{append-nil}
use Rattle.op_properties.specs.Asked as spec
use Rattle.op_properties.proofs.Whole.{filtered_more}
use Rattle.op_properties.proofs.asked.read_properties.Goals as goal
use Rattle.op_properties.proofs.asked.read_properties.Goals.{in-Some+in_ok-push, in_default}

pub properties-preserved : goal.properties-preserved
properties-preserved c =
    let all = c.args.properties.now in
    let i = c.properties.property-index in
    let found = c.properties.found in
    elim c.match-branch-2.branch [
      | in-Some+in_ok-push w ↦
          filtered_more spec.requirement_of spec.asked all i c.property-item.result found (Some w.in-Some.requirement) c.properties-test.true c.property-item.is
          c.properties.invariant (c.in_ok-requirement.ensures ∙ ap (option_map Some) w.in-Some.is)
          ∙ ap Some (sym (w.found-is ∙ w.in_ok-push.ensures.ok))
      | in_default w ↦
          filtered_more spec.requirement_of spec.asked all i c.property-item.result found None c.properties-test.true c.property-item.is
          c.properties.invariant (c.in_ok-requirement.ensures ∙ ap (option_map Some) w.in_default.is)
          ∙ ap Some (append-nil found ∙ sym w.found-is)
    ]
