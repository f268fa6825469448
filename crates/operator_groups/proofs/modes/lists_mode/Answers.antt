use Rattle.std.proofs.Common.{◌&&◌, sym, ap, ◌∙◌}
use Rattle.std.specs.List.{list_any}
use Rattle.serde_json.specs.Data.{Data}
use Rattle.serde_json.specs.View.{view}
use Rattle.operator_groups.specs.Modes.{is_of_mode, says_supported}
use Rattle.operator_groups.proofs.Members.{any_map}
use Rattle.operator_groups.proofs.modes.lists_mode.Goals as goal

pub returns : goal.returns
returns c =
    let lists = λ (item : Data). is_of_mode c.args.mode item && says_supported item in
    c.is_listed.ensures ∙ sym (any_map lists view c.modes_of.result.now) ∙ ap (list_any lists) c.modes_of.ensures
