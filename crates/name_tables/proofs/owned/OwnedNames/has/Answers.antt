use Rattle.std.proofs.Common.{◌∙◌}
use Rattle.name_tables.specs.Sets.{has_owned}
use Rattle.name_tables.proofs.Kept.{agreed, both_tied}
use Rattle.name_tables.proofs.owned.OwnedNames.has.Goals as goal

pub returns : goal.returns
unfolding has_owned
returns c =
    c.contains.ensures
    ∙ agreed _ _ (λ kept. both_tied c.args.owner.now kept.owner.now c.args.name.now kept.name.now) c.args.self.now.names.keys
