use Rattle.std.proofs.Common.{◌∙◌}
use Rattle.name_tables.specs.Sets.{has}
use Rattle.name_tables.proofs.Kept.{agreed, tied}
use Rattle.name_tables.proofs.names.NameSet.has.Goals as goal

pub returns : goal.returns
unfolding has
returns c = c.contains.ensures ∙ agreed _ _ (λ kept. tied c.args.name.now kept.now) c.args.self.now.names.keys
