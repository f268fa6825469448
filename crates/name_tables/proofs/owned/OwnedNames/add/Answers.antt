use Rattle.std.proofs.Common.{not, ap, sym, ◌∙◌}
use Rattle.name_tables.specs.Sets.{has_owned}
use Rattle.name_tables.proofs.Kept.{agreed, both_tied, joined}
use Rattle.name_tables.proofs.owned.OwnedNames.add.Goals as goal

pub returns-clause-is_new : goal.returns-clause-is_new
unfolding has_owned
returns-clause-is_new c =
    c.in_ok-is_new.ensures.added
    ∙ ap not (agreed _ _ (λ kept. both_tied c.args.owner.now kept.owner.now c.args.name.now kept.name.now) c.args.self.now.names.keys)

pub returns-clause-added : goal.returns-clause-added
unfolding has_owned
returns-clause-added c = λ other named.
    joined
    (sym (agreed _ _ (λ kept. both_tied other kept.owner.now named kept.name.now) c.insert.new.self.keys)
    ∙ c.in_ok-is_new.ensures.updates.0 (record { owner = record c.args.owner { now = other }; name = record c.args.name { now = named } }))
    (both_tied c.args.owner.now other c.args.name.now named)
    (agreed _ _ (λ kept. both_tied other kept.owner.now named kept.name.now) c.args.self.now.names.keys)
