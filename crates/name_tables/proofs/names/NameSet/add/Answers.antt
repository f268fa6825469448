use Rattle.std.proofs.Common.{not, ap, sym, ◌∙◌}
use Rattle.name_tables.specs.Sets.{has}
use Rattle.name_tables.proofs.Kept.{agreed, joined, tied}
use Rattle.name_tables.proofs.names.NameSet.add.Goals as goal

pub returns-clause-is_new : goal.returns-clause-is_new
unfolding has
returns-clause-is_new c =
    c.in_ok-is_new.ensures.added ∙ ap not (agreed _ _ (λ kept. tied c.args.name.now kept.now) c.args.self.now.names.keys)

pub returns-clause-added : goal.returns-clause-added
unfolding has
returns-clause-added c = λ other.
    joined
    (sym (agreed _ _ (λ kept. tied other kept.now) c.insert.new.self.keys) ∙ c.in_ok-is_new.ensures.updates.0 (record c.args.name { now = other }))
    (tied c.args.name.now other)
    (agreed _ _ (λ kept. tied other kept.now) c.args.self.now.names.keys)
