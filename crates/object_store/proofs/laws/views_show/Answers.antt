use Rattle.object_store.proofs.Showing.{view_in_order, visible_shown, other_hidden}
use Rattle.object_store.proofs.laws.views_show.Goals as goal

pub returns-clause-order : goal.returns-clause-order
returns-clause-order c h namespace a sorted = view_in_order h namespace a sorted

pub returns-clause-seen : goal.returns-clause-seen
returns-clause-seen c h namespace a key is = visible_shown h namespace a key is

pub returns-clause-unseen : goal.returns-clause-unseen
returns-clause-unseen c h namespace a key is = other_hidden h namespace a key is
