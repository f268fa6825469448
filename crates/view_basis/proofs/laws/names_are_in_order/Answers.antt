use Rattle.view_basis.proofs.Slots.{subscriptions_by_name, tips_by_name}
use Rattle.view_basis.proofs.laws.names_are_in_order.Goals as goal

pub returns-clause-subscriptions : goal.returns-clause-subscriptions
returns-clause-subscriptions c view up = subscriptions_by_name view up

pub returns-clause-tips : goal.returns-clause-tips
returns-clause-tips c view up = tips_by_name view up
