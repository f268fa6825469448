use Rattle.view_basis.proofs.Slots.{catalogs_in_order, catalogs_of_slots}
use Rattle.view_basis.proofs.laws.catalogs_are_in_order.Goals as goal

pub returns-clause-slots : goal.returns-clause-slots
returns-clause-slots c view = catalogs_of_slots view

pub returns-clause-order : goal.returns-clause-order
returns-clause-order c view up = catalogs_in_order view up
