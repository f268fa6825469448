use Rattle.object_store.proofs.Showing.{view_in_order}
use Rattle.role_laws.proofs.Kept.{kept_in_order}
use Rattle.role_laws.proofs.laws.views_are_in_order.Goals as goal

pub returns-clause-kept : goal.returns-clause-kept
returns-clause-kept c is_valid h namespace a kept = kept_in_order is_valid h namespace a kept

pub returns-clause-based : goal.returns-clause-based
returns-clause-based c h namespace a sorted = view_in_order h namespace a sorted
