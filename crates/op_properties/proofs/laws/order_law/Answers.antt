use Rattle.op_properties.proofs.Ordered.{asks_in_order}
use Rattle.op_properties.proofs.laws.order_law.Goals as goal

pub returns : goal.returns
returns c = asks_in_order
