-- The catalog's write is the first of its key.
use Rattle.one_subscription.proofs.First.{catalog_is_first}
use Rattle.one_subscription.proofs.asked.asked_view.Goals as goal

pub put_first-requires-clause-agrees : goal.put_first-requires-clause-agrees
put_first-requires-clause-agrees c =
    catalog_is_first c.new-cluster.result 2 c.in_ok-catalog_write.field-0 c.args.body c.new-cluster.ensures
    c.in_ok-catalog_write.ensures
