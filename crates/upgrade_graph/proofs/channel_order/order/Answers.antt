use Rattle.upgrade_graph.proofs.Checked.{usable}
use Rattle.upgrade_graph.proofs.channel_order.order.Goals as goal

pub order_of-requires : goal.order_of-requires
order_of-requires c =
    (usable c.bundles_are_read.ensures c.entries_are_bundles.ensures c.args.catalog.now c.catalog-catalog.result.now c.as_slice.result.now c.as_slice-in-Some.result.now c.in-Some.channel.now c.args.«package».now c.args.channel.now c.catalog-catalog.ensures.valid c.catalog-catalog.ensures.catalog c.as_slice.ensures c.as_slice-in-Some.ensures c.in-Some.ensures).versions
