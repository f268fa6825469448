use Rattle.upgrade_graph.proofs.Checked.{usable}
use Rattle.upgrade_graph.proofs.placed.entries_in_order.Goals as goal

pub ordered_in-requires-clause-versions : goal.ordered_in-requires-clause-versions
ordered_in-requires-clause-versions c =
    (usable c.bundles_are_read.ensures c.entries_are_bundles.ensures c.args.catalog.now c.catalog-catalog.result.now c.as_slice.result.now c.as_slice-in-Some.result.now c.in-Some.channel.now c.args.«package».now c.args.channel.now c.catalog-catalog.ensures.valid c.catalog-catalog.ensures.catalog c.as_slice.ensures c.as_slice-in-Some.ensures c.in-Some.ensures).versions

pub ordered_in-requires-clause-ranges : goal.ordered_in-requires-clause-ranges
ordered_in-requires-clause-ranges c =
    (usable c.bundles_are_read.ensures c.entries_are_bundles.ensures c.args.catalog.now c.catalog-catalog.result.now c.as_slice.result.now c.as_slice-in-Some.result.now c.in-Some.channel.now c.args.«package».now c.args.channel.now c.catalog-catalog.ensures.valid c.catalog-catalog.ensures.catalog c.as_slice.ensures c.as_slice-in-Some.ensures c.in-Some.ensures).ranges
