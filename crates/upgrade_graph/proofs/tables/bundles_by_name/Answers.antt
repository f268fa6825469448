use Rattle.std.proofs.Common.{◌&&◌, Some, None, if◌then◌else◌, ap, sym, ◌∙◌}
use Rattle.std.specs.Option.{option_or}
use Rattle.fbc_types.specs.Rules.{is_bundle_of}
use Rattle.fbc_types.specs.Texts.{same}
use Rattle.fbc_types.specs.declared.catalog.Bundle.{Bundle}
use Rattle.upgrade_graph.specs.Tables.{under}
use Rattle.upgrade_graph.proofs.Keyed.{false_from_ne, find_less, find_more, true_from_ne}
use Rattle.upgrade_graph.proofs.tables.bundles_by_name.Goals as goal

pub loop-bundle-preserved-then-ne : goal.loop-bundle-preserved-then-ne
loop-bundle-preserved-then-ne c = λ name.
    let other = false_from_ne c.ne.result (is_bundle_of c.args.owner.now c.bundle-item.result) c.ne.ensures c.if-ne.true in
    find_less (λ (bundle : Bundle). is_bundle_of c.args.owner.now bundle && same bundle.name name) c.args.bundles.now c.loop-bundle.bundle-index c.bundle-item.result (under c.loop-bundle.table.entries name) c.loop-bundle-test.true c.bundle-item.is (ap (λ b. b && same c.bundle-item.result.name name) other) (c.loop-bundle.invariant name)

pub loop-bundle-preserved : goal.loop-bundle-preserved
loop-bundle-preserved c = λ name.
    let own = true_from_ne c.ne.result (is_bundle_of c.args.owner.now c.bundle-item.result) c.ne.ensures c.if-ne.false in
    c.in_ok-add_first.ensures name
    ∙ ap (λ b. option_or (under c.loop-bundle.table.entries name) (if b && same c.bundle-item.result.name name then Some c.bundle-item.result else None)) (sym own)
    ∙ find_more (λ (bundle : Bundle). is_bundle_of c.args.owner.now bundle && same bundle.name name) c.args.bundles.now c.loop-bundle.bundle-index c.bundle-item.result (under c.loop-bundle.table.entries name) c.loop-bundle-test.true c.bundle-item.is (c.loop-bundle.invariant name)
