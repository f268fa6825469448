use Rattle.std.proofs.Common.{◌++◌, not, ap, ◌∙◌}
use Rattle.fbc_types.specs.Rules as rules
use Rattle.fbc_check.proofs.Steps.{noted_more}
use Rattle.fbc_check.proofs.bundles.bundles_without_entry.Goals as goal

pub bundles-preserved : goal.bundles-preserved
bundles-preserved c =
    noted_more c.args.bundles.now c.bundles.blob-index c.blob-item.result c.bundles-test.true c.blob-item.is (rules.no_entry c.args.channels.now) _ _ _
    (c.in_ok-note_bundle.ensures
    ∙ ap (λ b. c.bundles.faults.items ++ rules.where_broken (not b) (rules.of_bundle 8 c.blob-item.result))
    (c.has-is_without.ensures ∙ c.in_ok-listed.ensures c.blob-item.result.«package» c.blob-item.result.name))
    c.bundles.invariant
