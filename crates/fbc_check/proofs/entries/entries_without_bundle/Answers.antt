use Rattle.std.proofs.Common.{◌++◌, not, ap, ◌∙◌}
use Rattle.std.specs.List.{flat_map}
use Rattle.fbc_types.specs.Rules as rules
use Rattle.fbc_check.proofs.Steps.{noted_more, said_alike}
use Rattle.fbc_check.proofs.entries.entries_without_bundle.Goals as goal

pub channels-preserved : goal.channels-preserved
channels-preserved c =
    noted_more c.args.channels.now c.channels.blob-index c.blob-item.result c.channels-test.true c.blob-item.is
    (λ channel. flat_map (rules.no_bundle c.args.bundles.now channel) channel.entries) _ _ _
    (c.in_ok-note_without_bundle.ensures
    ∙ ap (λ w. c.channels.faults.items ++ w)
    (said_alike _ (rules.no_bundle c.args.bundles.now c.blob-item.result)
    (λ entry. ap (λ b. rules.where_broken (not b) (rules.of_entry 7 c.blob-item.result entry)) (c.in_ok-names.ensures c.blob-item.result.«package» entry.name))
    c.blob-item.result.entries))
    c.channels.invariant
