use Rattle.std.proofs.Common.{◌&&◌, ◌++◌, not, ap, ◌∙◌}
use Rattle.std.specs.List.{list_any}
use Rattle.fbc_types.specs.Rules as rules
use Rattle.name_tables.specs.Sets.{has_owned}
use Rattle.fbc_check.proofs.Steps.{noted_more}
use Rattle.fbc_check.proofs.packages.packages_without_default.Goals as goal

pub packages-preserved : goal.packages-preserved
packages-preserved c =
    noted_more c.args.packages.now c.packages.blob-index c.blob-item.result c.packages-test.true c.blob-item.is (rules.no_default c.args.channels.now) _ _ _
    (c.in_ok-note_package.ensures
    ∙ ap (λ b. c.packages.faults.items ++ rules.where_broken b (rules.of_package 6 c.blob-item.result))
    (c.lacks_default-is_without.ensures
    ∙ ap (λ b. b && not (has_owned c.in_ok-names.names c.blob-item.result.name c.blob-item.result.default_channel)) (c.in_ok-with_channels.ensures c.blob-item.result.name)
    ∙ ap (λ b. list_any (rules.is_channel_of c.blob-item.result.name) c.args.channels.now && not b) (c.in_ok-names.ensures c.blob-item.result.name c.blob-item.result.default_channel)))
    c.packages.invariant
