use Rattle.std.proofs.Common.{◌&&◌, ◌++◌, ap, ◌∙◌}
use Rattle.fbc_types.specs.Rules as rules
use Rattle.fbc_types.specs.Texts.{same}
use Rattle.fbc_check.proofs.Steps.{any_more, earlier_more, noted_by}
use Rattle.fbc_check.proofs.channels.repeated_channels.Goals as goal

pub channels-preserved : goal.channels-preserved
channels-preserved c = record {
  noted = earlier_more c.args.channels.now c.channels.blob-index c.blob-item.result c.channels-test.true c.blob-item.is rules.repeated_channel _ _ _
      (c.in_ok-note_channel.ensures ∙ ap (λ b. c.channels.faults.items ++ rules.where_broken b (rules.of_channel 2 c.blob-item.result)) (noted_by _ _ _ c.in_ok-is_new.ensures.is_new (c.channels.invariant.names c.blob-item.result.«package» c.blob-item.result.name)))
      c.channels.invariant.noted;
  names = λ owner name. any_more c.args.channels.now c.channels.blob-index c.blob-item.result c.channels-test.true c.blob-item.is (λ other. rules.is_channel_of owner other && same other.name name) _ _ (c.in_ok-is_new.ensures.added owner name) (c.channels.invariant.names owner name);
}
