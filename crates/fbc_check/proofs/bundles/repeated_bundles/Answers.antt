use Rattle.std.proofs.Common.{◌&&◌, ◌++◌, ap, ◌∙◌}
use Rattle.fbc_types.specs.Rules as rules
use Rattle.fbc_types.specs.Texts.{same}
use Rattle.fbc_check.proofs.Steps.{any_more, earlier_more, noted_by}
use Rattle.fbc_check.proofs.bundles.repeated_bundles.Goals as goal

pub bundles-preserved : goal.bundles-preserved
bundles-preserved c = record {
  noted = earlier_more c.args.bundles.now c.bundles.blob-index c.blob-item.result c.bundles-test.true c.blob-item.is rules.repeated_bundle _ _ _
      (c.in_ok-note_bundle.ensures ∙ ap (λ b. c.bundles.faults.items ++ rules.where_broken b (rules.of_bundle 3 c.blob-item.result)) (noted_by _ _ _ c.in_ok-is_new.ensures.is_new (c.bundles.invariant.names c.blob-item.result.«package» c.blob-item.result.name)))
      c.bundles.invariant.noted;
  names = λ owner name. any_more c.args.bundles.now c.bundles.blob-index c.blob-item.result c.bundles-test.true c.blob-item.is (λ other. rules.is_bundle_of owner other && same other.name name) _ _ (c.in_ok-is_new.ensures.added owner name) (c.bundles.invariant.names owner name);
}
