use Rattle.std.proofs.Common.{◌++◌, ap, ◌∙◌}
use Rattle.fbc_types.specs.Rules as rules
use Rattle.fbc_types.specs.Texts.{same}
use Rattle.fbc_check.proofs.Steps.{any_more, earlier_more, noted_by}
use Rattle.fbc_check.proofs.packages.repeated_packages.Goals as goal

pub packages-preserved : goal.packages-preserved
packages-preserved c = record {
  noted = earlier_more c.args.packages.now c.packages.blob-index c.blob-item.result c.packages-test.true c.blob-item.is rules.repeated_package _ _ _
      (c.in_ok-note_package.ensures ∙ ap (λ b. c.packages.faults.items ++ rules.where_broken b (rules.of_package 1 c.blob-item.result)) (noted_by _ _ _ c.in_ok-is_new.ensures.is_new (c.packages.invariant.names c.blob-item.result.name)))
      c.packages.invariant.noted;
  names = λ name. any_more c.args.packages.now c.packages.blob-index c.blob-item.result c.packages-test.true c.blob-item.is (λ other. same other.name name) _ _ (c.in_ok-is_new.ensures.added name) (c.packages.invariant.names name);
}
