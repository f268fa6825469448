use Rattle.payloads.specs.Objects.{write_form}
use Rattle.payloads.specs.Slots.{base_form}
use Rattle.payloads.proofs.ObjectForms.{write_is_form, base_is_form}
use Rattle.payloads.proofs.Whole.{whole_again, whole_only, whole_alone}
use Rattle.payloads.proofs.laws.payloads_have_one_spelling.Goals as goal

pub returns : goal.returns
returns c = record {
  write_again = whole_again write_form write_is_form;
  write_only = whole_only write_form write_is_form;
  write_alone = whole_alone write_form write_is_form;
  base_again = whole_again base_form base_is_form;
  base_only = whole_only base_form base_is_form;
  base_alone = whole_alone base_form base_is_form;
}
