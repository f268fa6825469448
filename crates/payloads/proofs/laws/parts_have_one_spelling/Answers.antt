use Rattle.payloads.proofs.Leaves.{number_is_form, short_is_form, signed_is_form, truth_is_form, bytes_is_form, text_is_form, name_is_form}
use Rattle.payloads.proofs.KeyForms.{key_is_form}
use Rattle.payloads.proofs.ObjectForms.{status_is_form, object_is_form, slot_is_form, write_is_form, base_is_form}
use Rattle.payloads.proofs.laws.parts_have_one_spelling.Goals as goal

pub returns : goal.returns
returns c = record {
  numbers = number_is_form;
  short_numbers = short_is_form;
  signed_numbers = signed_is_form;
  truths = truth_is_form;
  bytes = bytes_is_form;
  texts = text_is_form;
  names = name_is_form;
  keys = key_is_form;
  statuses = status_is_form;
  objects = object_is_form;
  slots = slot_is_form;
  writes = write_is_form;
  bases = base_is_form;
}
