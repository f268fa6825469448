use Rattle.payloads.specs.Form.{◌⊗◌, short_form, name_form}
use Rattle.payloads.specs.Keys.{key_form, stamp_form, gvk_form}
use Rattle.payloads.specs.Statuses.{sub_spec_form, crd_form}
use Rattle.payloads.specs.Plans.{step_form}
use Rattle.payloads.specs.Resolutions.{tip_form, seen_form, taken_form}
use Rattle.payloads.specs.Groups.{claim_form}
use Rattle.payloads.specs.Slots.{slot_form}
use Rattle.payloads.proofs.Combinators.{pair_is_form}
use Rattle.payloads.proofs.Leaves.{short_is_form, name_is_form}
use Rattle.payloads.proofs.KeyForms.{key_is_form, stamp_is_form, gvk_is_form}
use Rattle.payloads.proofs.StatusForms.{sub_spec_is_form, crd_is_form}
use Rattle.payloads.proofs.PlanForms.{step_is_form}
use Rattle.payloads.proofs.ResolutionForms.{tip_is_form, seen_is_form, taken_is_form}
use Rattle.payloads.proofs.GroupForms.{claim_is_form}
use Rattle.payloads.proofs.ObjectForms.{slot_is_form}
use Rattle.payloads.proofs.ListExtents.{ends_by_bytes, short_has_bytes, name_has_bytes, stamp_has_bytes, gvk_has_bytes, crd_has_bytes, step_has_bytes, tip_has_bytes, seen_has_bytes, taken_has_bytes, claim_has_bytes, named_has_bytes, keyed_has_bytes}
use Rattle.payloads.proofs.laws.lists_end_by_the_bytes.Goals as goal

pub returns : goal.returns
returns c = record {
  owned_and_needed = ends_by_bytes crd_form crd_is_form crd_has_bytes;
  deployments_and_targets = ends_by_bytes name_form name_is_form name_has_bytes;
  steps = ends_by_bytes step_form step_is_form step_has_bytes;
  subscriptions = ends_by_bytes (name_form ⊗ sub_spec_form) (pair_is_form name_is_form sub_spec_is_form) (named_has_bytes sub_spec_form);
  tips = ends_by_bytes tip_form tip_is_form tip_has_bytes;
  kinds = ends_by_bytes gvk_form gvk_is_form gvk_has_bytes;
  catalogs = ends_by_bytes seen_form seen_is_form seen_has_bytes;
  walk = ends_by_bytes short_form short_is_form short_has_bytes;
  taken = ends_by_bytes taken_form taken_is_form taken_has_bytes;
  stamps = ends_by_bytes stamp_form stamp_is_form stamp_has_bytes;
  claims = ends_by_bytes claim_form claim_is_form claim_has_bytes;
  slots = ends_by_bytes (key_form ⊗ slot_form) (pair_is_form key_is_form slot_is_form) (keyed_has_bytes slot_form);
}
