use Rattle.std.proofs.Common.{sym, subst}
use Rattle.serde_json.specs.View.{view}
use Rattle.olm_base.specs.Outcome.{Gives}
use Rattle.json_fields.specs.Faults.{is_free}
use Rattle.fbc_read.proofs.Nesting.{constraint_is}
use Rattle.fbc_read.proofs.constraints.constraint.Goals as goal

pub returns : goal.returns
returns c = subst (λ wanted. Gives is_free wanted c.read_test.result) (sym (constraint_is (view c.args.value.now))) c.read_test.ensures
