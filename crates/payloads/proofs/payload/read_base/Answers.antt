use Rattle.std.proofs.Common.{arith}
use Rattle.payloads.specs.Slots.{base_form}
use Rattle.payloads.proofs.ObjectForms.{base_is_form}
use Rattle.payloads.proofs.Whole.{found_whole, none_whole}
use Rattle.payloads.proofs.payload.read_base.Goals as goal

pub returns-clause-found : goal.returns-clause-found
returns-clause-found c = found_whole base_form base_is_form c.args.payload.now (λ i. omega (arith, c.type_inv.payload i)) c.spelled_by.result c.spelled_by.ensures

pub returns-clause-none : goal.returns-clause-none
returns-clause-none c = none_whole base_form base_is_form c.args.payload.now c.spelled_by.result c.spelled_by.ensures
