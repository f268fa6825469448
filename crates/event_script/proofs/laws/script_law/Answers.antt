use Rattle.event_script.proofs.Order.{is_decided, own_bytes}
use Rattle.event_script.proofs.laws.script_law.Goals as goal

pub returns-clause-decided : goal.returns-clause-decided
returns-clause-decided c = is_decided

pub returns-clause-bytes : goal.returns-clause-bytes
returns-clause-bytes c = own_bytes
