use Rattle.lawful_history.proofs.Law.{stays_gone}
use Rattle.lawful_history.proofs.Moments.{one_number, plan_written}
use Rattle.lawful_history.proofs.laws.numbers_are_used_once.Goals as goal

pub returns-clause-one : goal.returns-clause-one
returns-clause-one c is_valid h a b key other plan same lawful kind kind' was was' namespace number = one_number is_valid h lawful a b key other plan same kind kind' was was' namespace number

pub returns-clause-gone : goal.returns-clause-gone
returns-clause-gone c is_valid h a key lawful kind some none = stays_gone is_valid h lawful a key kind some none

pub returns-clause-written : goal.returns-clause-written
returns-clause-written c is_valid h w plan lawful kind is = plan_written is_valid h w plan lawful kind is
