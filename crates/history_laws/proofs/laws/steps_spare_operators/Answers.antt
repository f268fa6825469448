use Rattle.history_laws.proofs.Putting.{spares_csv, spares_subscription, csv_phase, subscription_state, keeps_phase, keeps_state}
use Rattle.history_laws.proofs.laws.steps_spare_operators.Goals as goal

pub returns-clause-csv : goal.returns-clause-csv
returns-clause-csv c is_valid h w object stamp lawful is stamped = spares_csv is_valid h w object stamp lawful is stamped

pub returns-clause-subscription : goal.returns-clause-subscription
returns-clause-subscription c is_valid h w object stamp lawful is stamped = spares_subscription is_valid h w object stamp lawful is stamped

pub returns-clause-phase : goal.returns-clause-phase
returns-clause-phase c is_valid h w object stamp x lawful is stamped at = csv_phase is_valid h w object stamp lawful is stamped x at

pub returns-clause-state : goal.returns-clause-state
returns-clause-state c is_valid h w object stamp x lawful is stamped at = subscription_state is_valid h w object stamp lawful is stamped x at

pub returns-clause-phases : goal.returns-clause-phases
returns-clause-phases c is_valid h w object stamp key lawful is stamped = keeps_phase is_valid h w object stamp lawful is stamped key

pub returns-clause-states : goal.returns-clause-states
returns-clause-states c is_valid h w object stamp key lawful is stamped = keeps_state is_valid h w object stamp lawful is stamped key
