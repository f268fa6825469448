use Rattle.cluster_history.proofs.State.{state_sorted}
use Rattle.cluster_history.proofs.Sums.{carried-slots}
use Rattle.cluster_history.proofs.laws.state_counts_stamps.Goals as goal

pub returns-clause-order : goal.returns-clause-order
returns-clause-order c h sorted = state_sorted h sorted

pub returns-clause-count : goal.returns-clause-count
returns-clause-count c h stamp sorted = carried-slots stamp h sorted
