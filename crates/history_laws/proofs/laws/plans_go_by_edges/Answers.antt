use Rattle.history_laws.proofs.Planning.{next_plan}
use Rattle.history_laws.proofs.laws.plans_go_by_edges.Goals as goal

pub returns : goal.returns
returns c is_valid h w key plan lawful kind last = next_plan is_valid h w key plan lawful kind last
