use Rattle.history_laws.proofs.Planning.{edge, step_edge}
use Rattle.history_laws.proofs.laws.steps_go_by_edges.Goals as goal

pub returns : goal.returns
returns c is_valid h w key plan new i s lawful kind last is at = step_edge plan new i s (edge is_valid h w key plan new lawful kind last is) at
