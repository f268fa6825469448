use Rattle.history_laws.proofs.Planning.{edge, phase_edge}
use Rattle.history_laws.proofs.laws.phases_go_by_edges.Goals as goal

pub returns : goal.returns
returns c is_valid h w key plan new lawful kind last is = phase_edge plan new (edge is_valid h w key plan new lawful kind last is)
