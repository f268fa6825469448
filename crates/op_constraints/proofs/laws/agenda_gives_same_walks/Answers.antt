use Rattle.op_constraints.proofs.AgendaLaws.{same_walk, same_agenda}
use Rattle.op_constraints.proofs.laws.agenda_gives_same_walks.Goals as goal

pub returns : goal.returns
returns c = record { chosen = same_walk; agenda = same_agenda }
