use Rattle.cluster_history.specs.History.{Start, empty}
use Rattle.cluster_file.proofs.Walking.{after_all-push}
use Rattle.cluster_file.proofs.Gates.{empty_holds, held_within, held_behind, gate_opened, gate_closed, place-push}
use Rattle.cluster_file.proofs.laws.gates_decide.Goals as goal

pub returns : goal.returns
returns c = record {
  empty = empty_holds;
  within = held_within;
  behind = held_behind;
  opened = gate_opened;
  closed = gate_closed;
  history = after_all-push (Start empty);
  place = place-push;
}
