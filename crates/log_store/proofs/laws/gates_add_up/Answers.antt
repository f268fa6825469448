use Rattle.log_store.proofs.Places.{file_size, fits_where, gate_all, gate_sum}
use Rattle.log_store.proofs.laws.gates_add_up.Goals as goal

pub returns : goal.returns
returns c = record {
  place = gate_all;
  sum = gate_sum;
  file = file_size;
  fits = fits_where;
}
