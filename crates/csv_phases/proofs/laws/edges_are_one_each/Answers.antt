use Rattle.csv_phases.proofs.Apart.{one_each}
use Rattle.csv_phases.proofs.laws.edges_are_one_each.Goals as goal

pub returns : goal.returns
returns c view i j v w up at here same = one_each view i j v w up at here same
