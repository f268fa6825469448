use Rattle.op_constraints.proofs.Prefixes.{found_by_numbers}
use Rattle.op_constraints.proofs.laws.walks_are_found.Goals as goal

pub returns : goal.returns
returns c = found_by_numbers
