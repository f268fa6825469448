use Rattle.op_properties.proofs.Gathered.{kinds_once, kinds_given}
use Rattle.op_properties.proofs.laws.kinds_law.Goals as goal

pub returns : goal.returns
returns c = record { once = kinds_once; same = kinds_given }
