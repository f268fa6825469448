use Rattle.op_properties.proofs.Readable.{each_bundle}
use Rattle.op_properties.proofs.laws.read_law.Goals as goal

pub returns : goal.returns
returns c = each_bundle c.bundles_are_read.ensures
