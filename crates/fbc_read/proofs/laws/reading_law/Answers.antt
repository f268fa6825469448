use Rattle.fbc_read.proofs.Along.{reads_on_stream}
use Rattle.fbc_read.proofs.laws.reading_law.Goals as goal

pub returns : goal.returns
returns c = reads_on_stream
