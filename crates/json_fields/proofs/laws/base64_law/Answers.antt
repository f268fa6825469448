use Rattle.json_fields.proofs.Encoded.{reads_iff}
use Rattle.json_fields.proofs.laws.base64_law.Goals as goal

pub returns : goal.returns
returns c = reads_iff
