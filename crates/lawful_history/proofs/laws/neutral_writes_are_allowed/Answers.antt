use Rattle.lawful_history.proofs.Moments.{neutral_allowed}
use Rattle.lawful_history.proofs.laws.neutral_writes_are_allowed.Goals as goal

pub returns : goal.returns
returns c is_valid h w n = neutral_allowed is_valid h w n
