use Rattle.object_store.proofs.Histories.{history_kept}
use Rattle.object_store.proofs.laws.puts_keep_histories.Goals as goal

pub returns : goal.returns
returns c room h w new answer is puts = history_kept room h w new answer is puts
