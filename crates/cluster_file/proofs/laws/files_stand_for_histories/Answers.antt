use Rattle.cluster_file.proofs.Standing.{is_history}
use Rattle.cluster_file.proofs.laws.files_stand_for_histories.Goals as goal

pub returns : goal.returns
returns c = is_history
