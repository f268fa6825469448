use Rattle.controller.proofs.Going.{act_free}
use Rattle.controller.proofs.laws.workers_without_a_lease_have_no_fence.Goals as goal

pub returns : goal.returns
returns c outside h new worker answer free is = act_free outside h worker new worker.view answer free is
