use Rattle.history_laws.proofs.Planning.{first_plan}
use Rattle.history_laws.proofs.laws.plans_begin_new.Goals as goal

pub returns : goal.returns
returns c is_valid h w key new lawful kind none is = first_plan is_valid h w key new lawful kind none is
