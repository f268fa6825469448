use Rattle.catalog_choice.proofs.Once.{views_ask_once}
use Rattle.catalog_choice.proofs.laws.views_ask_once.Goals as goal

pub returns : goal.returns
returns c = views_ask_once c.problem_is_one.ensures
