use Rattle.catalog_choice.proofs.Printing.{picks_of_views_are_printed}
use Rattle.catalog_choice.proofs.laws.picks_of_views_are_printed.Goals as goal

pub returns : goal.returns
returns c = picks_of_views_are_printed c.picks_are_entries_or_tips.ensures
