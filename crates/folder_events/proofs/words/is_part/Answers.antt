use Rattle.folder_events.proofs.Texts.{part_named}
use Rattle.folder_events.proofs.words.is_part.Goals as goal

pub returns-in-Some : goal.returns-in-Some
returns-in-Some c = part_named _ _ c.in-Some.is c.is_name.ensures
