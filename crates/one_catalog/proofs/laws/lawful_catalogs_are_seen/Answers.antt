use Rattle.one_catalog.proofs.Seeing.{all_seen}
use Rattle.one_catalog.proofs.laws.lawful_catalogs_are_seen.Goals as goal

pub returns : goal.returns
returns c h namespace a lawful = all_seen h namespace a lawful
