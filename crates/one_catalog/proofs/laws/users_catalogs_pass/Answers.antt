use Rattle.lawful_events.proofs.Running.{goes_on_lawful}
use Rattle.one_catalog.specs.Catalogs.{is_valid_catalog}
use Rattle.one_catalog.proofs.Reading.{passes}
use Rattle.one_catalog.proofs.laws.users_catalogs_pass.Goals as goal

pub returns-clause-accepts : goal.returns-clause-accepts
returns-clause-accepts c text valid = passes text valid

pub returns-clause-lawful : goal.returns-clause-lawful
returns-clause-lawful c h new goes lawful = goes_on_lawful is_valid_catalog passes h new goes lawful
