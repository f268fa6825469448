use Rattle.fbc_read.proofs.OneListing.{the_listing, the_body}
use Rattle.fbc_read.proofs.laws.folder_law.Goals as goal

pub returns-clause-listing : goal.returns-clause-listing
returns-clause-listing c = the_listing

pub returns-clause-body : goal.returns-clause-body
returns-clause-body c = the_body
