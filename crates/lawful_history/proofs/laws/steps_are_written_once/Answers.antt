use Rattle.lawful_history.proofs.Law.{once, unstarted, unapproved}
use Rattle.lawful_history.proofs.Moments.{created_ever, overtaken_ever}
use Rattle.lawful_history.proofs.laws.steps_are_written_once.Goals as goal

pub returns-clause-most : goal.returns-clause-most
returns-clause-most c is_valid h stamp lawful = once is_valid h stamp lawful

pub returns-clause-created : goal.returns-clause-created
returns-clause-created c is_valid h a key plan i step lawful kind was at is = created_ever is_valid h lawful a key plan i step kind was at is

pub returns-clause-overtaken : goal.returns-clause-overtaken
returns-clause-overtaken c is_valid h a key plan i step lawful kind was at is = overtaken_ever is_valid h lawful a key plan i step kind was at is

pub returns-clause-never : goal.returns-clause-never
returns-clause-never c is_valid h stamp lawful never = unstarted is_valid h lawful stamp never

pub returns-clause-unapproved : goal.returns-clause-unapproved
returns-clause-unapproved c is_valid h key plan i lawful kind is manual bare = unapproved is_valid h lawful key plan i kind is manual bare
