use Rattle.controller.proofs.Going.{look_fails, look_goes}
use Rattle.controller.proofs.laws.looks_say_what_they_saw.Goals as goal

pub returns-clause-line : goal.returns-clause-line
returns-clause-line c outside s number worker after new length there is = look_goes outside s number worker after new length there is

pub returns-clause-fault : goal.returns-clause-fault
returns-clause-fault c outside s number worker after mid new there is again = look_fails outside s number worker after mid new there is again
