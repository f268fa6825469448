use Rattle.run_rules.specs.Settling.{Settles}
use Rattle.controller.specs.Laws.{settle_line}
use Rattle.controller.proofs.Going.{of_line, settle_fails, settle_goes}
use Rattle.controller.proofs.laws.settles_say_what_they_made.Goals as goal

pub returns-clause-line : goal.returns-clause-line
returns-clause-line c outside namespace turns h new answer outcome is line =
    of_line (settle_line answer) outcome (λ o. Settles outside namespace turns h new o) (settle_goes outside namespace turns h new answer is) line

pub returns-clause-fault : goal.returns-clause-fault
returns-clause-fault c outside namespace turns h mid new writes is again = settle_fails outside namespace turns h mid new writes is again

pub returns-clause-quiet : goal.returns-clause-quiet
returns-clause-quiet c outside namespace turns h new writes is = is.2
