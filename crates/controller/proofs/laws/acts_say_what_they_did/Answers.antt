use Rattle.std.proofs.Common.{refl}
use Rattle.run_rules.specs.Acting.{Acts}
use Rattle.controller.specs.Laws.{act_line}
use Rattle.controller.proofs.Going.{act_fails, act_goes, of_line}
use Rattle.controller.proofs.laws.acts_say_what_they_did.Goals as goal

pub returns-clause-line : goal.returns-clause-line
returns-clause-line c outside h new worker answer outcome is line =
    of_line (act_line answer) outcome (λ o. Acts outside h worker new o) (act_goes outside h worker new worker.view answer refl is) line

pub returns-clause-fault : goal.returns-clause-fault
returns-clause-fault c outside h mid new worker is again = act_fails outside h worker mid new worker.view refl is again
