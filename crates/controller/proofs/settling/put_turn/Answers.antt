use Rattle.std.proofs.Common.{sym, ◌∙◌}
use Rattle.controller.proofs.settling.put_turn.Goals as goal

pub returns-in-Conflict-clause-answer : goal.returns-in-Conflict-clause-answer
returns-in-Conflict-clause-answer g c =
    let put = c.in-Conflict.ensures.puts in (λ e. put.1 (e ∙ sym put.0), put.2)
