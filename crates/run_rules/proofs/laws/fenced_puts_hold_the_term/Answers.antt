use Rattle.run_rules.proofs.Fencing.{held_term}
use Rattle.run_rules.proofs.laws.fenced_puts_hold_the_term.Goals as goal

pub returns : goal.returns
returns c outside h new worker held key version holds acts = held_term outside h new worker held key version holds acts
