use Rattle.csv_phases.proofs.Taking.{all_put, all_removed, all_states, of_write}
use Rattle.csv_phases.proofs.laws.writes_take_edges.Goals as goal

pub returns-clause-puts : goal.returns-clause-puts
returns-clause-puts c view w new up is h = all_put view w up (of_write view w is) new h

pub returns-clause-removals : goal.returns-clause-removals
returns-clause-removals c view w up is none key = all_removed view w up (of_write view w is) none key

pub returns-clause-subscriptions : goal.returns-clause-subscriptions
returns-clause-subscriptions c view w new up is h = all_states view w up (of_write view w is) new h
