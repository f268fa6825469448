use Rattle.lawful_history.proofs.Ends.{state_base, state_sound}
use Rattle.lawful_history.proofs.laws.states_are_sound.Goals as goal

pub returns-clause-sound : goal.returns-clause-sound
returns-clause-sound c is_valid h lawful = state_sound is_valid h lawful

pub returns-clause-base : goal.returns-clause-base
returns-clause-base c is_valid h lawful bound = (state_base is_valid h lawful bound, state_sound is_valid h lawful)
