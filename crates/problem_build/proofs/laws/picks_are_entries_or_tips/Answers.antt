use Rattle.problem_build.proofs.Facts as facts
use Rattle.problem_build.proofs.laws.picks_are_entries_or_tips.Goals as goal

pub returns : goal.returns
returns c = facts.picks_are_entries_or_tips
