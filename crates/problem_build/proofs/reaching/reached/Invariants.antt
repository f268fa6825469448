use Rattle.std.proofs.Common.{map, not}
use Rattle.std.specs.List.{count_by}
use Rattle.problem_build.specs.Shown.{shown_entry}
use Rattle.problem_build.proofs.Marking.{Keeps}
use Rattle.problem_build.proofs.reaching.reached.Given as goal

abbrev pub invariant-open : goal.invariant-open
invariant-open l = Keeps l.asks (map shown_entry l.entries) l.marks.items l.done.items

abbrev pub decreases-open : goal.decreases-open
decreases-open l = count_by not l.done.items
