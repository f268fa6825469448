use Rattle.std.proofs.Common.{◌+◌, length}
use Rattle.op_constraints.specs.declared.TheConstants.{VAR_LIMIT}
use Rattle.preference_search.specs.State.{At}
use Rattle.preference_search.proofs.Measure.{measure}
use Rattle.preference_search.proofs.decisions.decide_plain.Given as goal

abbrev pub invariant-loop-search : goal.invariant-loop-search
invariant-loop-search l = At l.problem l.fn.budget l.search

abbrev pub decreases-loop-search : goal.decreases-loop-search
decreases-loop-search l = measure (VAR_LIMIT + 2) (length l.problem) l.search.numbers.items
