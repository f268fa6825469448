use Rattle.std.proofs.Common.{◌≡◌, ◌<◌, ℕ, true}
use Rattle.op_constraints.specs.Meets.{at}
use Rattle.problem_build.proofs.reaching.next_open.Given as goal

abbrev pub invariant-loop-place : goal.invariant-loop-place
invariant-loop-place l = (k : ℕ) → k < l.place → at l.marks k ≡ true → at l.done k ≡ true
