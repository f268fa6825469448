use Rattle.std.proofs.Common.{◌≡◌, ◌<◌, ◌≤◌, ◌||◌, ℕ, get_or}
use Rattle.op_constraints.specs.Meets.{at}
use Rattle.problem_build.specs.Reaching as reaching
use Rattle.problem_build.specs.Shown.{shown_entry}
use Rattle.problem_build.specs.declared.entries.Listed.{Listed}
use Rattle.problem_build.proofs.reaching.mark_needed.Given as goal

abbrev pub invariant-loop-j : goal.invariant-loop-j
invariant-loop-j l = record {
  before : (k : ℕ) (other : Listed) → k < l.j → at l.marks.items k ≡ (at l.initial.marks.items k || reaching.needs (shown_entry l.entry) (shown_entry (get_or l.entries k other)));
  after : (k : ℕ) → l.j ≤ k → at l.marks.items k ≡ at l.initial.marks.items k;
}
