use Rattle.std.proofs.Common.{◌≡◌, ◌≤◌, ℕ, [], length, take, get_or}
use Rattle.problem_build.proofs.building.problem_of_rows.Given as goal

abbrev pub invariant-loop-place : goal.invariant-loop-place
invariant-loop-place l = record {
  made : l.problem ≡ take l.place l.fn.rows.items;
  long : length l.rows.items ≡ length l.fn.rows.items;
  left : (k : ℕ) → l.place ≤ k → get_or l.rows.items k [] ≡ get_or l.fn.rows.items k [];
}
