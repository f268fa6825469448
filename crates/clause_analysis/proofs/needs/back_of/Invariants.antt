use Rattle.std.proofs.Common.{◌≡◌, ℕ, ◌+◌, ◌≤◌, drop}
use Rattle.clause_analysis.specs.Needs.{needed_of, begins, IsDecision}
use Rattle.clause_analysis.proofs.needs.back_of.Given as goal

abbrev pub invariant-loop-depth : goal.invariant-loop-depth
invariant-loop-depth l = record {
  last : (last : ℕ) × (l.back ≡ last + 1) × IsDecision l.trail.entries last;
  above : l.start + 1 ≤ l.back;
  below : l.back ≤ l.depth;
  before : needed_of l.needs.needed.items (drop (l.start + 1) l.trail.entries) ≡ needed_of l.needs.needed.items (drop l.back l.trail.entries);
  now : needed_of l.needs.needed.items (drop l.back l.trail.entries) ≡ needed_of l.needs.needed.items (drop l.depth l.trail.entries);
  level : begins l.needs.needed.items (drop l.back l.trail.entries) ≡ begins l.needs.needed.items (drop l.depth l.trail.entries);
}
