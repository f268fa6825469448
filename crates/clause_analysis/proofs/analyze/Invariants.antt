use Rattle.std.proofs.Common.{◌≡◌, List, length, take, drop, reverse}
use Rattle.op_constraints.specs.declared.Lit.{Lit}
use Rattle.op_constraints.specs.declared.Constraint.{Constraint}
use Rattle.clause_trail.specs.declared.Scan.TheVariants.{Conflict}
use Rattle.clause_trail.specs.Trails.{literals}
use Rattle.clause_trail.specs.Scans.{Scans}
use Rattle.clause_analysis.specs.Caused.{IsCaused}
use Rattle.clause_analysis.specs.Needs.{needed_of}
use Rattle.clause_analysis.proofs.Resolving.{IsRefuting}
use Rattle.clause_analysis.proofs.analyze.Given as goal

abbrev pub invariant-loop-depth : goal.invariant-loop-depth
invariant-loop-depth l = record {
  size : length l.needs.needed.items ≡ l.trail.size;
  refuting : (problem : List (List Constraint)) (earlier : List (List Lit))
      → IsCaused problem earlier l.trail
      → Scans problem earlier (literals l.trail.entries) (Conflict l.conflict)
      → IsRefuting problem earlier (literals (needed_of l.needs.needed.items (drop l.depth l.trail.entries))) (literals (take l.depth l.trail.entries)) (reverse l.needs.hints.items);
}
