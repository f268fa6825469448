use Rattle.std.proofs.Common.{◌≡◌, ◌++◌, ◌+◌, map, drop}
use Rattle.problem_build.specs.Numbers.{numbers_where}
use Rattle.problem_build.specs.Shown.{shown_entry}
use Rattle.problem_build.specs.Variables as spec
use Rattle.std.specs.Borrow.{Bor}
use Rattle.problem_build.specs.declared.entries.Listed.{Listed}
use Rattle.problem_build.proofs.candidates.add_elsewhere.Given as goal

abbrev pub invariant-loop-i : goal.invariant-loop-i
invariant-loop-i l =
    l.found.items ++ numbers_where (l.first + l.i) (spec.passes_elsewhere (shown_entry l.entry) l.requirement) (map (λ (e : Bor Listed). shown_entry e.now) (drop l.i l.pool.entries.now)) ≡ l.initial.found.items ++ numbers_where l.first (spec.passes_elsewhere (shown_entry l.entry) l.requirement) (map (λ (e : Bor Listed). shown_entry e.now) l.pool.entries.now)
