use Rattle.std.proofs.Common.{◌≡◌, ◌++◌, map, drop}
use Rattle.problem_build.specs.Variables as spec
use Rattle.std.specs.Borrow.{Bor}
use Rattle.problem_build.specs.Shown.{shown_entry}
use Rattle.problem_build.specs.declared.entries.Listed.{Listed}
use Rattle.problem_build.specs.Entries.{Entry}
use Rattle.problem_build.specs.declared.names.VarName.TheVariants as variable
use Rattle.problem_build.proofs.names.add_entries.Given as goal

abbrev pub invariant-loop-entry : goal.invariant-loop-entry
invariant-loop-entry l =
    l.names.items ++ map (λ (e : Entry). variable.Entry (spec.taken l.tips e)) (map (λ (e : Bor Listed). shown_entry e.now) (drop l.entry-index l.entries)) ≡ l.initial.names.items ++ map (λ (e : Entry). variable.Entry (spec.taken l.tips e)) (map (λ (e : Bor Listed). shown_entry e.now) l.entries)
