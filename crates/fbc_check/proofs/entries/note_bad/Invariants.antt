use Rattle.std.proofs.Common.{◌≡◌, ◌++◌, drop}
use Rattle.std.specs.List.{flat_map}
use Rattle.fbc_types.specs.Rules as rules
use Rattle.fbc_check.proofs.entries.note_bad.Given as goal

abbrev pub invariant-entries : goal.invariant-entries
invariant-entries l =
    l.faults.items ++ flat_map (rules.bad_entry l.blob) (drop l.entry-index l.blob.entries) ≡ l.initial.faults.items ++ flat_map (rules.bad_entry l.blob) l.blob.entries
