use Rattle.std.proofs.Common.{◌≡◌, ◌++◌, ℕ, List, [], drop, take}
use Rattle.std.specs.List.{list_any}
use Rattle.fbc_types.specs.Rules as rules
use Rattle.fbc_types.specs.Texts.{same}
use Rattle.name_tables.specs.Sets.{has}
use Rattle.fbc_check.proofs.entries.note_repeated.Given as goal

abbrev pub invariant-entries : goal.invariant-entries
invariant-entries l =
    record {
      noted : l.faults.items ++ rules.by_earlier (rules.repeated_entry l.blob) (take l.entry-index l.blob.entries) (drop l.entry-index l.blob.entries) ≡ l.initial.faults.items ++ rules.by_earlier (rules.repeated_entry l.blob) [] l.blob.entries;
      names : (name : List ℕ) → has l.earlier name ≡ list_any (λ other. same other.name name) (take l.entry-index l.blob.entries);
    }
