use Rattle.std.proofs.Common.{◌≡◌, ◌++◌, drop, not}
use Rattle.std.specs.List.{flat_map}
use Rattle.fbc_types.specs.Rules as rules
use Rattle.name_tables.specs.Sets.{has_owned}
use Rattle.fbc_check.proofs.entries.note_without_bundle.Given as goal

abbrev pub invariant-entries : goal.invariant-entries
invariant-entries l =
    l.faults.items ++ flat_map (λ entry. rules.where_broken (not (has_owned l.names l.blob.«package» entry.name)) (rules.of_entry 7 l.blob entry)) (drop l.entry-index l.blob.entries) ≡ l.initial.faults.items ++ flat_map (λ entry. rules.where_broken (not (has_owned l.names l.blob.«package» entry.name)) (rules.of_entry 7 l.blob entry)) l.blob.entries
