use Rattle.std.proofs.Common.{◌≡◌, ◌+◌, ◌≤◌, length, filter, not, drop}
use Rattle.name_tables.specs.Sets.{has}
use Rattle.fbc_check.proofs.chains.count_free.Given as goal

abbrev pub invariant-entries : goal.invariant-entries
invariant-entries l =
    record {
      rest : l.count + length (filter (λ entry. not (has l.taken entry.name)) (drop l.entry-index l.entries)) ≡ length (filter (λ entry. not (has l.taken entry.name)) l.entries);
      bound : l.count ≤ l.entry-index;
    }
