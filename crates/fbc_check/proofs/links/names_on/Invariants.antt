use Rattle.std.proofs.Common.{◌≡◌, map, ℕ, List, take}
use Rattle.fbc_types.specs.Channels as channels
use Rattle.name_tables.specs.Sets.{has}
use Rattle.fbc_check.proofs.links.names_on.Given as goal

abbrev pub invariant-entries : goal.invariant-entries
invariant-entries l = (name : List ℕ) → has l.names name ≡ channels.has_name name (map (λ entry. entry.now) (take l.entry-index l.chain))
