use Rattle.std.proofs.Common.{◌≡◌, ℕ, List, take}
use Rattle.std.specs.List.{list_any}
use Rattle.fbc_types.specs.Channels as channels
use Rattle.name_tables.specs.Sets.{has}
use Rattle.fbc_check.proofs.links.taken_names.Given as goal

abbrev pub invariant-entries : goal.invariant-entries
invariant-entries l = (name : List ℕ) → has l.names name ≡ list_any (channels.takes_over name) (take l.entry-index l.entries)
