use Rattle.std.proofs.Common.{◌≡◌, ℕ, List, take}
use Rattle.std.specs.List.{list_any}
use Rattle.fbc_types.specs.Rules as rules
use Rattle.name_tables.specs.Sets.{has}
use Rattle.fbc_check.proofs.tables.packages_with_channels.Given as goal

abbrev pub invariant-channels : goal.invariant-channels
invariant-channels l = (name : List ℕ) → has l.names name ≡ list_any (rules.is_channel_of name) (take l.blob-index l.channels)
