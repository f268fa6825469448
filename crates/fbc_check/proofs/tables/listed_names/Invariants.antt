use Rattle.std.proofs.Common.{◌≡◌, ◌&&◌, ℕ, List, take}
use Rattle.std.specs.List.{list_any}
use Rattle.fbc_types.specs.Channels as channels
use Rattle.fbc_types.specs.Rules as rules
use Rattle.name_tables.specs.Sets.{has_owned}
use Rattle.fbc_check.proofs.tables.listed_names.Given as goal

abbrev pub invariant-channels : goal.invariant-channels
invariant-channels l = (owner name : List ℕ) → has_owned l.names owner name ≡ list_any (λ channel. rules.is_channel_of owner channel && channels.has_name name channel.entries) (take l.blob-index l.channels)
