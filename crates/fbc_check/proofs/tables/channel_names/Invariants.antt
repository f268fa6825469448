use Rattle.std.proofs.Common.{◌≡◌, ◌&&◌, ℕ, List, take}
use Rattle.std.specs.List.{list_any}
use Rattle.fbc_types.specs.Rules as rules
use Rattle.fbc_types.specs.Texts.{same}
use Rattle.name_tables.specs.Sets.{has_owned}
use Rattle.fbc_check.proofs.tables.channel_names.Given as goal

abbrev pub invariant-channels : goal.invariant-channels
invariant-channels l = (owner name : List ℕ) → has_owned l.names owner name ≡ list_any (λ channel. rules.is_channel_of owner channel && same channel.name name) (take l.blob-index l.channels)
