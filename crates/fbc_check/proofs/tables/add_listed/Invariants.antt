use Rattle.std.proofs.Common.{◌≡◌, ◌&&◌, ◌||◌, ℕ, List, take}
use Rattle.fbc_types.specs.Channels as channels
use Rattle.fbc_types.specs.Rules as rules
use Rattle.name_tables.specs.Sets.{has_owned}
use Rattle.fbc_check.proofs.tables.add_listed.Given as goal

abbrev pub invariant-entries : goal.invariant-entries
invariant-entries l = (owner name : List ℕ) → has_owned l.names owner name ≡ (has_owned l.initial.names owner name || (rules.is_channel_of owner l.channel && channels.has_name name (take l.entry-index l.channel.entries)))
