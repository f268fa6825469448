use Rattle.std.proofs.Common.{◌≡◌, ◌++◌, ◌&&◌, ℕ, List, [], drop, take}
use Rattle.std.specs.List.{list_any}
use Rattle.fbc_types.specs.Rules as rules
use Rattle.fbc_types.specs.Texts.{same}
use Rattle.name_tables.specs.Sets.{has_owned}
use Rattle.fbc_check.proofs.channels.repeated_channels.Given as goal

abbrev pub invariant-channels : goal.invariant-channels
invariant-channels l =
    record {
      noted : l.faults.items ++ rules.by_earlier rules.repeated_channel (take l.blob-index l.channels) (drop l.blob-index l.channels) ≡ l.initial.faults.items ++ rules.by_earlier rules.repeated_channel [] l.channels;
      names : (owner name : List ℕ) → has_owned l.earlier owner name ≡ list_any (λ other. rules.is_channel_of owner other && same other.name name) (take l.blob-index l.channels);
    }
