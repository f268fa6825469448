use Rattle.std.proofs.Common.{◌≡◌, ◌++◌, [], drop}
use Rattle.std.specs.List.{flat_map}
use Rattle.fbc_types.specs.Rules as rules
use Rattle.fbc_check.proofs.entries.repeated_entries.Given as goal

abbrev pub invariant-channels : goal.invariant-channels
invariant-channels l =
    l.faults.items ++ flat_map (λ channel. rules.by_earlier (rules.repeated_entry channel) [] channel.entries) (drop l.blob-index l.channels) ≡ l.initial.faults.items ++ flat_map (λ channel. rules.by_earlier (rules.repeated_entry channel) [] channel.entries) l.channels
