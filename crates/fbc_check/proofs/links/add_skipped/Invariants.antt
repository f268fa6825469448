use Rattle.std.proofs.Common.{◌≡◌, ◌||◌, ℕ, List, take}
use Rattle.fbc_types.specs.Texts.{is_among}
use Rattle.name_tables.specs.Sets.{has}
use Rattle.fbc_check.proofs.links.add_skipped.Given as goal

abbrev pub invariant-skips : goal.invariant-skips
invariant-skips l = (name : List ℕ) → has l.names name ≡ (has l.initial.names name || is_among name (take l.skipped-index l.entry.skips))
