-- What the code's entries in channel order stand for.
use Rattle.std.specs.Prelude.{◌≡◌, ℕ, List, Option}
use Rattle.std.specs.Option.{option_and_then}
use Rattle.std.specs.Result.{result_ok}
use Rattle.version_ranges.specs.Reading.{reading}
use Rattle.version_ranges.specs.Terms.{Term}
use Rattle.fbc_types.specs.declared.catalog.Entry.{Entry}
use Rattle.upgrade_graph.specs.declared.placed.Placed.{Placed}

abbrev pub entry_of : Placed → Entry
entry_of placed = placed.entry.now

-- The range that a text writes.
abbrev pub range_of : List ℕ → Option (List (List Term))
range_of text = result_ok (reading text)

-- The range is that of the entry's `skipRange`, where it has one.
abbrev pub IsPlaced : Placed → Type 0
IsPlaced placed = placed.range ≡ option_and_then range_of placed.entry.now.skip_range
