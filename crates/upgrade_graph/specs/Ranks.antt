-- What the code's ranked entries stand for.
use Rattle.std.specs.Prelude.{◌≡◌, ℕ, List, Some}
use Rattle.std.specs.List.{All}
use Rattle.std.specs.Option.{IsSome}
use Rattle.semver.specs.Identifiers.{parts_of}
use Rattle.fbc_types.specs.declared.catalog.Entry.{Entry}
use Rattle.fbc_types.specs.declared.catalog.Bundle.{Bundle}
use Rattle.upgrade_graph.specs.Order.{Rank, version_named}
use Rattle.upgrade_graph.specs.declared.ranking.Ranked.{Ranked}

-- Each entry has a version.
abbrev pub HasVersions : List Bundle → List ℕ → List Entry → Type 0
HasVersions bundles owner entries = All (λ entry. IsSome (version_named bundles owner entry.name)) entries

abbrev pub stands_for : Ranked → Entry
stands_for ranked = ranked.entry.now

abbrev pub rank_of : Ranked → Rank
rank_of ranked = record { version = parts_of ranked.version; name = ranked.entry.now.name }

-- The version is that of the entry's bundle.
abbrev pub IsRanked : List Bundle → List ℕ → Ranked → Type 0
IsRanked bundles owner ranked = version_named bundles owner ranked.entry.now.name ≡ Some (parts_of ranked.version)
