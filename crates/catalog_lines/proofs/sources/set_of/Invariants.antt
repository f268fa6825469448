use Rattle.std.proofs.Common.{◌≡◌, ℕ, List, take}
use Rattle.fbc_types.specs.Texts.{is_among}
use Rattle.name_tables.specs.Sets.{has}
use Rattle.catalog_lines.proofs.sources.set_of.Given as goal

abbrev pub invariant-names : goal.invariant-names
invariant-names l = (name : List ℕ) → has l.set name ≡ is_among name (take l.name-index l.names)
