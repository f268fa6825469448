-- What tables and sets of names hold.
use Rattle.std.specs.Prelude.{ℕ, Bool, List, Option}
use Rattle.std.specs.Borrow.{Bor}
use Rattle.std.specs.BTreeMap.{is_at}
use Rattle.std.specs.Cmp.Lexicographic.{slice_cmp}
use Rattle.std.specs.List.{list_any}
use Rattle.std.specs.Map.{lookup}
use Rattle.std.specs.Option.{option_copied}
use Rattle.std.specs.Ordering.{nat_cmp}

-- What a table has under a name.
abbrev pub under : {T : Type 0} → List (List ℕ × Bor T) → List ℕ → Option T
under table name = option_copied (lookup (is_at (slice_cmp nat_cmp name)) table)

-- Whether a set has a name.
abbrev pub is_in : List (List ℕ) → List ℕ → Bool
is_in set name = list_any (is_at (slice_cmp nat_cmp name)) set
