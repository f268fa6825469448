-- What sets of names have.
use Rattle.std.specs.Prelude.{ℕ, ◌&&◌, Bool, List, nat_eq}
use Rattle.std.specs.Cmp.Lexicographic.{pointwise}
use Rattle.std.specs.List.{list_any}
use Rattle.name_tables.specs.declared.names.NameSet.{NameSet}
use Rattle.name_tables.specs.declared.owned.OwnedNames.{OwnedNames}

-- Two names are the same.
abbrev pub same : List ℕ → List ℕ → Bool
same name other = pointwise nat_eq name other

-- The set has the name.
unfoldable pub has : NameSet → List ℕ → Bool
has set name = list_any (λ kept. same name kept.now) set.names.keys

-- The set has the name of this owner.
unfoldable pub has_owned : OwnedNames → List ℕ → List ℕ → Bool
has_owned set owner name = list_any (λ kept. same owner kept.owner.now && same name kept.name.now) set.names.keys
