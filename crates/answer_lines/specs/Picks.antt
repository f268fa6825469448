-- The lines of what a decision picks.
use Rattle.std.specs.Prelude.{ℕ, List, ◌∷◌, ◌++◌, codes}
use Rattle.derivations.specs.Text.{joined, token}
use Rattle.cluster_objects.specs.declared.resolutions.Taken.{Taken}
use Rattle.answer_lines.specs.declared.Pick.{Pick}
use Rattle.answer_lines.specs.declared.Pick.TheVariants.{Take, Keep}

-- the catalog of an entry
abbrev pub catalog_text : Taken → List ℕ
catalog_text taken = token taken.catalog_namespace ++ 47 ∷ taken.catalog

-- what the entry is
abbrev pub entry_text : Taken → List ℕ
entry_text taken = token taken.«package» ++ token taken.channel ++ token taken.name ++ token taken.version

-- `take CATALOGNAMESPACE/CATALOG PACKAGE CHANNEL NAME VERSION` of a channel's entry, and `keep NAME` of an installed one
abbrev pub pick_line : Pick → List ℕ
pick_line (Take taken) = codes "take" ++ catalog_text taken ++ entry_text taken ++ codes "\n"
pick_line (Keep name) = codes "keep" ++ token name ++ codes "\n"

-- a line for each, in their order
abbrev pub pick_lines : List Pick → List ℕ
pick_lines picks = joined pick_line picks
