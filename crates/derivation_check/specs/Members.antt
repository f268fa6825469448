-- Lists of members read by marks: each listed one is marked, and struck where it is named.
use Rattle.std.specs.Prelude.{ℕ, Bool, true, false, cond, List, [], ◌∷◌, Option, Some, None, slice_index_or, slice_set}
use Rattle.derivation_check.specs.Scan.{says}

-- what is marked after each of the variables is
abbrev pub listed_in : List (Option Bool) → List ℕ → List (Option Bool)
listed_in known [] = known
listed_in known (v ∷ vs) = listed_in (slice_set known v (Some true)) vs

-- each of the variables is marked, and wasn't struck before
abbrev pub are_struck : List (Option Bool) → List ℕ → Bool
are_struck known [] = true
are_struck known (v ∷ vs) = cond (says (slice_index_or known v None) true) (are_struck (slice_set known v (Some false)) vs) false
