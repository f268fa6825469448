-- The first of what is picked of a list.
use Rattle.std.proofs.Common.{◌≡◌, ◌+◌, ◌<◌, ℕ, List, Option, Some, drop, get_or, length, slice_get, sym, ap, ◌∙◌}
use Rattle.std.specs.List.{cons_option, filter_map}
use Rattle.std.proofs.lemmas.List.{drop_more}

-- What is picked of the item at a place is the first, where nothing is picked before it.
pub first_here : {X Y : Type 0} (pick : X → Option Y) (xs : List X) (i : ℕ) (x : X) (y : Y) → i < length xs → x ≡ get_or xs i x
    → pick x ≡ Some y → slice_get (filter_map pick (drop i xs)) 0 ≡ slice_get (filter_map pick xs) 0
    → Some y ≡ slice_get (filter_map pick xs) 0
first_here pick xs i x y below is picked so_far =
    sym (ap (λ o. slice_get (cons_option o (filter_map pick (drop (i + 1) xs))) 0) (ap pick (sym is) ∙ picked))
    ∙ sym (ap (λ ys. slice_get (filter_map pick ys) 0) (drop_more xs i x below))
    ∙ so_far
