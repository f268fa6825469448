-- The first items of a list, and one more.
use Rattle.std.proofs.Common.{◌≡◌, ◌<◌, ◌+◌, ℕ, List, [], ◌∷◌, ◌++◌, take, get_or, length, sym, ap, ◌∙◌}
use Rattle.std.proofs.lemmas.List.{take_more}

pub take_one_more : {T : Type 0} (items : List T) (i : ℕ) (item : T) → i < length items → item ≡ get_or items i item → take (i + 1) items ≡ take i items ++ item ∷ []
take_one_more items i item below is = take_more items i item below ∙ ap (λ one. take i items ++ one ∷ []) (sym is)
