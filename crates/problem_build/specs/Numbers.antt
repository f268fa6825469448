-- Numbers of items in a list, and lists without repeats in an order.
use Rattle.std.specs.Prelude.{ℕ, ◌+◌, Bool, if◌then◌else◌, List, [], ◌∷◌}
use Rattle.std.specs.BTreeSet.{insert_key}
use Rattle.std.specs.List.{fold}
use Rattle.std.specs.declared.cmp.Ordering.{Ordering}

-- The numbers of the items that pass, in their order, where the first item has the number n.
abbrev pub numbers_where : {T : Type 0} → ℕ → (T → Bool) → List T → List ℕ
numbers_where n passes [] = []
numbers_where n passes (item ∷ items) =
    if passes item then n ∷ numbers_where (n + 1) passes items else numbers_where (n + 1) passes items

-- The items in their order, each once.
abbrev pub once_in_order : {T : Type 0} → (T → T → Ordering) → List T → List T
once_in_order compare items = fold (insert_key compare) [] items
