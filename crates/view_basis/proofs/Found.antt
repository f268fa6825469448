-- The first item of what is picked, and where it stands.
use Rattle.std.proofs.Common.{◌≡◌, ◌+◌, Bool, true, false, cond, ℕ, suc, List, [], ◌∷◌, Option, Some, None, slice_get, refl, sym, ap, ◌∙◌, add-zero, zero-add, arith}
use Rattle.std.specs.List.{cons_option, filter_map, find, position, position_from}
use Rattle.std.specs.Option.{option_and_then, option_map_or}
use Rattle.std.proofs.lemmas.Iterator.Adapters.{position_from-zero}

module _ {X Y : Type 0} (pick : X → Option Y) (test : Y → Bool) where
  abbrev passes : X → Bool
  passes x = option_map_or test (pick x) false

  abbrev given_at : List X → ℕ → Option Y
  given_at whole i = option_and_then pick (slice_get whole i)

  next_place : (n i : ℕ) → n + 1 + i ≡ n + suc i
  next_place n i = omega arith

  found_from : (whole : List X) (n : ℕ) (xs : List X) → ((i : ℕ) → slice_get whole (n + i) ≡ slice_get xs i)
      → option_and_then (given_at whole) (position_from passes n xs) ≡ find test (filter_map pick xs)
  found_from whole n [] at = refl
  found_from whole n (x ∷ xs) at =
      let rest = found_from whole (n + 1) xs (λ i. ap (slice_get whole) (next_place n i) ∙ at (suc i)) in
      let here : slice_get whole n ≡ Some x = ap (slice_get whole) (sym (add-zero n)) ∙ at 0 in
      let by_test : (y : Y) → pick x ≡ Some y → (b : Bool)
      → option_and_then (given_at whole) (cond b (Some n) (position_from passes (n + 1) xs)) ≡ cond b (Some y) (find test (filter_map pick xs)) =
      λ y is b. elim b as (λ b. option_and_then (given_at whole) (cond b (Some n) (position_from passes (n + 1) xs)) ≡ cond b (Some y) (find test (filter_map pick xs))) [
        | true ↦ ap (option_and_then pick) here ∙ is
        | false ↦ rest
      ] in
      let go : (o : Option Y) → pick x ≡ o
      → option_and_then (given_at whole) (cond (option_map_or test o false) (Some n) (position_from passes (n + 1) xs)) ≡ find test (cons_option o (filter_map pick xs)) =
      λ o. elim o as (λ o. pick x ≡ o → option_and_then (given_at whole) (cond (option_map_or test o false) (Some n) (position_from passes (n + 1) xs)) ≡ find test (cons_option o (filter_map pick xs))) [
        | None ↦ λ is. rest
        | Some y ↦ λ is. by_test y is (test y)
      ] in
      go (pick x) refl

  pub found_there : (xs : List X) → option_and_then (given_at xs) (position passes xs) ≡ find test (filter_map pick xs)
  found_there xs = ap (option_and_then (given_at xs)) (position_from-zero passes xs) ∙ found_from xs 0 xs (λ i. ap (slice_get xs) (zero-add i))
