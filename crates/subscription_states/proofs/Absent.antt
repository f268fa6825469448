-- Where none is installed.
use Rattle.std.proofs.Common.{◌≡◌, ◌+◌, ℕ, Bool, true, false, cond, not, List, [], ◌∷◌, Option, Some, None, refl, sym, ap, ◌∙◌}
use Rattle.std.specs.List.{cons_option, filter_map, find, position, position_from}
use Rattle.std.specs.Option.{is_none, is_some, option_map_or}
use Rattle.std.proofs.lemmas.Iterator.Adapters.{position_from-zero}
use Rattle.cluster_history.specs.Views.{View}
use Rattle.view_basis.specs.Tips.{installed, installed_place, is_tip_of, tip_in}

module _ {X Y : Type 0} (pick : X → Option Y) (test : Y → Bool) where
  abbrev passes : X → Bool
  passes x = option_map_or test (pick x) false

  by_test : (b : Bool) (y : Y) (n : ℕ) (found : Option Y) (place : Option ℕ) → is_none found ≡ is_none place
      → is_none (cond b (Some y) found) ≡ is_none (cond b (Some n) place)
  by_test true y n found place h = refl
  by_test false y n found place h = h

  by_pick : (o : Option Y) (n : ℕ) (ys : List Y) (place : Option ℕ) → is_none (find test ys) ≡ is_none place
      → is_none (find test (cons_option o ys)) ≡ is_none (cond (option_map_or test o false) (Some n) place)
  by_pick None n ys place h = h
  by_pick (Some y) n ys place h = by_test (test y) y n (find test ys) place h

  none_from : (n : ℕ) (xs : List X) → is_none (find test (filter_map pick xs)) ≡ is_none (position_from passes n xs)
  none_from n [] = refl
  none_from n (x ∷ xs) = by_pick (pick x) n (filter_map pick xs) (position_from passes (n + 1) xs) (none_from (n + 1) xs)

  none_picked : (xs : List X) → is_none (find test (filter_map pick xs)) ≡ is_none (position passes xs)
  none_picked xs = none_from 0 xs ∙ ap is_none (sym (position_from-zero passes xs))

pub not_installed : (view : View) («package» : List ℕ) → is_none (installed_place view «package») ≡ is_none (installed view «package»)
not_installed view «package» = sym (none_picked (tip_in view) (is_tip_of «package») view.slots)

pub told : (o : Option ℕ) (answer : Bool) → is_some o ≡ not answer → answer ≡ is_none o
told None true h = refl
told None false h = h
told (Some place) true h = h
told (Some place) false h = refl
