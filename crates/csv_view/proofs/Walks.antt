-- Walks over definitions, and from a CSV to what it replaces.
use Rattle.std.proofs.Common.{◌≡◌, ◌<◌, ◌-◌, Bool, true, false, cond, ◌&&◌, ◌||◌, not, ℕ, zero, suc, List, [], ◌∷◌, Option, Some, refl, sym, subst, arith}
use Rattle.std.specs.List.{find, list_all}
use Rattle.std.specs.Option.{is_none, option_and_then, option_map_or}
use Rattle.cluster_objects.specs.Keys.{same_text}
use Rattle.cluster_history.specs.Views.{View}
use Rattle.csv_phases.specs.Csvs.{csv_named, leads_to}

one_more : {X : Type 0} (b rest : Bool) (x : X) (found : Option X) → rest ≡ is_none found
    → (b && rest) ≡ is_none (cond (not b) (Some x) found)
one_more true rest x found h = h
one_more false rest x found h = refl

-- All pass the test where none is found that doesn't.
pub all_pass : {X : Type 0} (test : X → Bool) (xs : List X) → list_all test xs ≡ is_none (find (λ x. not (test x)) xs)
all_pass test [] = refl
all_pass test (x ∷ xs) = one_more (test x) (list_all test xs) x (find (λ y. not (test y)) xs) (all_pass test xs)

-- With a step left, what is replaced is the name that is sought, or leads there.
pub leads_on : (steps : ℕ) (view : View) (from name : List ℕ) → 0 < steps
    → leads_to steps view from name
    ≡ option_map_or (λ next. same_text name next || leads_to (steps - 1) view next name)
    (option_and_then (λ csv. csv.replaces) (csv_named view from)) false
leads_on zero view from name some = absurd (omega arith)
leads_on (suc steps) view from name some =
    let one_less : suc steps - 1 ≡ steps = omega arith in
    subst
    (λ left. leads_to (suc steps) view from name
    ≡ option_map_or (λ next. same_text name next || leads_to left view next name)
    (option_and_then (λ csv. csv.replaces) (csv_named view from)) false)
    (sym one_less) refl
