-- Each variable that a walk picks is printed.
use Rattle.std.proofs.Common.{◌≡◌, ℕ, Bool, zero, suc, ◌+◌, ◌<◌, ◌≤◌, List, [], ◌∷◌, ◌++◌, length, map, refl, sym, ap, ◌∙◌, subst, arith, Option, Some, None, Ok}
use Rattle.std.specs.List.{AllByRecursion, filter_map}
use Rattle.std.proofs.lemmas.List.{append_assoc, length-append, length-map}
use Rattle.cluster_objects.specs.declared.resolutions.Basis.{Basis}
use Rattle.cluster_objects.specs.declared.resolutions.Tip.{Tip}
use Rattle.cluster_objects.specs.declared.statuses.SubSpec.{SubSpec}
use Rattle.op_constraints.specs.declared.Constraint.{Constraint}
use Rattle.op_constraints.specs.Walks.{picks}
use Rattle.view_basis.specs.Basis.{basis as basis_of}
use Rattle.view_basis.specs.Tips.{tip_offer}
use Rattle.view_basis.specs.Visible.{visible_catalogs}
use Rattle.view_basis.specs.declared.visible.Visible.{Visible}
use Rattle.problem_build.specs.Asking.{asked}
use Rattle.problem_build.specs.Building.{choices}
use Rattle.problem_build.specs.Entries.{Entry}
use Rattle.problem_build.specs.Laws.{IsEntryOrTip, PicksAreEntriesOrTips}
use Rattle.problem_build.specs.Variables.{Choices, first_entry, kinds, names, packages, problem, provided, taken}
use Rattle.problem_build.specs.declared.names.VarName.{VarName}
use Rattle.problem_build.specs.declared.names.VarName.TheVariants as variable
use Rattle.answer_lines.specs.declared.Pick.{Pick}
use Rattle.answer_lines.specs.declared.Pick.TheVariants.{Take, Keep}
use Rattle.one_subscription.specs.Asked.{asked_view}
use Rattle.catalog_choice.specs.Asking.{IsAskedBy, IsUnmet, name_of, unmet}
use Rattle.catalog_choice.specs.Laws.{PicksArePrinted, PicksOfViewsArePrinted}
use Rattle.catalog_choice.specs.Picked.{pick_at, pick_of, picked}
use Rattle.catalog_choice.specs.declared.asking.Question.{Question}

abbrev IsShown : VarName → Type 0
IsShown name = (pick : Pick) × (pick_of name ≡ Some pick)

abbrev IsPrinted : List VarName → ℕ → Type 0
IsPrinted names v = (pick : Pick) × (pick_at names v ≡ Some pick)

shown_first : (middle after : List VarName) (v : ℕ) → AllByRecursion IsShown middle → v < length middle → IsPrinted (middle ++ after) v
shown_first [] after v h low = absurd (omega arith)
shown_first (name ∷ names) after zero h low = h.0
shown_first (name ∷ names) after (suc v) h low = shown_first names after v h.1 (omega arith)

shown_between : (before middle after : List VarName) (v : ℕ) → AllByRecursion IsShown middle → length before ≤ v → v < length before + length middle
    → IsPrinted (before ++ (middle ++ after)) v
shown_between [] middle after v h high low = shown_first middle after v h (omega arith)
shown_between (name ∷ names) middle after zero h high low = absurd (omega arith)
shown_between (name ∷ names) middle after (suc v) h high low = shown_between names middle after v h (omega arith) (omega arith)

one_printed : (names : List VarName) (v : ℕ) (vs : List ℕ) (pick : Pick) → pick_at names v ≡ Some pick
    → filter_map (pick_at names) (v ∷ vs) ≡ pick ∷ filter_map (pick_at names) vs
one_printed names v vs pick is = rw is refl

all_printed : (names : List VarName) (vs : List ℕ) → AllByRecursion (IsPrinted names) vs → length (filter_map (pick_at names) vs) ≡ length vs
all_printed names [] h = refl
all_printed names (v ∷ vs) h =
    let (pick, is) = h.0 in
    ap length (one_printed names v vs pick is) ∙ ap (λ (n : ℕ). suc n) (all_printed names vs h.1)

shown_tips : (tips : List Tip) → AllByRecursion IsShown (map (λ tip. variable.Installed tip.name) tips)
shown_tips [] = tt
shown_tips (tip ∷ tips) = ((Keep tip.name, refl), shown_tips tips)

shown_entries : (all tips : List Tip) (entries : List Entry)
    → AllByRecursion IsShown (map (λ entry. variable.Entry (taken all entry)) entries ++ map (λ tip. variable.Installed tip.name) tips)
shown_entries all tips [] = shown_tips tips
shown_entries all tips (entry ∷ entries) = ((Take (taken all entry), refl), shown_entries all tips entries)

module _ (basis : Basis) (catalogs : List Visible) (reached : List Bool) where
  abbrev pub all : Choices
  all = choices basis catalogs reached

  abbrev pub before : List VarName
  before = map (λ (subscription : List ℕ × SubSpec). variable.Subscription subscription.0) basis.subscriptions

  abbrev pub entries : List VarName
  entries = map (λ (entry : Entry). variable.Entry (taken basis.tips entry)) all.entries

  abbrev pub tips : List VarName
  tips = map (λ (tip : Tip). variable.Installed tip.name) basis.tips

  abbrev pub after : List VarName
  after = map variable.OnePackage (packages (provided all)) ++ map variable.OneKind (kinds (provided all))

  named : before ++ ((entries ++ tips) ++ after) ≡ names basis.subscriptions basis.tips all
  named = ap (λ (l : List VarName). before ++ l) (append_assoc entries tips after)

  printed : (v : ℕ) → IsEntryOrTip all v → IsPrinted (names basis.subscriptions basis.tips all) v
  printed v (high, low) =
      let a : length before ≡ length basis.subscriptions = length-map basis.subscriptions (λ (subscription : List ℕ × SubSpec). variable.Subscription subscription.0) in
      let b : first_entry all ≡ length basis.subscriptions = length-map basis.subscriptions (λ (subscription : List ℕ × SubSpec). asked catalogs basis.tips subscription.1) in
      let c : length (entries ++ tips) ≡ length entries + length tips = length-append entries tips in
      let d : length entries ≡ length all.entries = length-map all.entries (λ (entry : Entry). variable.Entry (taken basis.tips entry)) in
      let e : length tips ≡ length basis.tips = length-map basis.tips (λ (tip : Tip). variable.Installed tip.name) in
      let f : length (provided all) ≡ length (map (λ (entry : Entry). entry.offer) all.entries) + length all.tips = length-append (map (λ (entry : Entry). entry.offer) all.entries) all.tips in
      let g : length (map (λ (entry : Entry). entry.offer) all.entries) ≡ length all.entries = length-map all.entries (λ (entry : Entry). entry.offer) in
      let h : length all.tips ≡ length basis.tips = length-map basis.tips tip_offer in
      let low' : length before ≤ v = omega (arith, a, b, high) in
      let high' : v < length before + length (entries ++ tips) = omega (arith, a, b, c, d, e, f, g, h, low) in
      subst (λ (l : List VarName). IsPrinted l v) named
      (shown_between before (entries ++ tips) after v (shown_entries basis.tips basis.tips all.entries) low' high')

  printed_all : (vs : List ℕ) → AllByRecursion (IsEntryOrTip all) vs → AllByRecursion (IsPrinted (names basis.subscriptions basis.tips all)) vs
  printed_all [] h = tt
  printed_all (v ∷ vs) h = (printed v h.0, printed_all vs h.1)

  pub of_choices : PicksAreEntriesOrTips → (numbers : List ℕ)
      → length (picked (names basis.subscriptions basis.tips all) (problem all) numbers) ≡ length (picks (problem all) numbers)
  of_choices law numbers =
      all_printed (names basis.subscriptions basis.tips all) (picks (problem all) numbers)
      (printed_all (picks (problem all) numbers) (law basis catalogs reached numbers))

nothing_picked : (numbers : List ℕ) → picks unmet numbers ≡ []
nothing_picked [] = refl
nothing_picked (number ∷ numbers) = refl

of_unmet : (question : Question) (numbers : List ℕ) → IsUnmet (Ok question)
    → length (picked question.names question.problem numbers) ≡ length (picks question.problem numbers)
of_unmet question numbers h =
    let none : picks question.problem numbers ≡ [] = ap (λ (p : List (List Constraint)). picks p numbers) h.0 ∙ nothing_picked numbers in
    ap (λ (vs : List ℕ). length (filter_map (pick_at question.names) vs)) none ∙ sym (ap length none)

pub picks_of_views_are_printed : PicksAreEntriesOrTips → PicksOfViewsArePrinted
picks_of_views_are_printed law view question numbers (built, (reached, are, answer), problem_same, names_same) =
    let basis = basis_of view in
    let catalogs = visible_catalogs view in
    let e = problem_same ∙ answer.0 in
    let f = names_same ∙ answer.1 in
    subst (λ (p : List (List Constraint)). length (picked question.names p numbers) ≡ length (picks p numbers)) (sym e)
    (subst (λ (n : List VarName). length (picked n (problem (choices basis catalogs reached)) numbers) ≡ length (picks (problem (choices basis catalogs reached)) numbers)) (sym f)
    (of_choices basis catalogs reached law numbers))

by : PicksAreEntriesOrTips → (body : List ℕ) (owner channel : Option (List ℕ)) (question : Question) (numbers : List ℕ)
    → IsAskedBy body owner channel (Ok question)
    → length (picked question.names question.problem numbers) ≡ length (picks question.problem numbers)
by law body (Some owner) (Some channel) question numbers h = picks_of_views_are_printed law (asked_view body owner channel) question numbers h
by law body (Some owner) None question numbers h = of_unmet question numbers h
by law body None channel question numbers h = of_unmet question numbers h

pub picks_are_printed : PicksAreEntriesOrTips → PicksArePrinted
picks_are_printed law body owner channel question numbers h = by law body (name_of owner) (name_of channel) question numbers h
