-- A problem takes the constraints of these variables as they are.
use Rattle.std.proofs.Common.{◌≡◌, ◌+◌, ◌<◌, ◌≤◌, ℕ, Bool, true, false, not, ◌&&◌, if◌then◌else◌, List, [], ◌∷◌, ◌++◌, length, map, refl, ap, ◌∙◌, arith, Option, Some, None}
use Rattle.std.specs.List.{AllByRecursion, flat_map, range_with_len}
use Rattle.std.specs.Option.{IfSome, option_map, option_to_list}
use Rattle.std.proofs.lemmas.List.{length-append, length-map}
use Rattle.std.proofs.lemmas.List.Elements.{recursion_from_All}
use Rattle.op_constraints.specs.Kept.{HasFewMembers, kept}
use Rattle.op_constraints.specs.declared.Constraint.{Constraint}
use Rattle.op_constraints.specs.declared.Constraint.TheVariants.{Mandatory, Conflict, AtMost}
use Rattle.op_constraints.specs.declared.TheConstants.{VAR_LIMIT}
use Rattle.op_properties.specs.Offers.{Provided}
use Rattle.op_properties.specs.Passing.{passes}
use Rattle.op_properties.specs.declared.requirement.Requirement.{Requirement}
use Rattle.problem_build.specs.Asking.{is_candidate, is_upgrade}
use Rattle.problem_build.specs.Entries.{Entry}
use Rattle.problem_build.specs.Variables.{Choices, Fits, candidates, conflicts_with, entries_where, first_entry, first_tip, installed_one, is_beside, is_installed_one, kinds, need, of_entry, of_kind, of_package, of_subscription, of_tip, one_of, packages, passes_beside, passes_elsewhere, passing, problem, provided, providers_where, tips_where}
use Rattle.problem_build.specs.declared.asking.Asked.{Asked}
use Rattle.problem_build.proofs.Counting.{few_of_two, few_where, once_where}

pub all_append : {T : Type 0} (P : T → Type 0) (xs ys : List T) → AllByRecursion P xs → AllByRecursion P ys → AllByRecursion P (xs ++ ys)
all_append P [] ys a b = b
all_append P (x ∷ xs) ys a b = (a.0, all_append P xs ys a.1 b)

pub all_map : {A T : Type 0} (P : T → Type 0) (f : A → T) (xs : List A) → ((x : A) → P (f x)) → AllByRecursion P (map f xs)
all_map P f [] h = tt
all_map P f (x ∷ xs) h = (h x, all_map P f xs h)

pub all_map_of : {A T : Type 0} (P : T → Type 0) (Q : A → Type 0) (f : A → T) (xs : List A) → AllByRecursion Q xs → ((x : A) → Q x → P (f x)) → AllByRecursion P (map f xs)
all_map_of P Q f [] all h = tt
all_map_of P Q f (x ∷ xs) all h = (h x all.0, all_map_of P Q f xs all.1 h)

pub all_flat_map : {A T : Type 0} (P : T → Type 0) (Q : A → Type 0) (f : A → List T) (xs : List A) → AllByRecursion Q xs → ((x : A) → Q x → AllByRecursion P (f x)) → AllByRecursion P (flat_map f xs)
all_flat_map P Q f [] all h = tt
all_flat_map P Q f (x ∷ xs) all h = all_append P (f x) (flat_map f xs) (h x all.0) (all_flat_map P Q f xs all.1 h)

pub any : {A : Type 0} (xs : List A) → AllByRecursion (λ x. Unit {0}) xs
any [] = tt
any (x ∷ xs) = (tt, any xs)

-- What is so of each row is so of each row of the problem.
module _ (P : List Constraint → Type 0) (choices : Choices) where
  pub each_row : AllByRecursion P (map (of_subscription choices) choices.asks)
      → ((entry : Entry) → P (of_entry choices entry))
      → ((place : ℕ) → P (of_tip choices.asks place))
      → ((provides : Provided → Bool) → P (one_of choices provides))
      → AllByRecursion P (problem choices)
  each_row asks entries tips shared =
      all_append P (map (of_subscription choices) choices.asks) _ asks
      (all_append P (map (of_entry choices) choices.entries) _ (all_map P (of_entry choices) choices.entries entries)
      (all_append P (map (of_tip choices.asks) (range_with_len 0 (length choices.tips))) _ (all_map P (of_tip choices.asks) (range_with_len 0 (length choices.tips)) tips)
      (all_append P (map (of_package choices) (packages (provided choices))) _ (all_map P (of_package choices) (packages (provided choices)) (λ name. shared _))
      (all_map P (of_kind choices) (kinds (provided choices)) (λ kind. shared _)))))

Same : Constraint → Type 0
Same c = kept c ≡ c

same_row : (row : List Constraint) → AllByRecursion Same row → map kept row ≡ row
unfolding Same
same_row [] all = refl
same_row (c ∷ row) all = ap (λ d. d ∷ map kept row) all.0 ∙ ap (λ l. c ∷ l) (same_row row all.1)

same_conflicts : (choices : Choices) (entry : Entry) (asked : Asked) → AllByRecursion Same (conflicts_with choices entry asked)
unfolding Same
same_conflicts choices entry asked =
    let go : (b : Bool) → AllByRecursion Same (if b then map Conflict (installed_one choices asked) else []) =
    λ b. elim b as (λ b. AllByRecursion Same (if b then map Conflict (installed_one choices asked) else [])) [
      | true ↦ all_map Same Conflict (installed_one choices asked) (λ v. refl)
      | false ↦ tt
    ] in
    go (is_upgrade asked entry)

same_tip : (asks : List Asked) (place : ℕ) → map kept (of_tip asks place) ≡ of_tip asks place
same_tip asks place =
    let go : (b : Bool) → map kept (if b then [] else Mandatory ∷ []) ≡ (if b then [] else Mandatory ∷ []) =
    λ b. elim b as (λ b. map kept (if b then [] else Mandatory ∷ []) ≡ (if b then [] else Mandatory ∷ [])) [ true ↦ refl | false ↦ refl ] in
    go (is_installed_one asks place)

pub problem_kept : (choices : Choices) → AllByRecursion (λ row. map kept row ≡ row) (problem choices)
unfolding Same
problem_kept choices =
    each_row (λ row. map kept row ≡ row) choices
    (all_map (λ row. map kept row ≡ row) (of_subscription choices) choices.asks (λ asked. refl))
    (λ entry. same_row (of_entry choices entry)
    (all_append Same (map (need choices entry) entry.requirements) (flat_map (conflicts_with choices entry) choices.asks)
    (all_map Same (need choices entry) entry.requirements (λ requirement. refl))
    (all_flat_map Same (λ asked. Unit {0}) (conflicts_with choices entry) choices.asks (any choices.asks) (λ asked t. same_conflicts choices entry asked))))
    (same_tip choices.asks)
    (λ provides. ap (λ l. AtMost 1 l ∷ []) (once_where provides (first_entry choices) (provided choices)))

-- How many members there are.
module _ (choices : Choices) (fits : Fits choices) where
  provided_length : length (provided choices) ≡ length choices.entries + length choices.tips
  provided_length = length-append (map (λ entry. entry.offer) choices.entries) choices.tips ∙ ap (λ n. n + length choices.tips) (length-map choices.entries (λ entry. entry.offer))

  Among : Asked → Type 0
  Among asked = IfSome asked.installed (λ place. place < length choices.tips)

  one_installed : (o : Option ℕ) → IfSome o (λ place. place < length choices.tips) → length (option_to_list (option_map (λ place. first_tip choices + place) o)) ≤ length choices.tips
  one_installed None h = omega arith
  one_installed (Some place) h = omega arith

  few_candidates : (asked : Asked) → Among asked → length (candidates choices asked) ≤ VAR_LIMIT
  unfolding Among
  few_candidates asked among =
      let both : length (candidates choices asked) ≡ length (entries_where choices (is_candidate asked)) + length (installed_one choices asked) = length-append (entries_where choices (is_candidate asked)) (installed_one choices asked) in
      let entries : length (entries_where choices (is_candidate asked)) ≤ length choices.entries = few_where (is_candidate asked) (first_entry choices) choices.entries in
      let one : length (installed_one choices asked) ≤ length choices.tips = one_installed asked.installed among in
      let few : first_tip choices + length choices.tips ≤ VAR_LIMIT = fits.few in
      omega arith

  apart : (a b : Bool) → (a && b) ≡ true → (not a && b) ≡ false
  apart true b h = refl
  apart false b h = absurd (let bad : false ≡ true = h in cc)

  few_passing : (entry : Entry) (requirement : Requirement) → length (passing choices entry requirement) ≤ VAR_LIMIT
  few_passing entry requirement =
      let tips : length (tips_where choices (passes requirement)) ≤ length choices.tips = few_where (passes requirement) (first_tip choices) choices.tips in
      let entries : length (entries_where choices (passes_beside entry requirement)) + length (entries_where choices (passes_elsewhere entry requirement)) ≤ length choices.entries =
      few_of_two (passes_beside entry requirement) (passes_elsewhere entry requirement) (first_entry choices) (first_entry choices) choices.entries
      (λ other. apart (is_beside entry other) (passes requirement other.offer)) in
      let all : length (passing choices entry requirement) ≡ length (tips_where choices (passes requirement)) + length (entries_where choices (passes_beside entry requirement) ++ entries_where choices (passes_elsewhere entry requirement)) =
      length-append (tips_where choices (passes requirement)) (entries_where choices (passes_beside entry requirement) ++ entries_where choices (passes_elsewhere entry requirement)) in
      let both : length (entries_where choices (passes_beside entry requirement) ++ entries_where choices (passes_elsewhere entry requirement)) ≡ length (entries_where choices (passes_beside entry requirement)) + length (entries_where choices (passes_elsewhere entry requirement)) =
      length-append (entries_where choices (passes_beside entry requirement)) (entries_where choices (passes_elsewhere entry requirement)) in
      let few : first_tip choices + length choices.tips ≤ VAR_LIMIT = fits.few in
      omega arith

  few_shared : (provides : Provided → Bool) → length (providers_where choices provides) ≤ VAR_LIMIT
  few_shared provides =
      let some : length (providers_where choices provides) ≤ length (provided choices) = few_where provides (first_entry choices) (provided choices) in
      let few : first_tip choices + length choices.tips ≤ VAR_LIMIT = fits.few in
      omega (arith, provided_length)

  few_conflicts : (entry : Entry) (asked : Asked) → AllByRecursion HasFewMembers (conflicts_with choices entry asked)
  few_conflicts entry asked =
      let go : (b : Bool) → AllByRecursion HasFewMembers (if b then map Conflict (installed_one choices asked) else []) =
      λ b. elim b as (λ b. AllByRecursion HasFewMembers (if b then map Conflict (installed_one choices asked) else [])) [
        | true ↦ all_map HasFewMembers Conflict (installed_one choices asked) (λ v. tt)
        | false ↦ tt
      ] in
      go (is_upgrade asked entry)

  few_tip : (place : ℕ) → AllByRecursion HasFewMembers (of_tip choices.asks place)
  few_tip place =
      let go : (b : Bool) → AllByRecursion HasFewMembers (if b then [] else Mandatory ∷ []) =
      λ b. elim b as (λ b. AllByRecursion HasFewMembers (if b then [] else Mandatory ∷ [])) [ true ↦ tt | false ↦ (tt, tt) ] in
      go (is_installed_one choices.asks place)

  pub problem_few : AllByRecursion (λ row. AllByRecursion HasFewMembers row) (problem choices)
  unfolding Among
  problem_few =
      each_row (λ row. AllByRecursion HasFewMembers row) choices
      (all_map_of (λ row. AllByRecursion HasFewMembers row) Among (of_subscription choices) choices.asks (recursion_from_All Among choices.asks fits.installed)
      (λ asked among. (tt, (few_candidates asked among, tt))))
      (λ entry. all_append HasFewMembers (map (need choices entry) entry.requirements) (flat_map (conflicts_with choices entry) choices.asks)
      (all_map HasFewMembers (need choices entry) entry.requirements (few_passing entry))
      (all_flat_map HasFewMembers (λ asked. Unit {0}) (conflicts_with choices entry) choices.asks (any choices.asks) (λ asked t. few_conflicts entry asked)))
      few_tip
      (λ provides. (few_shared provides, tt))
