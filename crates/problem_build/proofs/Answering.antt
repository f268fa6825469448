-- The answer over what is chosen from.
use Rattle.std.proofs.Common.{◌≡◌, ◌+◌, ◌<◌, ◌≤◌, ℕ, Bool, true, false, cond, nat_lt, max, List, [], ◌∷◌, ◌++◌, length, map, refl, sym, ap, ◌∙◌, subst, arith, Some, None, Result, Ok, Err}
use Rattle.std.specs.List.{AllByRecursion, fold, position, position_or_len}
use Rattle.std.specs.Option.{IfSome}
use Rattle.std.proofs.lemmas.Bool.{le-ltb, lt-ltb, ltb-true}
use Rattle.std.proofs.lemmas.List.{length-append, length-map}
use Rattle.std.proofs.lemmas.List.FromFn.{length-range_with_len}
use Rattle.olm_base.specs.declared.gvk.Gvk.{Gvk}
use Rattle.cluster_objects.specs.declared.resolutions.Basis.{Basis}
use Rattle.cluster_objects.specs.declared.resolutions.Tip.{Tip}
use Rattle.cluster_objects.specs.declared.statuses.SubSpec.{SubSpec}
use Rattle.op_constraints.specs.declared.Constraint.{Constraint}
use Rattle.op_constraints.specs.declared.TheConstants.{VAR_LIMIT}
use Rattle.op_properties.specs.Offers.{Provided}
use Rattle.view_basis.specs.Tips.{is_tip_of, tip_offer}
use Rattle.view_basis.specs.declared.visible.Visible.{Visible}
use Rattle.problem_build.specs.Asking.{asked, installed_place}
use Rattle.problem_build.specs.Building.{IsAnswer, IsBuilt, asks, choices as chosen_from, most_constraints, too_many}
use Rattle.problem_build.specs.Entries.{Entry, entries}
use Rattle.problem_build.specs.Reaching.{AreReached}
use Rattle.problem_build.specs.Variables.{Choices, first_tip, kinds, names, packages, problem, provided, taken}
use Rattle.problem_build.specs.declared.asking.Asked.{Asked}
use Rattle.problem_build.specs.declared.building.BuildFault.{BuildFault}
use Rattle.problem_build.specs.declared.building.BuildFault.TheVariants.{TooManyVariables, Memory}
use Rattle.problem_build.specs.declared.building.Built.{Built}
use Rattle.problem_build.specs.declared.names.VarName.{VarName}
use Rattle.problem_build.specs.declared.names.VarName.TheVariants as name
use Rattle.problem_build.proofs.Keeping.{all_map}

-- How long the problem and the names are.
pub problem_length : (choices : Choices) → length (problem choices)
    ≡ length choices.asks + (length choices.entries + (length choices.tips + (length (packages (provided choices)) + length (kinds (provided choices)))))
problem_length choices = simp (length-append, length-map, length-range_with_len)

names_length : (subscriptions : List (List ℕ × SubSpec)) (tips : List Tip) (choices : Choices) → length (names subscriptions tips choices)
    ≡ length subscriptions + (length choices.entries + (length tips + (length (packages (provided choices)) + length (kinds (provided choices)))))
names_length subscriptions tips choices = simp (length-append, length-map)

pub names_long : (subscriptions : List (List ℕ × SubSpec)) (tips : List Tip) (choices : Choices) → length choices.asks ≡ length subscriptions
    → length choices.tips ≡ length tips → length (names subscriptions tips choices) ≡ length (problem choices)
names_long subscriptions tips choices a t =
    let one = names_length subscriptions tips choices in
    let two = problem_length choices in
    omega (arith, one, two)

pub few_choices : (choices : Choices) → length (problem choices) ≤ VAR_LIMIT → first_tip choices + length choices.tips ≤ VAR_LIMIT
few_choices choices h =
    let two = problem_length choices in
    omega (arith, two)

pub many_variables : (rows : List (List Constraint)) → VAR_LIMIT < length rows → too_many rows ≡ Some (length rows)
many_variables rows h =
    let test : nat_lt VAR_LIMIT (length rows) ≡ true = lt-ltb VAR_LIMIT (length rows) h in
    rw test refl

pub many_constraints : (rows : List (List Constraint)) → length rows ≤ VAR_LIMIT → VAR_LIMIT < most_constraints rows → too_many rows ≡ Some (most_constraints rows)
many_constraints rows few h =
    let test : nat_lt VAR_LIMIT (length rows) ≡ false = le-ltb VAR_LIMIT (length rows) few in
    let more : nat_lt VAR_LIMIT (most_constraints rows) ≡ true = lt-ltb VAR_LIMIT (most_constraints rows) h in
    rw (test, more) refl

pub not_many : (rows : List (List Constraint)) → length rows ≤ VAR_LIMIT → most_constraints rows ≤ VAR_LIMIT → too_many rows ≡ None
not_many rows few h =
    let test : nat_lt VAR_LIMIT (length rows) ≡ false = le-ltb VAR_LIMIT (length rows) few in
    let more : nat_lt VAR_LIMIT (most_constraints rows) ≡ false = le-ltb VAR_LIMIT (most_constraints rows) h in
    rw (test, more) refl

most_from : (a n : ℕ) (rows : List (List Constraint)) → fold max a (map length rows) ≤ n → (a ≤ n) × AllByRecursion (λ row. length row ≤ n) rows
most_from a n [] h = (h, tt)
most_from a n (row ∷ rows) h =
    let rest = most_from (max a (length row)) n rows h in
    let both : max a (length row) ≤ n = rest.0 in
    (omega arith, (omega arith, rest.1))

pub few_constraints : (rows : List (List Constraint)) → most_constraints rows ≤ VAR_LIMIT → AllByRecursion (λ row. length row ≤ VAR_LIMIT) rows
few_constraints rows h = (most_from 0 VAR_LIMIT rows h).1

-- The names of the code, over the packages and kinds that it has found, are as many as the variables.
pub named_long : (made : List VarName) (subscriptions : List (List ℕ × SubSpec)) (tips : List Tip) (choices : Choices) (ps : List (List ℕ)) (ks : List Gvk)
    → made ≡ map (λ subscription. name.Subscription subscription.0) subscriptions ++ (map (λ entry. name.Entry (taken tips entry)) choices.entries
    ++ (map (λ tip. name.Installed tip.name) tips ++ (map name.OnePackage ps ++ map name.OneKind ks)))
    → ps ≡ packages (provided choices) → ks ≡ kinds (provided choices)
    → length choices.asks ≡ length subscriptions → length choices.tips ≡ length tips → length made ≡ length (problem choices)
named_long made subscriptions tips choices ps ks e p k a t =
    let front = λ (l : List VarName). map (λ (subscription : List ℕ × SubSpec). name.Subscription subscription.0) subscriptions ++ (map (λ (entry : Entry). name.Entry (taken tips entry)) choices.entries
    ++ (map (λ (tip : Tip). name.Installed tip.name) tips ++ l)) in
    let same : made ≡ names subscriptions tips choices =
    e ∙ ap (λ (l : List (List ℕ)). front (map name.OnePackage l ++ map name.OneKind ks)) p
    ∙ ap (λ (l : List Gvk). front (map name.OnePackage (packages (provided choices)) ++ map name.OneKind l)) k in
    ap length same ∙ names_long subscriptions tips choices a t

pub choices_same : (a b : List Asked) (e f : List Entry) (s t : List Provided) → a ≡ b → e ≡ f → s ≡ t
    → (let one : Choices = record { asks = a; entries = e; tips = s } in let two : Choices = record { asks = b; entries = f; tips = t } in one ≡ two)
choices_same a b e f s t x y z =
    ap (λ (l : List Asked). let one : Choices = record { asks = l; entries = e; tips = s } in one) x
    ∙ ap (λ (l : List Entry). let one : Choices = record { asks = b; entries = l; tips = s } in one) y
    ∙ ap (λ (l : List Provided). let one : Choices = record { asks = b; entries = f; tips = l } in one) z

pub answer_of : (basis : Basis) (catalogs : List Visible) (marks : List Bool) (from : Choices) (r : Result Built BuildFault)
    → AreReached (asks basis catalogs) (entries catalogs) marks → from ≡ chosen_from basis catalogs marks → IsAnswer basis from r → IsBuilt basis catalogs r
answer_of basis catalogs marks from (Ok built) reached same answer = (marks, reached, subst (λ (f : Choices). IsAnswer basis f (Ok built)) same answer)
answer_of basis catalogs marks from (Err (TooManyVariables count)) reached same answer = (marks, reached, subst (λ (f : Choices). IsAnswer basis f (Err (TooManyVariables count))) same answer)
answer_of basis catalogs marks from (Err Memory) reached same answer = tt

-- The place of the first item that passes is one of the list.
pub position_below : {T : Type 0} (p : T → Bool) (xs : List T) → IfSome (position p xs) (λ place. place < length xs)
position_below p xs =
    let go : (b : Bool) → nat_lt (position_or_len p xs) (length xs) ≡ b → IfSome (cond b (Some (position_or_len p xs)) None) (λ place. place < length xs) =
    λ b. elim b as (λ b. nat_lt (position_or_len p xs) (length xs) ≡ b → IfSome (cond b (Some (position_or_len p xs)) None) (λ place. place < length xs)) [
      | true ↦ λ h. ltb-true (position_or_len p xs) (length xs) h
      | false ↦ λ h. tt
    ] in
    go (nat_lt (position_or_len p xs) (length xs)) refl

pub asks_among : (basis : Basis) (catalogs : List Visible) → AllByRecursion (λ asked. IfSome asked.installed (λ place. place < length (map tip_offer basis.tips))) (asks basis catalogs)
asks_among basis catalogs =
    all_map (λ (a : Asked). IfSome a.installed (λ place. place < length (map tip_offer basis.tips))) (λ (subscription : List ℕ × SubSpec). asked catalogs basis.tips subscription.1) basis.subscriptions
    (λ subscription. subst (λ (n : ℕ). IfSome (installed_place basis.tips subscription.1.«package») (λ place. place < n)) (sym (length-map basis.tips tip_offer))
    (position_below (is_tip_of subscription.1.«package») basis.tips))
