-- What is so of every problem of a namespace.
use Rattle.std.proofs.Common.{◌≡◌, ◌+◌, ◌<◌, ◌≤◌, ℕ, zero, suc, Bool, true, false, cond, if◌then◌else◌, List, [], ◌∷◌, ◌++◌, length, map, drop, refl, sym, ap, ◌∙◌, subst, arith, append_assoc, Option, Some, None, slice_get}
use Rattle.std.specs.List.{AllByRecursion, flat_map, list_any}
use Rattle.std.specs.Option.{IfSome, option_and_then, option_map, option_map_or, option_to_list}
use Rattle.std.proofs.lemmas.List.{append-nil, length-append, length-map}
use Rattle.op_constraints.specs.Meets.{IsClosed, IsWithin, at, constraints_of}
use Rattle.op_constraints.specs.Walks.{agenda, dependencies, is_among, mandatory, member, passed, picks, waiting, walk, walk_from}
use Rattle.op_constraints.specs.declared.Constraint.{Constraint}
use Rattle.op_constraints.specs.declared.Constraint.TheVariants.{Mandatory, Prohibited, Dependency, Conflict, AtMost}
use Rattle.op_properties.specs.Offers.{Provided}
use Rattle.op_properties.specs.Passing.{passes}
use Rattle.op_properties.specs.declared.requirement.Requirement.{Requirement}
use Rattle.problem_build.specs.Asking.{asked, is_candidate, is_upgrade}
use Rattle.problem_build.specs.Building.{choices as chosen_from}
use Rattle.problem_build.specs.Entries.{Entry, entries}
use Rattle.problem_build.specs.Laws.{AllAreThere, IsEntryOrTip, PicksAreEntriesOrTips, ThereIsOne}
use Rattle.problem_build.specs.Variables.{Choices, candidates, conflicts_with, entries_where, first_entry, first_tip, installed_one, is_installed_one, names, need, of_subscription, of_tip, passes_beside, passes_elsewhere, passing, problem, provided, providers_where, tips_where}
use Rattle.problem_build.specs.declared.asking.Asked.{Asked}
use Rattle.problem_build.proofs.Answering.{asks_among, problem_length}
use Rattle.problem_build.proofs.Counting.{where_all}
use Rattle.problem_build.proofs.Keeping.{all_append, all_flat_map, all_map, all_map_of, each_row}

bool_same : (b c : Bool) → (b ≡ true → c ≡ true) → (c ≡ true → b ≡ true) → b ≡ c
bool_same true c f g = sym (f refl)
bool_same false true f g = g refl
bool_same false false f g = refl

bits_same : (r s : List Bool) → length r ≡ length s → ((i : ℕ) → i < length r → at r i ≡ true → at s i ≡ true) → ((i : ℕ) → i < length r → at s i ≡ true → at r i ≡ true) → r ≡ s
bits_same [] [] long f g = refl
bits_same [] (c ∷ s) long f g = absurd (omega arith)
bits_same (b ∷ r) [] long f g = absurd (omega arith)
bits_same (b ∷ r) (c ∷ s) long f g =
    let first : b ≡ c = bool_same b c (f 0 (omega arith)) (g 0 (omega arith)) in
    let rest : r ≡ s = bits_same r s (omega arith) (λ i h. f (suc i) (omega arith)) (λ i h. g (suc i) (omega arith)) in
    ap (λ x. x ∷ r) first ∙ ap (λ l. c ∷ l) rest

pub there_is_one : ThereIsOne
there_is_one basis catalogs built other these those p q =
    let long : length p.reached ≡ length (entries catalogs) = p.are_reached.each in
    let same : p.reached ≡ q.reached =
    bits_same p.reached q.reached (p.are_reached.each ∙ sym q.are_reached.each)
    (λ i h m. let below : i < length (entries catalogs) = omega (arith, long, h) in (q.are_reached.exact i below).1 ((p.are_reached.exact i below).0 m))
    (λ i h m. let below : i < length (entries catalogs) = omega (arith, long, h) in (p.are_reached.exact i below).1 ((q.are_reached.exact i below).0 m)) in (
      p.is_problem ∙ ap (λ (r : List Bool). problem (chosen_from basis catalogs r)) same ∙ sym q.is_problem,
      p.are_names ∙ ap (λ (r : List Bool). names basis.subscriptions basis.tips (chosen_from basis catalogs r)) same ∙ sym q.are_names,
    )

-- The members that constraints name lie in a range.
abbrev Names : (ℕ → Type 0) → Constraint → Type 0
Names P Mandatory = Unit {0}
Names P Prohibited = Unit {0}
Names P (Dependency members) = AllByRecursion P members
Names P (Conflict other) = P other
Names P (AtMost most members) = AllByRecursion P members

module _ (choices : Choices) (P : ℕ → Type 0)
    (among : AllByRecursion (λ asked. IfSome asked.installed (λ place. place < length choices.tips)) choices.asks)
    (inside : (v : ℕ) → first_entry choices ≤ v → v < first_tip choices + length choices.tips → P v) where
  Among : Asked → Type 0
  Among asked = IfSome asked.installed (λ place. place < length choices.tips)

  entries_named : (p : Entry → Bool) → AllByRecursion P (entries_where choices p)
  entries_named p = where_all p P (first_entry choices) choices.entries (λ v low high. inside v low (omega arith))

  tips_named : (p : Provided → Bool) → AllByRecursion P (tips_where choices p)
  tips_named p = where_all p P (first_tip choices) choices.tips (λ v low high. inside v (omega arith) high)

  shared_named : (p : Provided → Bool) → AllByRecursion P (providers_where choices p)
  shared_named p =
      let long : length (provided choices) ≡ length choices.entries + length choices.tips =
      length-append (map (λ entry. entry.offer) choices.entries) choices.tips ∙ ap (λ n. n + length choices.tips) (length-map choices.entries (λ entry. entry.offer)) in
      where_all p P (first_entry choices) (provided choices) (λ v low high. inside v low (omega arith))

  one_named : (o : Option ℕ) → IfSome o (λ place. place < length choices.tips) → AllByRecursion P (option_to_list (option_map (λ place. first_tip choices + place) o))
  one_named None h = tt
  one_named (Some place) h = (inside (first_tip choices + place) (omega arith) (omega arith), tt)

  candidates_named : (asked : Asked) → Among asked → AllByRecursion P (candidates choices asked)
  unfolding Among
  candidates_named asked h =
      all_append P (entries_where choices (is_candidate asked)) (installed_one choices asked) (entries_named (is_candidate asked)) (one_named asked.installed h)

  passing_named : (entry : Entry) (requirement : Requirement) → AllByRecursion P (passing choices entry requirement)
  passing_named entry requirement =
      all_append P (tips_where choices (passes requirement)) _ (tips_named (passes requirement))
      (all_append P (entries_where choices (passes_beside entry requirement)) (entries_where choices (passes_elsewhere entry requirement))
      (entries_named (passes_beside entry requirement)) (entries_named (passes_elsewhere entry requirement)))

  conflicts_named : (entry : Entry) (asked : Asked) → Among asked → AllByRecursion (Names P) (conflicts_with choices entry asked)
  unfolding Among
  conflicts_named entry asked h =
      let go : (b : Bool) → AllByRecursion (Names P) (if b then map Conflict (installed_one choices asked) else []) =
      λ b. elim b as (λ b. AllByRecursion (Names P) (if b then map Conflict (installed_one choices asked) else [])) [
        | true ↦ all_map_of (Names P) P Conflict (installed_one choices asked) (one_named asked.installed h) (λ v e. e)
        | false ↦ tt
      ] in
      go (is_upgrade asked entry)

  tip_named : (place : ℕ) → AllByRecursion (Names P) (of_tip choices.asks place)
  tip_named place =
      let go : (b : Bool) → AllByRecursion (Names P) (if b then [] else Mandatory ∷ []) =
      λ b. elim b as (λ b. AllByRecursion (Names P) (if b then [] else Mandatory ∷ [])) [ true ↦ tt | false ↦ (tt, tt) ] in
      go (is_installed_one choices.asks place)

  pub problem_names : AllByRecursion (λ row. AllByRecursion (Names P) row) (problem choices)
  unfolding Among
  problem_names =
      each_row (λ row. AllByRecursion (Names P) row) choices
      (all_map_of (λ row. AllByRecursion (Names P) row) Among (of_subscription choices) choices.asks among (λ asked h. (tt, (candidates_named asked h, tt))))
      (λ entry. all_append (Names P) (map (need choices entry) entry.requirements) (flat_map (conflicts_with choices entry) choices.asks)
      (all_map (Names P) (need choices entry) entry.requirements (passing_named entry))
      (all_flat_map (Names P) Among (conflicts_with choices entry) choices.asks among (conflicts_named entry)))
      tip_named
      (λ provides. (shared_named provides, tt))

within_of : (k : ℕ) (c : Constraint) → Names (λ v. v < k) c → IsWithin k c
within_of k Mandatory h = tt
within_of k Prohibited h = tt
within_of k (Dependency members) h = h
within_of k (Conflict other) h = h
within_of k (AtMost most members) h = h

weaker : {T : Type 0} (P Q : T → Type 0) (xs : List T) → ((x : T) → P x → Q x) → AllByRecursion P xs → AllByRecursion Q xs
weaker P Q [] f h = tt
weaker P Q (x ∷ xs) f h = (f x h.0, weaker P Q xs f h.1)

closed_choices : (choices : Choices) → AllByRecursion (λ asked. IfSome asked.installed (λ place. place < length choices.tips)) choices.asks → IsClosed (problem choices)
closed_choices choices among =
    let long = problem_length choices in
    weaker (λ row. AllByRecursion (Names (λ v. v < length (problem choices))) row) (λ row. AllByRecursion (IsWithin (length (problem choices))) row) (problem choices)
    (λ row. weaker (Names (λ v. v < length (problem choices))) (IsWithin (length (problem choices))) row (within_of (length (problem choices))))
    (problem_names choices (λ v. v < length (problem choices)) among (λ v low high. omega (arith, long)))

pub all_are_there : AllAreThere
all_are_there basis catalogs built these p =
    subst IsClosed (sym p.is_problem) (closed_choices (chosen_from basis catalogs p.reached) (asks_among basis catalogs))

-- What the lists of a row name.
row_lists : (P : ℕ → Type 0) (row : List Constraint) → AllByRecursion (Names P) row → AllByRecursion (λ members. AllByRecursion P members) (dependencies row)
row_lists P [] h = tt
row_lists P (Mandatory ∷ row) h = row_lists P row h.1
row_lists P (Prohibited ∷ row) h = row_lists P row h.1
row_lists P (Dependency members ∷ row) h = (h.0, row_lists P row h.1)
row_lists P (Conflict other ∷ row) h = row_lists P row h.1
row_lists P (AtMost most members ∷ row) h = row_lists P row h.1

row_at : (Q : List Constraint → Type 0) (rows : List (List Constraint)) (v : ℕ) → AllByRecursion Q rows → Q [] → Q (constraints_of rows v)
row_at Q [] v h none = none
row_at Q (row ∷ rows) zero h none = h.0
row_at Q (row ∷ rows) (suc v) h none = row_at Q rows v h.1 none

module _ (rows : List (List Constraint)) (P : ℕ → Type 0) (all : AllByRecursion (λ row. AllByRecursion (Names P) row) rows) where
  Lists : List (List ℕ) → Type 0
  Lists lists = AllByRecursion (λ members. AllByRecursion P members) lists

  agenda_named : (chosen : List ℕ) → Lists (agenda rows chosen)
  unfolding Lists
  agenda_named [] = tt
  agenda_named (v ∷ vs) =
      all_append (λ members. AllByRecursion P members) (dependencies (constraints_of rows v)) (agenda rows vs)
      (row_lists P (constraints_of rows v) (row_at (λ row. AllByRecursion (Names P) row) rows v all tt)) (agenda_named vs)

  passed_named : (set : ℕ → Bool) (lists : List (List ℕ)) → Lists lists → Lists (passed set lists)
  unfolding Lists
  passed_named set [] h = tt
  passed_named set (members ∷ lists) h =
      let rest : Lists (passed set lists) = passed_named set lists h.1 in
      let go : (b : Bool) → Lists (cond b (passed set lists) (members ∷ lists)) =
      λ b. elim b as (λ b. Lists (cond b (passed set lists) (members ∷ lists))) [ true ↦ rest | false ↦ h ] in
      go (list_any set members)

  got : (members : List ℕ) (n v : ℕ) → AllByRecursion P members → slice_get members n ≡ Some v → P v
  got [] n v h e = absurd (let bad : None ≡ Some v = e in cc)
  got (m ∷ members) zero v h e = let same : m ≡ v = cc in subst P same h.0
  got (m ∷ members) (suc n) v h e = got members n v h.1 e

  member_named : (lists : List (List ℕ)) (n v : ℕ) → Lists lists → member lists n ≡ Some v → P v
  unfolding Lists
  member_named [] n v h e = absurd (let bad : None ≡ Some v = e in cc)
  member_named (members ∷ lists) n v h e = got members n v h.0 e

  walked : (chosen numbers end : List ℕ) → walk_from rows chosen numbers ≡ Some end → (more : List ℕ) × (end ≡ chosen ++ more) × AllByRecursion P more
  walked chosen [] end e =
      let same : chosen ≡ end = cc in
      ([], sym same ∙ sym (append-nil chosen), tt)
  walked chosen (number ∷ numbers) end e =
      let go : (o : Option ℕ) → member (waiting rows chosen) number ≡ o → option_and_then (λ v. walk_from rows (chosen ++ v ∷ []) numbers) o ≡ Some end
      → (more : List ℕ) × (end ≡ chosen ++ more) × AllByRecursion P more =
      λ o. elim o as (λ o. member (waiting rows chosen) number ≡ o → option_and_then (λ v. walk_from rows (chosen ++ v ∷ []) numbers) o ≡ Some end
      → (more : List ℕ) × (end ≡ chosen ++ more) × AllByRecursion P more) [
        | None ↦ λ h k. absurd (let bad : None ≡ Some end = k in cc)
        | Some v ↦ λ h k.
            let later = walked (chosen ++ v ∷ []) numbers end k in
            let here : P v = member_named (waiting rows chosen) number v (passed_named (is_among chosen) (agenda rows chosen) (agenda_named chosen)) h in
            (v ∷ later.0, later.1 ∙ append_assoc chosen (v ∷ []) later.0, (here, later.2))
      ] in
      go (member (waiting rows chosen) number) refl e

  behind : (xs ys : List ℕ) → drop (length xs) (xs ++ ys) ≡ ys
  behind [] ys = refl
  behind (x ∷ xs) ys = behind xs ys

  pub picks_named : (numbers : List ℕ) → AllByRecursion P (picks rows numbers)
  picks_named numbers =
      let go : (o : Option (List ℕ)) → walk rows numbers ≡ o → AllByRecursion P (option_map_or (λ chosen. drop (length (mandatory rows)) chosen) o []) =
      λ o. elim o as (λ o. walk rows numbers ≡ o → AllByRecursion P (option_map_or (λ chosen. drop (length (mandatory rows)) chosen) o [])) [
        | None ↦ λ h. tt
        | Some end ↦ λ h.
            let found = walked (mandatory rows) numbers end h in
            subst (AllByRecursion P) (sym (ap (drop (length (mandatory rows))) found.1 ∙ behind (mandatory rows) found.0)) found.2
      ] in
      go (walk rows numbers) refl

pub picks_are_entries_or_tips : PicksAreEntriesOrTips
picks_are_entries_or_tips basis catalogs reached numbers =
    let from = chosen_from basis catalogs reached in
    let long : length (provided from) ≡ length from.entries + length from.tips =
    length-append (map (λ entry. entry.offer) from.entries) from.tips ∙ ap (λ n. n + length from.tips) (length-map from.entries (λ entry. entry.offer)) in
    picks_named (problem from) (IsEntryOrTip from)
    (problem_names from (IsEntryOrTip from) (asks_among basis catalogs) (λ v low high. (low, omega (arith, long)))) numbers
