-- On the chain the replacing entry comes first.
use Rattle.std.proofs.Common.{◌≡◌, ◌+◌, ◌-◌, ◌<◌, ◌≤◌, ◌⊎◌, inl, inr, ℕ, zero, suc, Bool, true, false, not, List, [], ◌∷◌, ◌++◌, length, get_or, length-append, Option, Some, None, refl, sym, ap, ◌∙◌, subst, arith, cond}
use Rattle.std.specs.Cmp.Lexicographic.{bytes_decides}
use Rattle.std.specs.List.{All, Contains, find}
use Rattle.std.specs.Option.{option_and_then, option_map_or}
use Rattle.std.proofs.lemmas.Bool.{cases_lt}
use Rattle.std.proofs.lemmas.List.{get_or-append_right, get_or_append_left}
use Rattle.std.proofs.lemmas.List.Elements.{All-contains_itself, filter_passes}
use Rattle.std.proofs.lemmas.List.Sorted.{All-permutation, length_permutation}
use Rattle.fbc_types.specs.Channels.{chain, chain_from, entry_named, has_name, has_name_twice, heads, replaced_by, replaces}
use Rattle.fbc_types.specs.Laws.{ChannelsHaveChains, EntriesAreBundles}
use Rattle.fbc_types.specs.Texts.{same}
use Rattle.fbc_types.proofs.Lists.{false_of_or}
use Rattle.fbc_types.specs.declared.catalog.Bundle.{Bundle}
use Rattle.fbc_types.specs.declared.catalog.Channel.{Channel}
use Rattle.fbc_types.specs.declared.catalog.Entry.{Entry}
use Rattle.upgrade_graph.specs.Laws.{IsForward, ReplacingComesFirst}
use Rattle.upgrade_graph.specs.Order.{in_order, is_before, main_chain, off_chain}
use Rattle.upgrade_graph.specs.Sorting.{sorted}
use Rattle.upgrade_graph.proofs.Once.{main_chain_is, none_at, same_turned, split_permutes}
use Rattle.upgrade_graph.proofs.Ordered.{main_chain_all}
use Rattle.upgrade_graph.proofs.Sorts.{sorted_permutes, true_not_false}

-- no name stands at two places
apart : (xs : List Entry) (i j : ℕ) (d : Entry) → has_name_twice xs ≡ false → i < j → j < length xs → same (get_or xs i d).name (get_or xs j d).name ≡ false
apart [] i j d once before inside = absurd (omega (arith, inside))
apart (x ∷ xs) i zero d once before inside = absurd (omega (arith, before))
apart (x ∷ xs) zero (suc j) d once before inside =
    none_at (λ other. same x.name other.name) xs j d (false_of_or _ _ once).0 (omega (arith, inside))
apart (x ∷ xs) (suc i) (suc j) d once before inside = apart xs i j d (false_of_or _ _ once).1 (omega (arith, before)) (omega (arith, inside))

-- what follows an entry of a chain: nothing, or the next one, or the steps have ended
Follows : List Entry → List Entry → ℕ → ℕ → Entry → Type 0
Follows entries xs steps i d =
    (replaced_by entries (get_or xs i d) ≡ None)
    ⊎ (((i + 1 < length xs) × (replaced_by entries (get_or xs i d) ≡ Some (get_or xs (i + 1) d))) ⊎ (length xs ≡ steps))

none_found : {T : Type 0} (test : T → Bool) (xs : List T) (k : ℕ) (d : T) → k < length xs → test (get_or xs k d) ≡ true → find test xs ≡ None → ⊥
none_found test [] k d inside h none = omega (arith, inside)
none_found test (x ∷ xs) zero d inside h none = let bad : Some x ≡ None = (rw h at none) in cc
none_found test (x ∷ xs) (suc k) d inside h none =
    let go : (b : Bool) → cond b (Some x) (find test xs) ≡ None → ⊥ =
    λ b. elim b as (λ b. cond b (Some x) (find test xs) ≡ None → ⊥) [
      | true ↦ λ e. let bad : Some x ≡ None = e in cc
      | false ↦ λ e. none_found test xs k d (omega (arith, inside)) h e
    ] in
    go (test x) none

found_passes : {T : Type 0} (test : T → Bool) (xs : List T) (x : T) → find test xs ≡ Some x → test x ≡ true
found_passes test [] x h = absurd (let bad : None ≡ Some x = h in cc)
found_passes test (y ∷ ys) x h =
    let go : (b : Bool) → test y ≡ b → cond b (Some y) (find test ys) ≡ Some x → test x ≡ true =
    λ b. elim b as (λ b. test y ≡ b → cond b (Some y) (find test ys) ≡ Some x → test x ≡ true) [
      | true ↦ λ e k. let one : y ≡ x = cc in subst (λ z. test z ≡ true) one e
      | false ↦ λ e k. found_passes test ys x k
    ] in
    go (test y) refl h

module _ (entries : List Entry) where
  follow_more : (x : Entry) (xs : List Entry) (steps i : ℕ) (d : Entry) → Follows entries xs steps i d → Follows entries (x ∷ xs) (suc steps) (suc i) d
  unfolding Follows
  follow_more x xs steps i d (inl none) = inl none
  follow_more x xs steps i d (inr (inl next)) =
      let more : suc i + 1 ≡ suc (i + 1) = omega arith in
      inr (inl (omega (arith, next.0), subst (λ n. replaced_by entries (get_or xs i d) ≡ Some (get_or (x ∷ xs) n d)) (sym more) next.1))
  follow_more x xs steps i d (inr (inr long)) = inr (inr (ap suc long))

  follows_first : (steps : ℕ) (d entry : Entry) (next : Option Entry) → replaced_by entries entry ≡ next → Follows entries (entry ∷ chain_from steps entries next) (suc steps) 0 d
  unfolding Follows
  follows_first steps d entry None h = inl h
  follows_first zero d entry (Some next) h = inr (inr refl)
  follows_first (suc steps) d entry (Some next) h = inr (inl (omega arith, h))

  follows : (steps i : ℕ) (d : Entry) (at : Option Entry) → i < length (chain_from steps entries at) → Follows entries (chain_from steps entries at) steps i d
  follows zero i d at inside = absurd (omega (arith, inside))
  follows (suc steps) i d None inside = absurd (omega (arith, inside))
  follows (suc steps) zero d (Some entry) inside = follows_first steps d entry (replaced_by entries entry) refl
  follows (suc steps) (suc i) d (Some entry) inside =
      follow_more entry (chain_from steps entries (replaced_by entries entry)) steps i d (follows steps i d (replaced_by entries entry) (omega (arith, inside)))

  -- an entry's name is found among the entries
  named_there : (name : List ℕ) (k : ℕ) (d : Entry) → k < length entries → (get_or entries k d).name ≡ name → entry_named entries name ≡ None → ⊥
  named_there name k d inside at none = none_found (λ entry. same entry.name name) entries k d inside ((bytes_decides (get_or entries k d).name name).1 at) none

  -- the name of the entry that is found
  found_named : (name : List ℕ) (entry : Entry) → entry_named entries name ≡ Some entry → entry.name ≡ name
  found_named name entry h = (bytes_decides entry.name name).0 (found_passes (λ entry. same entry.name name) entries entry h)

  -- the entry replaces the bundle of the name
  replaces_by : (entry : Entry) (name : List ℕ) (replaced : Option (List ℕ)) → option_map_or (λ other. same other name) replaced false ≡ true → option_and_then (entry_named entries) replaced ≡ entry_named entries name
  replaces_by entry name None h = absurd (let bad : false ≡ true = h in cc)
  replaces_by entry name (Some other) h = ap (entry_named entries) ((bytes_decides other name).0 h)

  before_or : (xs : List Entry) (i j : ℕ) (d : Entry) → has_name_twice xs ≡ false → i + 1 < length xs → j < length xs → same (get_or xs (i + 1) d).name (get_or xs j d).name ≡ true → (i < j) ⊎ (j ≤ i) → i < j
  before_or xs i j d once inside inside' alike (inl before) = before
  before_or xs i j d once inside inside' alike (inr after) =
      let off = apart xs j (i + 1) d once (omega (arith, after)) inside in
      true_not_false _ alike (same_turned (get_or xs (i + 1) d).name (get_or xs j d).name ∙ off)

  forward : (xs : List Entry) (i j : ℕ) (d : Entry) → has_name_twice xs ≡ false → length xs ≤ length entries → i < length xs → j < length xs → All (Contains entries) xs
      → replaced_by entries (get_or xs i d) ≡ entry_named entries (get_or xs j d).name → Follows entries xs (suc (length entries)) i d → i < j
  unfolding Follows
  forward xs i j d once fits inside inside' all next (inl none) =
      let there = all j d inside' in
      absurd (named_there (get_or xs j d).name there.0 (get_or xs j d) there.1 (ap (λ (e : Entry). e.name) there.2) (sym next ∙ none))
  forward xs i j d once fits inside inside' all next (inr (inl after)) =
      let named : (get_or xs (i + 1) d).name ≡ (get_or xs j d).name = found_named (get_or xs j d).name (get_or xs (i + 1) d) (sym next ∙ after.1) in
      let alike : same (get_or xs (i + 1) d).name (get_or xs j d).name ≡ true = (bytes_decides _ _).1 named in
      before_or xs i j d once after.0 inside' alike (cases_lt i j)
  forward xs i j d once fits inside inside' all next (inr (inr long)) = absurd (omega (arith, long, fits))

  chain_forward : (head : Entry) (i j : ℕ) (d : Entry) → has_name_twice (chain entries head) ≡ false → length (chain entries head) ≤ length entries
      → i < length (chain entries head) → j < length (chain entries head) → All (Contains entries) (chain entries head)
      → replaces (get_or (chain entries head) j d).name (get_or (chain entries head) i d) ≡ true → i < j
  unfolding chain
  chain_forward head i j d once fits inside inside' all h =
      let xs = chain_from (suc (length entries)) entries (Some head) in
      let name = (get_or xs j d).name in
      let next : replaced_by entries (get_or xs i d) ≡ entry_named entries name = replaces_by (get_or xs i d) name (get_or xs i d).replaces h in
      forward xs i j d once fits inside inside' all next (follows (suc (length entries)) i d (Some head) inside)

false_of_not : (b : Bool) → not b ≡ true → b ≡ false
false_of_not false h = refl
false_of_not true h = absurd (let bad : false ≡ true = h in cc)

-- the entries behind the chain aren't on it
others_off : (bundles : List Bundle) (owner : List ℕ) (entries : List Entry) → All (λ entry. has_name entry.name (main_chain entries) ≡ false) (sorted (is_before bundles owner) (off_chain entries))
others_off bundles owner entries =
    All-permutation (λ (entry : Entry). has_name entry.name (main_chain entries) ≡ false) (off_chain entries) _ (sorted_permutes (is_before bundles owner) (off_chain entries))
    (λ k d below. false_of_not _ (filter_passes (λ entry. not (has_name entry.name (main_chain entries))) entries k d below))

on_chain : (front others : List Entry) (k : ℕ) (d : Entry) → All (λ entry. has_name entry.name front ≡ false) others → k < length (front ++ others)
    → has_name (get_or (front ++ others) k d).name front ≡ true → (k < length front) ⊎ (length front ≤ k) → k < length front
on_chain front others k d all inside h (inl below) = below
on_chain front others k d all inside h (inr above) =
    let long = length-append front others in
    let off = all (k - length front) d (omega (arith, inside, long, above)) in
    let same_entry = get_or-append_right front others (length front) k d refl above in
    true_not_false _ h (ap (λ (e : Entry). has_name e.name front) same_entry ∙ off)

forward_in : (entries front others : List Entry) (head : Entry) (i j : ℕ) (d : Entry) → front ≡ chain entries head → has_name_twice front ≡ false → length front ≤ length entries
    → All (Contains entries) front → All (λ entry. has_name entry.name front ≡ false) others → i < length (front ++ others) → j < length (front ++ others)
    → has_name (get_or (front ++ others) i d).name front ≡ true → has_name (get_or (front ++ others) j d).name front ≡ true
    → replaces (get_or (front ++ others) j d).name (get_or (front ++ others) i d) ≡ true → i < j
forward_in entries front others head i j d is once fits all off inside inside' h k r =
    let below = on_chain front others i d off inside h (cases_lt i (length front)) in
    let below' = on_chain front others j d off inside' k (cases_lt j (length front)) in
    let first = get_or_append_left front others d i below in
    let second = get_or_append_left front others d j below' in
    let replaces_there : replaces (get_or front j d).name (get_or front i d) ≡ true =
    ap (λ (e : Entry). replaces (get_or front j d).name e) (sym first) ∙ ap (λ (e : Entry). replaces e.name (get_or (front ++ others) i d)) (sym second) ∙ r in
    chain_forward entries head i j d (ap has_name_twice (sym is) ∙ once) (subst (λ (xs : List Entry). length xs ≤ length entries) is fits)
    (subst (λ (xs : List Entry). i < length xs) is below) (subst (λ (xs : List Entry). j < length xs) is below') (subst (All (Contains entries)) is all)
    (subst (λ (xs : List Entry). replaces (get_or xs j d).name (get_or xs i d) ≡ true) is replaces_there)

is_forward : (bundles : List Bundle) (channel : Channel) (head : Entry) → heads channel.entries ≡ head ∷ [] → has_name_twice channel.entries ≡ false
    → has_name_twice (chain channel.entries head) ≡ false → IsForward channel (in_order bundles channel)
unfolding in_order
is_forward bundles channel head found once straight head' i j d found' inside inside' h k r =
    let whole = main_chain_is channel.entries head found in
    let whole' = main_chain_is channel.entries head' found' in
    let permuted = length_permutation _ _ (split_permutes channel.entries head found once straight) in
    let long = length-append (main_chain channel.entries) (off_chain channel.entries) in
    let fits : length (main_chain channel.entries) ≤ length channel.entries = omega (arith, permuted, long) in
    forward_in channel.entries (main_chain channel.entries) (sorted (is_before bundles channel.«package») (off_chain channel.entries)) head' i j d whole'
    (ap has_name_twice whole ∙ straight) fits (main_chain_all (Contains channel.entries) channel.entries (All-contains_itself channel.entries))
    (others_off bundles channel.«package» channel.entries) inside inside'
    (ap (has_name _) whole' ∙ h) (ap (has_name _) whole' ∙ k) r

pub replacing_comes_first : ChannelsHaveChains → EntriesAreBundles → ReplacingComesFirst
replacing_comes_first chains listed catalog valid k d below =
    let one = chains catalog valid k d below in
    is_forward catalog.bundles _ one.0 one.1 (listed catalog valid k d below).0 one.2
