-- The order has each entry of the channel once, and begins with its head.
use Rattle.std.proofs.Common.{◌≡◌, ◌<◌, ◌||◌, ℕ, zero, suc, Bool, true, false, not, if◌then◌else◌, cond, List, [], ◌∷◌, ◌++◌, length, get_or, Option, Some, refl, sym, ap, ◌∙◌, subst, arith}
use Rattle.std.specs.List.{AllByRecursion, Contains, filter, find, list_any}
use Rattle.std.specs.List.Sorted.{IsPermutation}
use Rattle.std.specs.Option.{option_map_or}
use Rattle.std.proofs.lemmas.Cmp.{nat_list_eq_equiv}
use Rattle.std.proofs.lemmas.List.Elements.{All-contains_itself, recursion_from_All}
use Rattle.std.proofs.lemmas.List.Sorted.{IsPermutation-append_right, IsPermutation-cons, IsPermutation-middle, IsPermutation-refl, IsPermutation-trans}
use Rattle.fbc_types.specs.Channels.{chain, chain_from, has_name, has_name_twice, heads, is_head, replaced_by}
use Rattle.fbc_types.specs.Laws.{ChannelsHaveChains, EntriesAreBundles}
use Rattle.fbc_types.specs.Texts.{same}
use Rattle.fbc_types.proofs.Lists.{false_of_or}
use Rattle.fbc_types.specs.declared.catalog.Bundle.{Bundle}
use Rattle.fbc_types.specs.declared.catalog.Channel.{Channel}
use Rattle.fbc_types.specs.declared.catalog.Entry.{Entry}
use Rattle.upgrade_graph.specs.Laws.{HeadsComeFirst, OrdersListAll}
use Rattle.upgrade_graph.specs.Order.{in_order, is_before, main_chain, off_chain}
use Rattle.upgrade_graph.specs.Sorting.{sorted}
use Rattle.upgrade_graph.proofs.Ordered.{main_chain_all}
use Rattle.upgrade_graph.proofs.Sorts.{sorted_permutes}

pub same_turned : (a b : List ℕ) → same a b ≡ same b a
same_turned a b = nat_list_eq_equiv.symm a b

-- what `list_any` denies of a list it denies of each item
pub none_at : {T : Type 0} (test : T → Bool) (xs : List T) (k : ℕ) (d : T) → list_any test xs ≡ false → k < length xs → test (get_or xs k d) ≡ false
none_at test [] k d h below = absurd (omega (arith, below))
none_at test (x ∷ xs) zero d h below = (false_of_or (test x) (list_any test xs) h).0
none_at test (x ∷ xs) (suc k) d h below = none_at test xs k d (false_of_or (test x) (list_any test xs) h).1 (omega (arith, below))

-- entries of a list without a name twice
filter_none : (test keep : Entry → Bool) (xs : List Entry) → list_any test xs ≡ false → list_any test (filter keep xs) ≡ false
filter_none test keep [] h = h
filter_none test keep (x ∷ xs) h =
    let parts = false_of_or (test x) (list_any test xs) h in
    let rest = filter_none test keep xs parts.1 in
    let go : (b : Bool) → list_any test (if b then x ∷ filter keep xs else filter keep xs) ≡ false =
    λ b. elim b as (λ b. list_any test (if b then x ∷ filter keep xs else filter keep xs) ≡ false) [ true ↦ rw (parts.0) rest | false ↦ rest ] in
    go (keep x)

filter_once : (keep : Entry → Bool) (xs : List Entry) → has_name_twice xs ≡ false → has_name_twice (filter keep xs) ≡ false
filter_once keep [] h = h
filter_once keep (x ∷ xs) h =
    let parts = false_of_or (list_any (λ other. same x.name other.name) xs) (has_name_twice xs) h in
    let rest = filter_once keep xs parts.1 in
    let none = filter_none (λ other. same x.name other.name) keep xs parts.0 in
    let go : (b : Bool) → has_name_twice (if b then x ∷ filter keep xs else filter keep xs) ≡ false =
    λ b. elim b as (λ b. has_name_twice (if b then x ∷ filter keep xs else filter keep xs) ≡ false) [ true ↦ rw none rest | false ↦ rest ] in
    go (keep x)

abbrev pub is_apart : Entry → Entry → Bool
is_apart x entry = not (same x.name entry.name)

none_removed : (x : Entry) (xs : List Entry) → list_any (λ other. same x.name other.name) xs ≡ false → filter (is_apart x) xs ≡ xs
none_removed x [] h = refl
none_removed x (y ∷ ys) h =
    let parts = false_of_or (same x.name y.name) (list_any (λ other. same x.name other.name) ys) h in
    rw (parts.0) (ap (λ more. y ∷ more) (none_removed x ys parts.1))

-- an item of such a list can be taken to the front
taken_out : (x : Entry) (xs : List Entry) (k : ℕ) → has_name_twice xs ≡ false → k < length xs → get_or xs k x ≡ x → IsPermutation xs (x ∷ filter (is_apart x) xs)
taken_out x [] k once below at = absurd (omega (arith, below))
taken_out x (y ∷ ys) zero once below at =
    let parts = false_of_or (list_any (λ other. same y.name other.name) ys) (has_name_twice ys) once in
    let none : list_any (λ other. same x.name other.name) ys ≡ false = subst (λ (e : Entry). list_any (λ other. same e.name other.name) ys ≡ false) at parts.0 in
    let itself : same x.name y.name ≡ true = subst (λ (e : Entry). same x.name e.name ≡ true) (sym at) (nat_list_eq_equiv.refl x.name) in
    let left : filter (is_apart x) (y ∷ ys) ≡ ys = rw itself (none_removed x ys none) in
    let whole : y ∷ ys ≡ x ∷ filter (is_apart x) (y ∷ ys) = ap (λ (e : Entry). e ∷ ys) at ∙ ap (λ rest. x ∷ rest) (sym left) in
    subst (IsPermutation (y ∷ ys)) whole (IsPermutation-refl (y ∷ ys))
taken_out x (y ∷ ys) (suc k) once below at =
    let parts = false_of_or (list_any (λ other. same y.name other.name) ys) (has_name_twice ys) once in
    let other : same y.name x.name ≡ false = subst (λ (e : Entry). same y.name e.name ≡ false) at (none_at (λ other. same y.name other.name) ys k x parts.0 (omega (arith, below))) in
    let apart : same x.name y.name ≡ false = same_turned x.name y.name ∙ other in
    let rest = taken_out x ys k parts.1 (omega (arith, below)) at in
    let there : IsPermutation (y ∷ ys) (x ∷ y ∷ filter (is_apart x) ys) =
    IsPermutation-trans _ _ _ (IsPermutation-cons y ys (x ∷ filter (is_apart x) ys) rest) (IsPermutation-middle (y ∷ []) x (filter (is_apart x) ys)) in
    let left : filter (is_apart x) (y ∷ ys) ≡ y ∷ filter (is_apart x) ys = rw apart refl in
    rw left there

-- a filter by two tests
both_filters : (keep : Entry → Bool) (x : Entry) (pool : List Entry) → filter (is_apart x) (filter (λ e. not (keep e)) pool) ≡ filter (λ e. not (same x.name e.name || keep e)) pool
both_filters keep x [] = refl
both_filters keep x (y ∷ ys) =
    let rest = both_filters keep x ys in
    let go : (a b : Bool) → same x.name y.name ≡ a → filter (is_apart x) (if not b then y ∷ filter (λ e. not (keep e)) ys else filter (λ e. not (keep e)) ys)
    ≡ (if not (a || b) then y ∷ filter (λ e. not (same x.name e.name || keep e)) ys else filter (λ e. not (same x.name e.name || keep e)) ys) =
    λ a b. elim b as (λ b. same x.name y.name ≡ a → filter (is_apart x) (if not b then y ∷ filter (λ e. not (keep e)) ys else filter (λ e. not (keep e)) ys)
    ≡ (if not (a || b) then y ∷ filter (λ e. not (same x.name e.name || keep e)) ys else filter (λ e. not (same x.name e.name || keep e)) ys)) [
      | true ↦ elim a as (λ a. same x.name y.name ≡ a → filter (is_apart x) (filter (λ e. not (keep e)) ys)
          ≡ (if not (a || true) then y ∷ filter (λ e. not (same x.name e.name || keep e)) ys else filter (λ e. not (same x.name e.name || keep e)) ys)) [ true ↦ λ e. rest | false ↦ λ e. rest ]
      | false ↦ elim a as (λ a. same x.name y.name ≡ a → filter (is_apart x) (y ∷ filter (λ e. not (keep e)) ys)
          ≡ (if not (a || false) then y ∷ filter (λ e. not (same x.name e.name || keep e)) ys else filter (λ e. not (same x.name e.name || keep e)) ys)) [
            | true ↦ λ e. rw e rest
            | false ↦ λ e. rw e (ap (λ more. y ∷ more) rest)
          ]
    ] in
    go (same x.name y.name) (keep y) refl

all_kept : (pool : List Entry) → filter (λ (e : Entry). true) pool ≡ pool
all_kept [] = refl
all_kept (x ∷ xs) = ap (λ more. x ∷ more) (all_kept xs)

-- an entry that passes a filter stands in what it keeps
kept_place : (keep : Entry → Bool) (x : Entry) (xs : List Entry) (k : ℕ) → keep x ≡ true → k < length xs → get_or xs k x ≡ x → Contains (filter keep xs) x
kept_place keep x [] k h below at = absurd (omega (arith, below))
kept_place keep x (y ∷ ys) zero h below at =
    let passes : keep y ≡ true = subst (λ (e : Entry). keep e ≡ true) (sym at) h in
    let whole : filter keep (y ∷ ys) ≡ y ∷ filter keep ys = rw passes refl in
    subst (λ list. Contains list x) (sym whole) (0, omega arith, at)
kept_place keep x (y ∷ ys) (suc k) h below at =
    let rest = kept_place keep x ys k h (omega (arith, below)) at in
    let go : (b : Bool) → Contains (if b then y ∷ filter keep ys else filter keep ys) x =
    λ b. elim b as (λ b. Contains (if b then y ∷ filter keep ys else filter keep ys) x) [
      | true ↦ (suc rest.0, omega (arith, rest.1), rest.2)
      | false ↦ rest
    ] in
    go (keep y)

turned_any : (x : Entry) (xs : List Entry) → has_name x.name xs ≡ list_any (λ other. same x.name other.name) xs
turned_any x [] = refl
turned_any x (y ∷ ys) = ap (λ b. b || has_name x.name ys) (same_turned y.name x.name) ∙ ap (λ b. same x.name y.name || b) (turned_any x ys)

-- a list without a name twice, and the others of a pool that it is taken from
drawn : (pool xs : List Entry) → has_name_twice pool ≡ false → has_name_twice xs ≡ false → AllByRecursion (Contains pool) xs
    → IsPermutation pool (xs ++ filter (λ entry. not (has_name entry.name xs)) pool)
drawn pool [] once apart all = subst (IsPermutation pool) (sym (all_kept pool)) (IsPermutation-refl pool)
drawn pool (x ∷ xs) once apart all =
    let parts = false_of_or (list_any (λ other. same x.name other.name) xs) (has_name_twice xs) apart in
    let rest = drawn pool xs once parts.1 all.1 in
    let free : has_name x.name xs ≡ false = turned_any x xs ∙ parts.0 in
    let found = kept_place (λ entry. not (has_name entry.name xs)) x pool all.0.0 (ap not free) all.0.1 all.0.2 in
    let out = taken_out x (filter (λ entry. not (has_name entry.name xs)) pool) found.0 (filter_once (λ entry. not (has_name entry.name xs)) pool once) found.1 found.2 in
    let left = both_filters (λ entry. has_name entry.name xs) x pool in
    let out' : IsPermutation (filter (λ entry. not (has_name entry.name xs)) pool) (x ∷ filter (λ entry. not (has_name entry.name (x ∷ xs))) pool) = rw left at out in
    IsPermutation-trans _ _ _ rest
    (IsPermutation-trans _ _ _ (IsPermutation-append_right xs _ _ out') (IsPermutation-middle xs x (filter (λ entry. not (has_name entry.name (x ∷ xs))) pool)))

-- the first head
pub head_found : (test : Entry → Bool) (xs : List Entry) (head : Entry) (rest : List Entry) → filter test xs ≡ head ∷ rest → find test xs ≡ Some head
head_found test [] head rest h = absurd (let bad : [] ≡ head ∷ rest = h in cc)
head_found test (x ∷ xs) head rest h =
    let go : (b : Bool) → (if b then x ∷ filter test xs else filter test xs) ≡ head ∷ rest → cond b (Some x) (find test xs) ≡ Some head =
    λ b. elim b as (λ b. (if b then x ∷ filter test xs else filter test xs) ≡ head ∷ rest → cond b (Some x) (find test xs) ≡ Some head) [
      | true ↦ λ e. let one : x ≡ head = cc in ap Some one
      | false ↦ λ e. head_found test xs head rest e
    ] in
    go (test x) h

pub main_chain_is : (entries : List Entry) (head : Entry) → heads entries ≡ head ∷ [] → main_chain entries ≡ chain entries head
unfolding main_chain
main_chain_is entries head h = ap (λ (found : Option Entry). option_map_or (chain entries) found []) (head_found (is_head entries) entries head [] h)

-- the chain and the others
pub split_permutes : (entries : List Entry) (head : Entry) → heads entries ≡ head ∷ [] → has_name_twice entries ≡ false → has_name_twice (chain entries head) ≡ false
    → IsPermutation entries (main_chain entries ++ off_chain entries)
split_permutes entries head h once straight =
    let whole = main_chain_is entries head h in
    drawn entries (main_chain entries) once (ap has_name_twice whole ∙ straight) (recursion_from_All (Contains entries) (main_chain entries) (main_chain_all (Contains entries) entries (All-contains_itself entries)))

in_order_permutes : (bundles : List Bundle) (channel : Channel) (head : Entry) → heads channel.entries ≡ head ∷ [] → has_name_twice channel.entries ≡ false
    → has_name_twice (chain channel.entries head) ≡ false → IsPermutation channel.entries (in_order bundles channel)
unfolding in_order
in_order_permutes bundles channel head h once straight =
    IsPermutation-trans _ _ _ (split_permutes channel.entries head h once straight)
    (IsPermutation-append_right (main_chain channel.entries) _ _ (sorted_permutes (is_before bundles channel.«package») (off_chain channel.entries)))

pub orders_list_all : ChannelsHaveChains → EntriesAreBundles → OrdersListAll
orders_list_all chains listed catalog valid k d below =
    let one = chains catalog valid k d below in
    let once = (listed catalog valid k d below).0 in
    in_order_permutes catalog.bundles _ one.0 one.1 once one.2

chain_begins : (entries : List Entry) (head : Entry) → (rest : List Entry) × (chain entries head ≡ head ∷ rest)
unfolding chain
chain_begins entries head = (chain_from (length entries) entries (replaced_by entries head), refl)

begins : (bundles : List Bundle) (channel : Channel) (head : Entry) → heads channel.entries ≡ head ∷ [] → (rest : List Entry) × (in_order bundles channel ≡ head ∷ rest)
unfolding in_order
begins bundles channel head h =
    let more = chain_begins channel.entries head in (
      more.0 ++ sorted (is_before bundles channel.«package») (off_chain channel.entries),
      ap (λ front. front ++ sorted (is_before bundles channel.«package») (off_chain channel.entries)) (main_chain_is channel.entries head h ∙ more.1),
    )

pub heads_come_first : ChannelsHaveChains → HeadsComeFirst
heads_come_first chains catalog valid k d below =
    let one = chains catalog valid k d below in
    let more = begins catalog.bundles _ one.0 one.1 in
    (one.0, more.0, one.1, more.1)
