-- The chain of a channel's head, as it is followed.
use Rattle.std.proofs.Common.{◌≡◌, ℕ, zero, suc, ◌-◌, ◌+◌, ◌<◌, ◌≤◌, List, [], ◌∷◌, ◌++◌, length, map, Option, Some, None, refl, sym, ap, ◌∙◌, arith, append_assoc}
use Rattle.std.specs.Borrow.{Bor}
use Rattle.std.specs.List.{find}
use Rattle.std.specs.Option.{option_copied, option_map_or}
use Rattle.std.proofs.lemmas.List.{append-nil, map-append}
use Rattle.fbc_types.specs.Channels.{is_head, chain, chain_from, replaced_by}
use Rattle.fbc_types.specs.declared.catalog.Entry.{Entry}
use Rattle.upgrade_graph.specs.Order.{main_chain}

by_head : (entries : List Entry) (head : Option Entry) → chain_from (suc (length entries)) entries head ≡ option_map_or (chain entries) head []
unfolding chain
by_head entries None = refl
by_head entries (Some head) = refl

-- at the head
pub chain_begun : (entries : List Entry) → chain_from (suc (length entries)) entries (find (is_head entries) entries) ≡ main_chain entries
unfolding main_chain
chain_begun entries = by_head entries (find (is_head entries) entries)

-- where nothing follows
pub chain_ended : (steps : ℕ) (entries : List Entry) → chain_from steps entries None ≡ []
chain_ended zero entries = refl
chain_ended (suc steps) entries = refl

abbrev seen : List (Bor Entry) → List Entry
seen found = map (λ entry. entry.now) found

-- before the first step
pub chain_first : (entries : List Entry) (found : List (Bor Entry)) (next : Option Entry) → found ≡ [] → next ≡ find (is_head entries) entries
    → seen found ++ chain_from (suc (length entries) - 0) entries next ≡ main_chain entries
chain_first entries found next none head =
    let none' : seen found ≡ [] = ap seen none in
    let all : suc (length entries) - 0 ≡ suc (length entries) = omega arith in
    rw (none', all, head) (chain_begun entries)

-- one step
pub chain_step : (steps k : ℕ) (entries whole : List Entry) (found more : List (Bor Entry)) (next : Option (Bor Entry)) (entry : Bor Entry) (after : Option Entry)
    → k < steps → next ≡ Some entry → more ≡ found ++ entry ∷ [] → after ≡ replaced_by entries entry.now
    → seen found ++ chain_from (steps - k) entries (option_copied next) ≡ whole
    → seen more ++ chain_from (steps - (k + 1)) entries after ≡ whole
chain_step steps k entries whole found more next entry after below at pushed then so =
    let left : steps - k ≡ suc (steps - (k + 1)) = omega arith in
    let now : seen found ++ entry.now ∷ chain_from (steps - (k + 1)) entries (replaced_by entries entry.now) ≡ whole = rw (left, at) at so in
    let both : seen (found ++ entry ∷ []) ≡ seen found ++ entry.now ∷ [] = map-append (λ (e : Bor Entry). e.now) found (entry ∷ []) in
    rw (pushed, both, append_assoc, then) now

-- where the steps have ended
pub chain_whole : (steps k : ℕ) (entries whole : List Entry) (found : List (Bor Entry)) (next : Option Entry) → steps ≤ k
    → seen found ++ chain_from (steps - k) entries next ≡ whole → seen found ≡ whole
chain_whole steps k entries whole found next above so =
    let none : steps - k ≡ 0 = omega arith in
    sym (append-nil (seen found)) ∙ (rw none at so)

-- where nothing follows
pub chain_done : (steps : ℕ) (entries whole : List Entry) (found : List (Bor Entry)) (next : Option (Bor Entry)) → next ≡ None
    → seen found ++ chain_from steps entries (option_copied next) ≡ whole → seen found ≡ whole
chain_done steps entries whole found next none so =
    let so' : seen found ++ [] ≡ whole = rw (none, chain_ended) at so in
    sym (append-nil (seen found)) ∙ so'
