-- Entries ranked one by one, and their order.
use Rattle.std.proofs.Common.{◌≡◌, ◌+◌, ◌<◌, ℕ, List, [], ◌∷◌, ◌++◌, length, get_or, take, map, sym, ap, ◌∙◌, subst, refl}
use Rattle.std.specs.Cmp.{IsTotalOrder, back_total, on_total, then_total}
use Rattle.std.specs.List.{All}
use Rattle.std.specs.Ordering.{is_lt}
use Rattle.std.specs.Option.{unwrap_or}
use Rattle.std.proofs.lemmas.Cmp.{nat_list_cmp_total}
use Rattle.std.proofs.lemmas.List.{map-append, map_more}
use Rattle.std.proofs.lemmas.List.Elements.{All-push}
use Rattle.version_ranges.specs.Versions.{precedence, release}
use Rattle.fbc_types.specs.declared.catalog.Bundle.{Bundle}
use Rattle.upgrade_graph.specs.Order.{Rank, in_order, is_before, off_chain, rank, rank_cmp}
use Rattle.upgrade_graph.specs.Laws.{OthersAreSorted}
use Rattle.upgrade_graph.specs.Sorting.{sorted}
use Rattle.std.proofs.lemmas.List.Sorted.{ranks_by}
use Rattle.upgrade_graph.proofs.Sorts.{sorted_permutes, sorted_up}
use Rattle.upgrade_graph.specs.Ranks.{IsRanked, rank_of, stands_for}
use Rattle.upgrade_graph.specs.declared.ranking.Ranked.{Ranked}

pub seen_step : {A B C : Type 0} (see : A → C) (stands : B → C) (kept more : List B) (from : List A) (i : ℕ) (x : A) (item : B)
    → i < length from → x ≡ get_or from i x → more ≡ kept ++ item ∷ [] → stands item ≡ see x
    → map stands kept ≡ map see (take i from) → map stands more ≡ map see (take (i + 1) from)
seen_step see stands kept more from i x item below at pushed same so =
    let grown : map see (take (i + 1) from) ≡ map see (take i from) ++ see (get_or from i x) ∷ [] = map_more see from i x below in
    let last : see (get_or from i x) ≡ stands item = ap see (sym at) ∙ sym same in
    let put : map stands (kept ++ item ∷ []) ≡ map stands kept ++ stands item ∷ [] = map-append stands kept (item ∷ []) in
    ap (map stands) pushed ∙ put ∙ ap (λ front. front ++ stands item ∷ []) so ∙ sym (grown ∙ ap (λ e. map see (take i from) ++ e ∷ []) last)

pub all_step : {B : Type 0} (P : B → Type 0) (kept more : List B) (item : B) → more ≡ kept ++ item ∷ [] → All P kept → P item → All P more
all_step P kept more item pushed all one = subst (All P) (sym pushed) (All-push P kept item all one)

-- ranks are in a total order
pub rank_total : IsTotalOrder precedence → IsTotalOrder rank_cmp
rank_total total = then_total (on_total (λ (r : Rank). r.version) (back_total total)) (on_total (λ (r : Rank). r.name) nat_list_cmp_total)

-- a ranked entry has the entry's rank
rank_same : (bundles : List Bundle) (owner : List ℕ) (a : Ranked) → IsRanked bundles owner a → rank_of a ≡ rank bundles owner (stands_for a)
rank_same bundles owner a h = ap (λ v. record { version = unwrap_or v (release 0 0 0); name = (stands_for a).name }) (sym h)

pub compares_same : (bundles : List Bundle) (owner : List ℕ) (a b : Ranked) → IsRanked bundles owner a → IsRanked bundles owner b
    → is_lt (rank_cmp (rank_of a) (rank_of b)) ≡ is_before bundles owner (stands_for a) (stands_for b)
compares_same bundles owner a b h k =
    ap (λ r. is_lt (rank_cmp r (rank_of b))) (rank_same bundles owner a h)
    ∙ ap (λ r. is_lt (rank_cmp (rank bundles owner (stands_for a)) r)) (rank_same bundles owner b k)

pub others_are_sorted : IsTotalOrder precedence → OthersAreSorted
unfolding in_order
others_are_sorted total catalog channel = (
  sorted (is_before catalog.bundles channel.«package») (off_chain channel.entries),
  refl,
  sorted_permutes (is_before catalog.bundles channel.«package») (off_chain channel.entries),
  sorted_up (is_before catalog.bundles channel.«package») (ranks_by (rank_total total) (rank catalog.bundles channel.«package»)) (off_chain channel.entries),
)
