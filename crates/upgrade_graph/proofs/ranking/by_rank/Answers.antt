use Rattle.std.proofs.Common.{◌≡◌, Bool, List, map, rules, ap, ◌∙◌, subst}
use Rattle.std.specs.Result.{IfOk}
use Rattle.std.specs.Ordering.{is_lt}
use Rattle.std.proofs.lemmas.List.Sorted.{answers_always, ranks_by}
use Rattle.fbc_types.specs.declared.catalog.Entry.{Entry}
use Rattle.upgrade_graph.specs.Order.{is_before, rank_cmp}
use Rattle.upgrade_graph.specs.Ranks.{IsRanked, rank_of, stands_for}
use Rattle.upgrade_graph.specs.Sorting.{sorted}
use Rattle.upgrade_graph.specs.declared.ranking.Ranked.{Ranked}
use Rattle.upgrade_graph.proofs.Ranked.{compares_same, rank_total}
use Rattle.upgrade_graph.proofs.Sorts.{sorted_is, sorted_stands}
use Rattle.upgrade_graph.proofs.ranking.by_rank.Goals as goal

abbrev before : Ranked → Ranked → Bool
before a b = is_lt (rank_cmp (rank_of a) (rank_of b))

pub returns : goal.returns
returns c =
    let weak = ranks_by (rank_total c.precedence_law.ensures.total) rank_of in
    let once =
    sorted_is before weak c.in_ok-ranked.ranked.items c.sort_by.new.self.items
    (c.in_ok-sort_by.ensures.sorted before weak (answers_always _ _ _ (λ f a r g h. search rules)))
    (c.in_ok-sort_by.ensures.stable before weak (answers_always _ _ _ (λ f a r g h. search rules))) in
    let stands =
    sorted_stands before (is_before c.args.bundles.now c.args.owner.now) stands_for (IsRanked c.args.bundles.now c.args.owner.now)
    (compares_same c.args.bundles.now c.args.owner.now) c.in_ok-ranked.ranked.items c.in_ok-ranked.ensures.ranks in
    let all = ap (map stands_for) c.as_slice.ensures.value ∙ ap (map stands_for) once ∙ stands ∙ ap (sorted (is_before c.args.bundles.now c.args.owner.now)) c.in_ok-ranked.ensures.same in
    subst (λ (wanted : List Entry). IfOk c.entries_of.result (λ found. map (λ entry. entry.now) found.items ≡ wanted)) all c.entries_of.ensures
