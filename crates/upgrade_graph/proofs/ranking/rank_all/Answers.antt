use Rattle.semver.specs.Parse.{Parts}
use Rattle.upgrade_graph.proofs.Keyed.{version_under}
use Rattle.std.proofs.Common.{Option, ◌∙◌, sym, subst, refl}
use Rattle.std.specs.Borrow.{Bor}
use Rattle.std.specs.Option.{IsSome}
use Rattle.fbc_types.specs.declared.catalog.Entry.{Entry}
use Rattle.upgrade_graph.specs.Order.{version_named}
use Rattle.upgrade_graph.specs.Ranks.{IsRanked, stands_for}
use Rattle.upgrade_graph.proofs.Ranked.{seen_step, all_step}
use Rattle.upgrade_graph.proofs.ranking.rank_all.Goals as goal

pub version_named-requires : goal.version_named-requires
version_named-requires c =
    let there =
    subst (λ (e : Bor Entry). IsSome (version_named c.args.bundles.now c.args.owner.now e.now.name)) (sym c.entry-item.is)
    (c.requires c.loop-entry.entry-index c.entry-item.result c.loop-entry-test.true) in
    subst (λ (o : Option Parts). IsSome o) (version_under c.args.bundles.now c.args.owner.now c.in_ok-table.table.entries c.in_ok-table.ensures c.entry-item.result.now.name) there

pub loop-entry-preserved : goal.loop-entry-preserved
loop-entry-preserved c = record {
  same = seen_step (λ (e : Bor Entry). e.now) stands_for c.loop-entry.ranked.items c.push.new.self.items c.args.entries.now c.loop-entry.entry-index c.entry-item.result _ c.loop-entry-test.true c.entry-item.is c.in_ok-push.ensures.items refl c.loop-entry.invariant.same;
  ranks = all_step (IsRanked c.args.bundles.now c.args.owner.now) c.loop-entry.ranked.items c.push.new.self.items _ c.in_ok-push.ensures.items c.loop-entry.invariant.ranks (version_under c.args.bundles.now c.args.owner.now c.in_ok-table.table.entries c.in_ok-table.ensures c.entry-item.result.now.name ∙ c.in_ok-version.ensures);
}
