use Rattle.std.proofs.Common.{◌≡◌, true, sym, subst, refl}
use Rattle.std.specs.Borrow.{Bor}
use Rattle.std.specs.Option.{option_map_or}
use Rattle.fbc_types.specs.Texts.{is_range}
use Rattle.fbc_types.specs.declared.catalog.Entry.{Entry}
use Rattle.upgrade_graph.specs.Placed.{IsPlaced, entry_of}
use Rattle.upgrade_graph.proofs.Ranked.{seen_step, all_step}
use Rattle.upgrade_graph.proofs.placed.place_all.Goals as goal

pub range_of-requires : goal.range_of-requires
range_of-requires c =
    subst (λ (e : Bor Entry). option_map_or is_range e.now.skip_range true ≡ true) (sym c.entry-item.is)
    (c.requires c.loop-entry.entry-index c.entry-item.result c.loop-entry-test.true)

pub loop-entry-preserved : goal.loop-entry-preserved
loop-entry-preserved c = record {
  same = seen_step (λ (e : Bor Entry). e.now) entry_of c.loop-entry.placed.items c.push.new.self.items c.args.entries.now c.loop-entry.entry-index c.entry-item.result _ c.loop-entry-test.true c.entry-item.is c.in_ok-push.ensures.items refl c.loop-entry.invariant.same;
  ranges = all_step IsPlaced c.loop-entry.placed.items c.push.new.self.items _ c.in_ok-push.ensures.items c.loop-entry.invariant.ranges c.in_ok-range.ensures;
}
