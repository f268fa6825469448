use Rattle.std.proofs.Common.{sym, ◌∙◌, subst}
use Rattle.semver.specs.Identifiers.{parts_of}
use Rattle.upgrade_graph.specs.Placed.{IsPlaced, entry_of}
use Rattle.upgrade_graph.proofs.Nearer.{upgrade_kept, upgrade_passed}
use Rattle.upgrade_graph.proofs.installed.upgrades_among.Goals as goal

pub takes_place-requires : goal.takes_place-requires
takes_place-requires c =
    subst IsPlaced (sym c.placed-item.is) (c.requires c.loop-placed.placed-index c.placed-item.result c.loop-placed-test.true)

pub loop-placed-preserved-then-not-takes_place : goal.loop-placed-preserved-then-not-takes_place
loop-placed-preserved-then-not-takes_place c =
    upgrade_passed entry_of c.args.name.now (parts_of c.args.version.now) c.args.entries.now c.loop-placed.placed-index c.placed-item.result c.loop-placed.found.items _ c.loop-placed-test.true c.placed-item.is (sym c.eq.ensures ∙ c.if-eq.false) (sym c.takes_place.ensures ∙ c.if-not-takes_place.true) c.loop-placed.invariant

pub loop-placed-preserved : goal.loop-placed-preserved
loop-placed-preserved c =
    upgrade_kept entry_of c.args.name.now (parts_of c.args.version.now) c.args.entries.now c.loop-placed.placed-index c.placed-item.result c.loop-placed.found.items c.push.new.self.items _ _ c.loop-placed-test.true c.placed-item.is (sym c.eq.ensures ∙ c.if-eq.false) (sym c.takes_place.ensures ∙ c.if-not-takes_place.false) c.in_ok-clone.ensures.cases c.in_ok-push.ensures.items c.loop-placed.invariant
