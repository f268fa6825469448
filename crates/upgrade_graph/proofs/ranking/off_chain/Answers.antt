use Rattle.std.proofs.Common.{Bool, not, refl, sym, ap, ◌∙◌}
use Rattle.std.specs.Borrow.{Bor}
use Rattle.std.specs.List.{list_any}
use Rattle.fbc_types.specs.Texts.{same}
use Rattle.fbc_types.specs.declared.catalog.Entry.{Entry}
use Rattle.std.proofs.Common.{List}
use Rattle.upgrade_graph.proofs.Lists.{filter_kept, filter_passed}
use Rattle.upgrade_graph.proofs.ranking.off_chain.Goals as goal

abbrev is_off : List (Bor Entry) → Entry → Bool
is_off chain entry = not (list_any (λ (link : Bor Entry). same link.now.name entry.name) chain)

pub loop-entry-preserved-then-contains : goal.loop-entry-preserved-then-contains
loop-entry-preserved-then-contains c =
    filter_passed (is_off c.args.chain.now) c.args.entries.now c.loop-entry.entry-index c.entry-item.result c.loop-entry-test.true c.entry-item.is _ (ap not (sym (c.in_ok-on_chain.ensures c.entry-item.result.name) ∙ sym c.contains.ensures ∙ c.if-contains.true)) c.loop-entry.invariant

pub loop-entry-preserved : goal.loop-entry-preserved
loop-entry-preserved c =
    filter_kept (is_off c.args.chain.now) c.args.entries.now c.loop-entry.entry-index c.entry-item.result c.loop-entry-test.true c.entry-item.is c.loop-entry.others.items c.push.new.self.items _ (ap not (sym (c.in_ok-on_chain.ensures c.entry-item.result.name) ∙ sym c.contains.ensures ∙ c.if-contains.false)) refl c.in_ok-push.ensures.items c.loop-entry.invariant
