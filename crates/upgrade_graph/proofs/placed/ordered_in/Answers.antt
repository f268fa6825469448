use Rattle.std.proofs.Common.{◌≡◌, true, sym, ◌∙◌, ap, map, subst}
use Rattle.std.specs.Borrow.{Bor}
use Rattle.std.specs.List.{All}
use Rattle.std.specs.Option.{option_map_or}
use Rattle.fbc_types.specs.Texts.{is_range}
use Rattle.fbc_types.specs.declared.catalog.Entry.{Entry}
use Rattle.upgrade_graph.proofs.Lists.{all_seen}
use Rattle.upgrade_graph.proofs.Ordered.{in_order_all}
use Rattle.upgrade_graph.proofs.placed.ordered_in.Goals as goal

abbrev HasRange : Entry → Type 0
HasRange entry = option_map_or is_range entry.skip_range true ≡ true

pub place_all-requires : goal.place_all-requires
place_all-requires c =
    let same = ap (map (λ (entry : Bor Entry). entry.now)) c.as_slice.ensures.value ∙ c.in_ok-entries.ensures in
    all_seen HasRange (λ (entry : Bor Entry). entry.now) c.as_slice.result.now
    (subst (All HasRange) (sym same) (in_order_all HasRange c.args.bundles.now c.args.channel.now c.requires.ranges))
