use Rattle.std.proofs.Common.{◌≡◌, ◌++◌, Bool, not, List, map, sym, ap, ◌∙◌, subst}
use Rattle.std.specs.Borrow.{Bor}
use Rattle.std.specs.List.{All, filter, list_any}
use Rattle.std.specs.Option.{IsSome}
use Rattle.std.proofs.lemmas.List.{map-append}
use Rattle.std.proofs.lemmas.List.Elements.{All-filter, filter_agree}
use Rattle.fbc_types.specs.Channels.{has_name}
use Rattle.fbc_types.specs.Texts.{same}
use Rattle.fbc_types.specs.declared.catalog.Entry.{Entry}
use Rattle.upgrade_graph.specs.Order.{in_order, is_before, main_chain, off_chain, version_named}
use Rattle.upgrade_graph.specs.Sorting.{sorted}
use Rattle.upgrade_graph.proofs.Lists.{all_seen, list_any_map}
use Rattle.upgrade_graph.proofs.channel_order.in_order.Goals as goal

abbrev seen : List (Bor Entry) → List Entry
seen entries = map (λ entry. entry.now) entries

abbrev is_off : List (Bor Entry) → Entry → Bool
is_off chain entry = not (list_any (λ (link : Bor Entry). same link.now.name entry.name) chain)

-- the others are those whose names aren't on the chain
others_off : (chain links others : List (Bor Entry)) (entries : List Entry) → links ≡ chain → seen chain ≡ main_chain entries
    → seen others ≡ filter (is_off links) entries → seen others ≡ off_chain entries
others_off chain links others entries same_links whole so =
    let each : (entry : Entry) → is_off links entry ≡ not (has_name entry.name (main_chain entries)) =
    λ entry. ap (λ list. is_off list entry) same_links
    ∙ ap not (sym (list_any_map (λ (other : Entry). same other.name entry.name) (λ (link : Bor Entry). link.now) chain) ∙ ap (has_name entry.name) whole) in
    so ∙ filter_agree (is_off links) (λ entry. not (has_name entry.name (main_chain entries))) each entries

pub by_rank-requires : goal.by_rank-requires
by_rank-requires c =
    let off = others_off c.in_ok-found.found.items c.as_slice-3.result.now c.in_ok-others.others.items c.args.channel.now.entries c.as_slice-3.ensures.value (c.in_ok-found.ensures ∙ ap main_chain c.as_slice.ensures) (c.in_ok-others.ensures ∙ ap (filter (is_off c.as_slice-3.result.now)) c.as_slice-2.ensures) in
    let HasVersion = λ (entry : Entry). IsSome (version_named c.args.bundles.now c.args.channel.now.«package» entry.name) in
    let kept = All-filter (λ entry. not (has_name entry.name (main_chain c.args.channel.now.entries))) HasVersion c.args.channel.now.entries c.requires in
    all_seen HasVersion (λ (entry : Bor Entry). entry.now) c.as_slice-4.result.now (subst (All HasVersion) (sym (ap seen c.as_slice-4.ensures.value ∙ off)) kept)

pub returns : goal.returns
unfolding in_order
returns c =
    let whole = c.in_ok-found.ensures ∙ ap main_chain c.as_slice.ensures in
    let off = others_off c.in_ok-found.found.items c.as_slice-3.result.now c.in_ok-others.others.items c.args.channel.now.entries c.as_slice-3.ensures.value whole (c.in_ok-others.ensures ∙ ap (filter (is_off c.as_slice-3.result.now)) c.as_slice-2.ensures) in
    let before = is_before c.args.bundles.now c.args.channel.now.«package» in
    ap seen c.in_ok-append.ensures.items
    ∙ map-append (λ (entry : Bor Entry). entry.now) c.in_ok-found.found.items c.in_ok-ranked.ranked.items
    ∙ ap (λ front. front ++ seen c.in_ok-ranked.ranked.items) whole
    ∙ ap (λ back. main_chain c.args.channel.now.entries ++ back) (c.in_ok-ranked.ensures ∙ ap (sorted before) (ap seen c.as_slice-4.ensures.value ∙ off))
