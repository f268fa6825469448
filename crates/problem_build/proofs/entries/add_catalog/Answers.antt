use Rattle.std.proofs.Common.{◌≡◌, ◌++◌, ◌∙◌, ap, map, List, subst}
use Rattle.std.specs.Borrow.{Bor}
use Rattle.std.specs.List.{flat_map}
use Rattle.std.specs.Result.{OnOk}
use Rattle.fbc_types.specs.declared.catalog.Channel.{Channel}
use Rattle.problem_build.specs.Entries as spec
use Rattle.problem_build.specs.Shown.{shown_entry}
use Rattle.problem_build.proofs.Lists.{flat_map_seen}
use Rattle.problem_build.proofs.entries.add_catalog.Goals as goal

pub returns : goal.returns
returns c =
    let f = spec.channel_entries c.args.seen.now c.args.catalog.now in
    let all : flat_map (λ (x : Bor Channel). f x.now) c.as_slice.result.now ≡ spec.catalog_entries c.args.seen.now c.args.catalog.now =
    ap (flat_map (λ (x : Bor Channel). f x.now)) c.as_slice.ensures.value ∙ flat_map_seen (λ (x : Bor Channel). x.now) f c.in_ok-channels.channels.items ∙ ap (flat_map f) (c.in_ok-channels.ensures ∙ ap spec.channels_in_order c.catalog.ensures.catalog) in
    subst (λ (l : List spec.Entry). OnOk c.add_channels.result (map shown_entry c.add_channels.new.found.items ≡ map shown_entry c.args.found.now.items ++ l)) all c.add_channels.ensures
