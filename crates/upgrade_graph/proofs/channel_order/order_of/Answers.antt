use Rattle.std.proofs.Common.{◌≡◌, ℕ, List, map, sym, ap, ◌∙◌, subst}
use Rattle.std.specs.Borrow.{Bor}
use Rattle.std.specs.Result.{IfOk}
use Rattle.std.proofs.lemmas.Simd.{map-map}
use Rattle.fbc_types.specs.declared.catalog.Entry.{Entry}
use Rattle.upgrade_graph.specs.Order.{names}
use Rattle.upgrade_graph.proofs.channel_order.order_of.Goals as goal

pub returns : goal.returns
returns c =
    let seen : map (λ (entry : Bor Entry). entry.now.name) c.as_slice.result.now ≡ names (map (λ entry. entry.now) c.as_slice.result.now) =
    sym (map-map (λ (entry : Entry). entry.name) (λ (entry : Bor Entry). entry.now) c.as_slice.result.now) in
    let all = seen ∙ ap (λ list. names (map (λ (entry : Bor Entry). entry.now) list)) c.as_slice.ensures.value ∙ ap names c.in_ok-entries.ensures in
    subst (λ (wanted : List (List ℕ)). IfOk c.names_of.result (λ found. found ≡ wanted)) all c.names_of.ensures
