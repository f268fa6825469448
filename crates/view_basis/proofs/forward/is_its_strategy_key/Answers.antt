use Rattle.std.proofs.Common.{Bool, ◌&&◌, codes, sym, ap, ◌∙◌}
use Rattle.cluster_objects.specs.Keys.{same_text}
use Rattle.view_basis.proofs.Strategies.{parts_are_place}
use Rattle.view_basis.proofs.forward.is_its_strategy_key.Goals as goal

pub returns-then-is_strategy_key : goal.returns-then-is_strategy_key
returns-then-is_strategy_key c =
    let key = c.args.key.now in
    let namespace = c.args.namespace.now in
    c.is_called_strategy.ensures
    ∙ ap (λ (b : Bool). b && (same_text key.namespace namespace && same_text key.name (codes "strategy"))) (sym c.if-is_strategy_key.true ∙ c.is_strategy_key.ensures)
    ∙ parts_are_place namespace key

pub returns-else-is_strategy_key : goal.returns-else-is_strategy_key
returns-else-is_strategy_key c =
    let key = c.args.key.now in
    let namespace = c.args.namespace.now in
    c.if-is_strategy_key.false
    ∙ ap (λ (b : Bool). b && (same_text key.namespace namespace && same_text key.name (codes "strategy"))) (sym c.if-is_strategy_key.false ∙ c.is_strategy_key.ensures)
    ∙ parts_are_place namespace key
