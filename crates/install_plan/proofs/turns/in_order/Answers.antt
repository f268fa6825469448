use Rattle.std.proofs.Common.{rules}
use Rattle.std.proofs.lemmas.List.Sorted.{answers_always, ranks_by}
use Rattle.install_plan.specs.Plans.{is_before}
use Rattle.install_plan.proofs.Turning.{weak}
use Rattle.upgrade_graph.proofs.Sorts.{sorted_is}
use Rattle.install_plan.proofs.turns.in_order.Goals as goal

pub returns : goal.returns
returns c =
    sorted_is is_before weak c.args.turned.items c.sort_by.new.self.items
    (c.in_ok-sort_by.ensures.sorted is_before weak (answers_always _ _ _ (λ f a r g h. search rules)))
    (c.in_ok-sort_by.ensures.stable is_before weak (answers_always _ _ _ (λ f a r g h. search rules)))
