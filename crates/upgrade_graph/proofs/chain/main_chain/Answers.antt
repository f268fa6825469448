use Rattle.std.proofs.Common.{suc, length, arith, refl, ◌∙◌}
use Rattle.std.specs.Option.{option_copied}
use Rattle.upgrade_graph.proofs.Keyed.{replaced_under}
use Rattle.upgrade_graph.proofs.Chains.{chain_first, chain_step}
use Rattle.upgrade_graph.proofs.chain.main_chain.Goals as goal

pub loop-step-init : goal.loop-step-init
loop-step-init c = chain_first _ _ _ c.new-found.ensures.items c.in_ok-next.ensures

pub loop-step-preserved : goal.loop-step-preserved
loop-step-preserved c =
    chain_step (suc (length c.args.entries.now)) c.loop-step._step c.args.entries.now _ c.loop-step.found.items c.push.new.self.items c.loop-step.next c.in-Some.entry (option_copied c.replaced_by-next.result) (omega arith) c.in-Some.is c.in_ok-push-in-Some.ensures.items (c.replaced_by-next.ensures ∙ replaced_under c.args.entries.now c.in_ok-table.table.entries c.in_ok-table.ensures c.in-Some.entry.now c.in-Some.entry.now.replaces refl) c.loop-step.invariant
