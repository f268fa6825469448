use Rattle.std.proofs.Common.{◌≡◌, suc, ◌-◌, ◌++◌, length, map}
use Rattle.std.specs.Option.{option_copied}
use Rattle.fbc_types.specs.Channels.{chain_from}
use Rattle.upgrade_graph.specs.Order.{main_chain}
use Rattle.upgrade_graph.proofs.chain.main_chain.Given as goal

abbrev pub invariant-loop-step : goal.invariant-loop-step
invariant-loop-step l =
    map (λ entry. entry.now) l.found.items ++ chain_from (suc (length l.entries) - l._step) l.entries (option_copied l.next)
    ≡ main_chain l.entries
