use Rattle.std.proofs.Common.{◌≡◌, ◌++◌, drop}
use Rattle.std.specs.List.{filter_map}
use Rattle.view_basis.specs.Basis.{subscription_in}
use Rattle.view_basis.proofs.basis.subscriptions_of.Given as goal

abbrev pub invariant-slots : goal.invariant-slots
invariant-slots l =
    l.subscriptions ++ filter_map (subscription_in l.view.namespace) (drop l.entry-index l.entry-items)
    ≡ filter_map (subscription_in l.view.namespace) l.entry-items
