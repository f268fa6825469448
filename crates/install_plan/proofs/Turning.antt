-- The order of turned steps is total.
use Rattle.std.specs.Cmp.{IsStrictWeakOrder, IsTotalOrder, nat_cmp_total, on_total, then_total}
use Rattle.std.proofs.lemmas.List.Sorted.{ranks_by}
use Rattle.cluster_objects.proofs.Ordering.{keys_total}
use Rattle.install_plan.specs.Plans.{is_before, turn_number, turned_cmp}
use Rattle.install_plan.specs.declared.turns.Turned.{Turned}

turned_total : IsTotalOrder turned_cmp
turned_total = then_total (on_total (λ (one : Turned). turn_number one.turn) nat_cmp_total) (on_total (λ (one : Turned). one.step.key) keys_total)

pub weak : IsStrictWeakOrder is_before
weak = ranks_by turned_total (λ (one : Turned). one)
