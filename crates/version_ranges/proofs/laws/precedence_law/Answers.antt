use Rattle.std.specs.Cmp.{nat_cmp_total, on_total, then_total}
use Rattle.semver.specs.OrderLaws.{pre_total}
use Rattle.semver.specs.Parse.{Parts}
use Rattle.version_ranges.proofs.laws.precedence_law.Goals as goal

pub returns-clause-total : goal.returns-clause-total
returns-clause-total c =
    then_total (on_total (λ (v : Parts). v.0) nat_cmp_total) (then_total (on_total (λ (v : Parts). v.1) nat_cmp_total)
    (then_total (on_total (λ (v : Parts). v.2) nat_cmp_total) (on_total (λ (v : Parts). v.3) pre_total)))
