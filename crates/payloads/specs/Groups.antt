-- How the statuses of strategies, groups, claims and leases are spelled.
use Rattle.payloads.specs.Form.{Form, ◌⊗◌, seen_as, number_form, short_form, truth_form, name_form, list_form, option_form}
use Rattle.payloads.specs.Keys.{gvk_form}
use Rattle.cluster_objects.specs.declared.groups.StrategyStatus.{StrategyStatus}
use Rattle.cluster_objects.specs.declared.groups.GroupStatus.{GroupStatus}
use Rattle.cluster_objects.specs.declared.groups.Claim.{Claim}
use Rattle.cluster_objects.specs.declared.groups.ClaimsStatus.{ClaimsStatus}
use Rattle.cluster_objects.specs.declared.groups.LeaseStatus.{LeaseStatus}

unfoldable pub strategy_form : Form StrategyStatus
strategy_form = seen_as truth_form (λ b. record { forward = b }) (λ s. s.forward)

unfoldable pub group_form : Form GroupStatus
group_form = seen_as (option_form (list_form name_form)) (λ t. record { targets = t }) (λ s. s.targets)

unfoldable pub claim_form : Form Claim
claim_form = seen_as (gvk_form ⊗ name_form ⊗ option_form (list_form name_form))
    (λ p. record { kind = p.0; namespace = p.1.0; targets = p.1.1 })
    (λ c. (c.kind, (c.namespace, c.targets)))

unfoldable pub claims_form : Form ClaimsStatus
claims_form = seen_as (list_form claim_form) (λ e. record { entries = e }) (λ s. s.entries)

unfoldable pub lease_form : Form LeaseStatus
lease_form = seen_as (number_form ⊗ short_form ⊗ number_form)
    (λ p. record { term = p.0; holder = p.1.0; until = p.1.1 })
    (λ s. (s.term, (s.holder, s.until)))
