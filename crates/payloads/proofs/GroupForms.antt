-- The statuses of strategies, groups, claims and leases have forms.
use Rattle.std.proofs.Common.{refl}
use Rattle.payloads.specs.Laws.{IsForm}
use Rattle.payloads.specs.Groups.{strategy_form, group_form, claim_form, claims_form, lease_form}
use Rattle.payloads.proofs.Combinators.{pair_is_form, seen_as_is_form, option_is_form}
use Rattle.payloads.proofs.Leaves.{number_is_form, short_is_form, truth_is_form, name_is_form, list_is_form}
use Rattle.payloads.proofs.KeyForms.{gvk_is_form}

pub strategy_is_form : IsForm strategy_form
unfolding strategy_form
strategy_is_form = seen_as_is_form _ _ (λ y. refl) (λ x. refl) truth_is_form

pub group_is_form : IsForm group_form
unfolding group_form
group_is_form = seen_as_is_form _ _ (λ y. refl) (λ x. refl) (option_is_form (list_is_form name_is_form))

pub claim_is_form : IsForm claim_form
unfolding claim_form
claim_is_form = seen_as_is_form _ _ (λ y. refl) (λ x. refl) (pair_is_form gvk_is_form (pair_is_form name_is_form (option_is_form (list_is_form name_is_form))))

pub claims_is_form : IsForm claims_form
unfolding claims_form
claims_is_form = seen_as_is_form _ _ (λ y. refl) (λ x. refl) (list_is_form claim_is_form)

pub lease_is_form : IsForm lease_form
unfolding lease_form
lease_is_form = seen_as_is_form _ _ (λ y. refl) (λ x. refl) (pair_is_form number_is_form (pair_is_form short_is_form number_is_form))
