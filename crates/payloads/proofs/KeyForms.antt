-- Keys, stamps and kinds have forms.
use Rattle.std.proofs.Common.{refl}
use Rattle.payloads.specs.Keys.{key_form, stamp_form, gvk_form}
use Rattle.payloads.specs.Laws.{IsForm}
use Rattle.payloads.proofs.Combinators.{pair_is_form, seen_as_is_form}
use Rattle.payloads.proofs.Leaves.{number_is_form, text_is_form, name_is_form}

pub key_is_form : IsForm key_form
unfolding key_form
key_is_form = seen_as_is_form _ _ (λ y. refl) (λ x. refl) (pair_is_form text_is_form (pair_is_form name_is_form (pair_is_form text_is_form name_is_form)))

pub stamp_is_form : IsForm stamp_form
unfolding stamp_form
stamp_is_form = seen_as_is_form _ _ (λ y. refl) (λ x. refl) (pair_is_form name_is_form (pair_is_form number_is_form number_is_form))

pub gvk_is_form : IsForm gvk_form
unfolding gvk_form
gvk_is_form = seen_as_is_form _ _ (λ y. refl) (λ x. refl) (pair_is_form text_is_form (pair_is_form name_is_form name_is_form))
