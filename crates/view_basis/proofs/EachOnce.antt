-- The kinds of the first definitions, and of one more.
use Rattle.std.proofs.Common.{◌≡◌, ℕ, true, false, if◌then◌else◌, List, [], ◌∷◌, ◌++◌, ◌+◌, ◌<◌, get_or, length, map, take, refl, sym, ap, ◌∙◌}
use Rattle.std.specs.List.{list_any}
use Rattle.std.proofs.lemmas.List.{map_more}
use Rattle.cluster_objects.specs.declared.statuses.Crd.{Crd}
use Rattle.op_properties.specs.Offers.{same_kind, each_once}
use Rattle.op_properties.proofs.Singles.{each_once_more}
use Rattle.view_basis.specs.Tips.{kind_of}

module _ (owned : List Crd) (i : ℕ) (crd : Crd) (below : i < length owned) (is : crd ≡ get_or owned i crd) where
  one_more : each_once (map kind_of (take (i + 1) owned)) ≡ (if list_any (same_kind (kind_of crd)) (each_once (map kind_of (take i owned))) then each_once (map kind_of (take i owned)) else each_once (map kind_of (take i owned)) ++ kind_of crd ∷ [])
  one_more =
      ap each_once (map_more kind_of owned i crd below ∙ ap (λ one. map kind_of (take i owned) ++ kind_of one ∷ []) (sym is))
      ∙ each_once_more (map kind_of (take i owned)) (kind_of crd)

  pub kinds_pushed : list_any (same_kind (kind_of crd)) (each_once (map kind_of (take i owned))) ≡ false
      → each_once (map kind_of (take (i + 1) owned)) ≡ each_once (map kind_of (take i owned)) ++ kind_of crd ∷ []
  kinds_pushed absent = one_more ∙ (rw absent refl)

  pub kinds_seen : list_any (same_kind (kind_of crd)) (each_once (map kind_of (take i owned))) ≡ true
      → each_once (map kind_of (take (i + 1) owned)) ≡ each_once (map kind_of (take i owned))
  kinds_seen there = one_more ∙ (rw there refl)
