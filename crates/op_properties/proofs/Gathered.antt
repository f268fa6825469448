-- The kinds of properties.
use Rattle.std.proofs.Common.{◌≡◌, ◌↔◌, ◌||◌, Bool, true, false, not, List, [], ◌∷◌, get_or, refl, sym, ap, ◌∙◌, subst, inl, inr}
use Rattle.std.specs.List.{Contains, AllByRecursion, IsDistinct, filter, filter_map, list_any}
use Rattle.std.specs.Option.{option_map_or}
use Rattle.std.proofs.lemmas.Bool.{cases_Bool}
use Rattle.std.proofs.lemmas.List.Folds.{Any-from_list_any, list_any-from_Any}
use Rattle.fbc_types.specs.declared.property.Property.{Property}
use Rattle.fbc_types.specs.declared.property.Property.TheVariants as given
use Rattle.olm_base.specs.declared.gvk.Gvk.{Gvk}
use Rattle.op_properties.specs.Laws.{KindsAreOnce, KindsAreGiven}
use Rattle.op_properties.specs.Offers.{same_kind, each_once, kind_of, kinds_of}
use Rattle.op_properties.proofs.Cases.{found_kind}
use Rattle.op_properties.proofs.Singles.{same_kind_self, same_kind_is, among_others}

-- what is taken out is no longer there
taken_out : (kind : Gvk) (kinds : List Gvk) → AllByRecursion (λ other. same_kind kind other ≡ false) (filter (λ other. not (same_kind kind other)) kinds)
taken_out kind [] = tt
taken_out kind (k ∷ kinds) =
    let rest = taken_out kind kinds in
    elim (cases_Bool (same_kind kind k)) [
      | inl equal ↦ rw equal rest
      | inr unequal ↦ rw unequal (unequal, rest)
    ]

kept : (P : Gvk → Type 0) (test : Gvk → Bool) (kinds : List Gvk) → AllByRecursion P kinds → AllByRecursion P (filter test kinds)
kept P test [] each = tt
kept P test (k ∷ kinds) each =
    let rest = kept P test kinds each.1 in
    elim (cases_Bool (test k)) [
      | inl stays ↦ rw stays (each.0, rest)
      | inr goes ↦ rw goes rest
    ]

still_once : (test : Gvk → Bool) (kinds : List Gvk) → IsDistinct same_kind kinds → IsDistinct same_kind (filter test kinds)
unfolding IsDistinct
still_once test [] once = tt
still_once test (k ∷ kinds) once =
    let rest = still_once test kinds once.1 in
    elim (cases_Bool (test k)) [
      | inl stays ↦ rw stays (kept (λ other. same_kind k other ≡ false) test kinds once.0, rest)
      | inr goes ↦ rw goes rest
    ]

once : (kinds : List Gvk) → IsDistinct same_kind (each_once kinds)
unfolding IsDistinct
once [] = tt
once (k ∷ kinds) = (taken_out k (each_once kinds), still_once (λ other. not (same_kind k other)) (each_once kinds) (once kinds))

pub kinds_once : KindsAreOnce
kinds_once properties = once (filter_map kind_of properties)

-- each is still found
found_once : (kind : Gvk) (kinds : List Gvk) → list_any (same_kind kind) (each_once kinds) ≡ list_any (same_kind kind) kinds
found_once kind [] = refl
found_once kind (k ∷ kinds) =
    elim (cases_Bool (same_kind kind k)) [
      | inl equal ↦ rw equal refl
      | inr unequal ↦ ap (λ b. same_kind kind k || b) (among_others kind k (each_once kinds) unequal ∙ found_once kind kinds)
    ]

-- the property gives this kind
abbrev gives : Gvk → Property → Bool
gives kind p = option_map_or (same_kind kind) (kind_of p) false

found_given : (kind : Gvk) (properties : List Property) → list_any (same_kind kind) (filter_map kind_of properties) ≡ list_any (gives kind) properties
found_given kind [] = refl
found_given kind (given.Package name version ∷ properties) = found_given kind properties
found_given kind (given.Kind k ∷ properties) = ap (λ b. same_kind kind k || b) (found_given kind properties)
found_given kind (given.NeedKind k ∷ properties) = found_given kind properties
found_given kind (given.NeedPackage name range ∷ properties) = found_given kind properties
found_given kind (given.Constraint constraint ∷ properties) = found_given kind properties
found_given kind (given.Manifest body ∷ properties) = found_given kind properties
found_given kind (given.Other label ∷ properties) = found_given kind properties

is_given : (kind : Gvk) (p : Property) → gives kind p ≡ true → p ≡ given.Kind kind
is_given kind (given.Package name version) h = absurd (let bad : false ≡ true = h in cc)
is_given kind (given.Kind k) h = ap given.Kind (sym (same_kind_is kind k h))
is_given kind (given.NeedKind k) h = absurd (let bad : false ≡ true = h in cc)
is_given kind (given.NeedPackage name range) h = absurd (let bad : false ≡ true = h in cc)
is_given kind (given.Constraint constraint) h = absurd (let bad : false ≡ true = h in cc)
is_given kind (given.Manifest body) h = absurd (let bad : false ≡ true = h in cc)
is_given kind (given.Other label) h = absurd (let bad : false ≡ true = h in cc)

found_property : (properties : List Property) (kind : Gvk) → (list_any (gives kind) properties ≡ true) ↔ Contains properties (given.Kind kind)
found_property properties kind = (
  (λ found.
      let (k, other, below, is, same) = Any-from_list_any (gives kind) properties found in
      (k, below, subst (λ q. get_or properties k q ≡ q) (is_given kind other same) is)),
  λ (k, below, is). list_any-from_Any (gives kind) properties (k, given.Kind kind, below, is, same_kind_self kind),
)

pub kinds_given : KindsAreGiven
kinds_given properties kind =
    let test = found_once kind (filter_map kind_of properties) ∙ found_given kind properties in
    let among = found_kind (kinds_of properties) kind in
    let there = found_property properties kind in
    ((λ has. there.0 (sym test ∙ among.1 has)), λ has. among.0 (test ∙ there.1 has))
