-- Lists that have each kind once.
use Rattle.std.proofs.Common.{◌≡◌, ◌&&◌, ◌||◌, ℕ, true, false, not, if◌then◌else◌, List, [], ◌∷◌, ◌++◌, refl, sym, ap, ◌∙◌, nat_eq, ◌<◌, ◌+◌, take, get_or, length, Some, None, inl, inr}
use Rattle.std.specs.List.{filter, filter_map, list_any}
use Rattle.std.proofs.lemmas.Bool.{cases_Bool, and_parts, eqb-true, false_from_ne_true}
use Rattle.std.proofs.lemmas.Cmp.{nat_list_eq_equiv}
use Rattle.std.proofs.lemmas.List.{append-nil}
use Rattle.std.proofs.lemmas.List.Elements.{filter-append, filter_map-append}
use Rattle.fbc_types.specs.Texts.{same}
use Rattle.fbc_types.specs.declared.property.Property.{Property}
use Rattle.fbc_types.specs.declared.property.Property.TheVariants as given
use Rattle.olm_base.specs.declared.gvk.Gvk.{Gvk}
use Rattle.op_properties.proofs.Firsts.{take_one_more}
use Rattle.op_properties.specs.Offers.{same_kind, each_once, kind_of, kinds_of}

pub same_self : (text : List ℕ) → same text text ≡ true
same_self text = nat_list_eq_equiv.refl text

pub same_is : (text other : List ℕ) → same text other ≡ true → text ≡ other
same_is [] [] h = refl
same_is [] (other ∷ others) h = absurd (let bad : false ≡ true = h in cc)
same_is (byte ∷ bytes) [] h = absurd (let bad : false ≡ true = h in cc)
same_is (byte ∷ bytes) (other ∷ others) h =
    let (first, rest) = and_parts (nat_eq byte other) (same bytes others) h in
    ap (λ b. b ∷ bytes) (eqb-true byte other first) ∙ ap (λ bs. other ∷ bs) (same_is bytes others rest)

pub same_kind_self : (kind : Gvk) → same_kind kind kind ≡ true
same_kind_self kind = let a = same_self kind.group in let b = same_self kind.version in let c = same_self kind.kind in rw a (rw b c)

pub same_kind_is : (kind other : Gvk) → same_kind kind other ≡ true → kind ≡ other
same_kind_is kind other h =
    let (front, third) = and_parts (same kind.group other.group && same kind.version other.version) (same kind.kind other.kind) h in
    let (first, second) = and_parts (same kind.group other.group) (same kind.version other.version) front in
    ap (λ part. record kind { group = part }) (same_is kind.group other.group first)
    ∙ ap (λ part. record other { version = part; kind = kind.kind }) (same_is kind.version other.version second)
    ∙ ap (λ part. record other { kind = part }) (same_is kind.kind other.kind third)

-- two kinds that differ, the other way round
differ : (kind other : Gvk) → same_kind kind other ≡ false → same_kind other kind ≡ false
differ kind other h =
    false_from_ne_true (same_kind other kind) (λ is.
    absurd (let bad : true ≡ false = sym (same_kind_self kind) ∙ ap (λ k. same_kind kind k) (sym (same_kind_is other kind is)) ∙ h in cc))

-- where another kind is left out, a kind is among the others as before
pub among_others : (kind other : Gvk) (kinds : List Gvk) → same_kind kind other ≡ false
    → list_any (same_kind kind) (filter (λ k. not (same_kind other k)) kinds) ≡ list_any (same_kind kind) kinds
among_others kind other [] h = refl
among_others kind other (k ∷ kinds) h =
    let rest = among_others kind other kinds h in
    elim (cases_Bool (same_kind other k)) [
      | inl equal ↦ (let out : same_kind kind k ≡ false = ap (λ q. same_kind kind q) (sym (same_kind_is other k equal)) ∙ h in rw equal (rw out rest))
      | inr unequal ↦ rw unequal (ap (λ b. same_kind kind k || b) rest)
    ]

-- one kind more at the end
pub each_once_more : (kinds : List Gvk) (kind : Gvk)
    → each_once (kinds ++ kind ∷ []) ≡ (if list_any (same_kind kind) (each_once kinds) then each_once kinds else each_once kinds ++ kind ∷ [])
each_once_more [] kind = refl
each_once_more (k ∷ kinds) kind =
    let others : List Gvk → List Gvk = filter (λ q. not (same_kind k q)) in
    let more = each_once_more kinds kind in
    elim (cases_Bool (list_any (same_kind kind) (each_once kinds))) [
      | inl there ↦
          (let kept : each_once (kinds ++ kind ∷ []) ≡ each_once kinds = rw there at more in
          elim (cases_Bool (same_kind kind k)) [
            | inl equal ↦ rw equal (ap (λ ks. k ∷ others ks) kept)
            | inr unequal ↦ (let among = among_others kind k (each_once kinds) unequal in rw unequal (rw among (rw there (ap (λ ks. k ∷ others ks) kept))))
          ])
      | inr absent ↦
          (let grown : each_once (kinds ++ kind ∷ []) ≡ each_once kinds ++ kind ∷ [] = rw absent at more in
          let parts = filter-append (λ q. not (same_kind k q)) (each_once kinds) (kind ∷ []) in
          elim (cases_Bool (same_kind kind k)) [
            | inl equal ↦
                (let turned : same_kind k kind ≡ true = ap (λ q. same_kind k q) (same_kind_is kind k equal) ∙ same_kind_self k in
                rw equal (ap (λ ks. k ∷ others ks) grown ∙ ap (λ ks. k ∷ ks) (parts ∙ (rw turned (append-nil (others (each_once kinds)))))))
            | inr unequal ↦
                (let turned = differ kind k unequal in
                let among = among_others kind k (each_once kinds) unequal in
                rw unequal (rw among (rw absent (ap (λ ks. k ∷ others ks) grown ∙ ap (λ ks. k ∷ ks) (parts ∙ (rw turned refl))))))
          ])
    ]

-- a property that gives no kind
no_kind : (property : Property) → ((kind : Gvk) → property ≡ given.Kind kind → ⊥) → kind_of property ≡ None
no_kind (given.Package name version) h = refl
no_kind (given.Kind kind) h = absurd (h kind refl)
no_kind (given.NeedKind kind) h = refl
no_kind (given.NeedPackage name range) h = refl
no_kind (given.Constraint constraint) h = refl
no_kind (given.Manifest body) h = refl
no_kind (given.Other label) h = refl

-- the kinds with one property more
kinds_more : (properties : List Property) (property : Property) (kind : Gvk) → kind_of property ≡ Some kind
    → kinds_of (properties ++ property ∷ []) ≡ (if list_any (same_kind kind) (kinds_of properties) then kinds_of properties else kinds_of properties ++ kind ∷ [])
kinds_more properties property kind is =
    ap each_once (filter_map-append kind_of properties (property ∷ []) ∙ (rw is refl)) ∙ each_once_more (filter_map kind_of properties) kind

module _ (properties : List Property) (i : ℕ) (property : Property) (below : i < length properties) (is : property ≡ get_or properties i property) where
  next : kinds_of (take (i + 1) properties) ≡ kinds_of (take i properties ++ property ∷ [])
  next = ap kinds_of (take_one_more properties i property below is)

  pub kinds_pushed : (kind : Gvk) → property ≡ given.Kind kind → list_any (same_kind kind) (kinds_of (take i properties)) ≡ false
      → kinds_of (take (i + 1) properties) ≡ kinds_of (take i properties) ++ kind ∷ []
  kinds_pushed kind gives absent = next ∙ kinds_more (take i properties) property kind (ap kind_of gives) ∙ (rw absent refl)

  pub kinds_seen : (kind : Gvk) → property ≡ given.Kind kind → list_any (same_kind kind) (kinds_of (take i properties)) ≡ true
      → kinds_of (take (i + 1) properties) ≡ kinds_of (take i properties)
  kinds_seen kind gives there = next ∙ kinds_more (take i properties) property kind (ap kind_of gives) ∙ (rw there refl)

  pub kinds_passed : ((kind : Gvk) → property ≡ given.Kind kind → ⊥) → kinds_of (take (i + 1) properties) ≡ kinds_of (take i properties)
  kinds_passed other =
      let none = no_kind property other in
      next ∙ ap each_once (filter_map-append kind_of (take i properties) (property ∷ []) ∙ (rw none (append-nil (filter_map kind_of (take i properties)))))
