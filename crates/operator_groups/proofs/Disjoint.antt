-- Claims stay disjoint, and a claim that was made is held.
use Rattle.std.proofs.Common.{◌≡◌, ◌⊎◌, Bool, true, false, cond, not, ◌&&◌, ◌||◌, List, [], ◌∷◌, ℕ, Option, Some, None, refl, sym, ap, ◌∙◌, inl, inr, subst}
use Rattle.std.specs.Cmp.Lexicographic.{pointwise}
use Rattle.std.specs.List.{filter, find, list_any}
use Rattle.std.proofs.lemmas.Bool.{and_from}
use Rattle.std.proofs.lemmas.List.Folds.{list_any-append}
use Rattle.olm_base.specs.declared.gvk.Gvk.{Gvk}
use Rattle.cluster_objects.specs.Keys.{same_text}
use Rattle.cluster_objects.specs.declared.groups.Claim.{Claim}
use Rattle.cluster_objects.specs.declared.groups.ClaimsStatus.{ClaimsStatus}
use Rattle.cluster_objects.proofs.Stamping.{same_text-true, same_text-refl}
use Rattle.op_properties.specs.Offers.{same_kind}
use Rattle.op_properties.proofs.Singles.{same_kind_is, same_kind_self}
use Rattle.operator_groups.specs.Claiming.{AreDisjoint, claim, claim_against, is_against, is_claim, is_older, meet, reach, same_targets, with_claim}
use Rattle.operator_groups.specs.declared.claiming.Claimed.{Claimed}
use Rattle.operator_groups.specs.declared.claiming.Claimed.TheVariants.{Held, Taken, Next}
use Rattle.operator_groups.proofs.Members.{In, get_in, in_get, in_append, in_filter, find_none, any_ext, any_swap}

-- ---- tests that don't ask for the order of what they compare

agree : (b c : Bool) → (b ≡ true → c ≡ true) → (c ≡ true → b ≡ true) → b ≡ c
agree true c f g = sym (f refl)
agree false true f g = g refl
agree false false f g = refl

turned_text : (a b : List ℕ) → same_text a b ≡ true → same_text b a ≡ true
turned_text a b h = subst (λ x. same_text x a ≡ true) (same_text-true a b h) (same_text-refl a)

text_either : (a b : List ℕ) → same_text a b ≡ same_text b a
text_either a b = agree (same_text a b) (same_text b a) (turned_text a b) (turned_text b a)

turned_kind : (a b : Gvk) → same_kind a b ≡ true → same_kind b a ≡ true
turned_kind a b h = subst (λ x. same_kind x a ≡ true) (same_kind_is a b h) (same_kind_self a)

kind_either : (a b : Gvk) → same_kind a b ≡ same_kind b a
kind_either a b = agree (same_kind a b) (same_kind b a) (turned_kind a b) (turned_kind b a)

meet_either : (a b : Option (List (List ℕ))) → meet a b ≡ meet b a
meet_either None None = refl
meet_either None (Some others) = refl
meet_either (Some names) None = refl
meet_either (Some names) (Some others) =
    any_swap same_text names others
    ∙ any_ext (λ other. list_any (λ name. same_text name other) names) (λ other. list_any (same_text other) names)
    (λ other. any_ext (λ name. same_text name other) (same_text other) (λ name. text_either name other) names) others

against_either : (a b : Claim) → is_against a b ≡ is_against b a
against_either a b =
    let k = kind_either b.kind a.kind in
    let t = text_either b.namespace a.namespace in
    let m = meet_either (reach b) (reach a) in
    λ i. k i && not (t i) && m i

never_itself : (a : Claim) → is_against a a ≡ false
never_itself a =
    let k = same_kind_self a.kind in
    let t = same_text-refl a.namespace in
    λ i. k i && not (t i) && meet (reach a) (reach a)

-- ---- what is known of a claim that comes next

abbrev next_is : (old : ClaimsStatus) (c : Claimed) → ClaimsStatus
next_is old Held = old
next_is old (Taken namespace) = old
next_is old (Next next) = next

next_by : (entries : List Claim) (wanted : Claim) (next : ClaimsStatus) (b : Bool) (o : Option Claim)
    → cond b Held (claim_against entries wanted o) ≡ Next next → (o ≡ None) × (next.entries ≡ with_claim entries wanted)
next_by entries wanted next true o h = absurd (let bad : Held ≡ Next next = h in cc)
next_by entries wanted next false (Some other) h = absurd (let bad : Taken other.namespace ≡ Next next = h in cc)
next_by entries wanted next false None h = (refl, sym (ap (λ c. (next_is next c).entries) h))

next_of : (entries : List Claim) (wanted : Claim) (next : ClaimsStatus) → claim entries wanted ≡ Next next
    → (find (is_against wanted) entries ≡ None) × (next.entries ≡ with_claim entries wanted)
next_of entries wanted next h =
    next_by entries wanted next (list_any (is_claim wanted) entries) (find (is_against wanted) entries) h

-- an entry beside the new claim is that claim, or was there
old_or_new : (entries : List Claim) (wanted c : Claim) → In (with_claim entries wanted) c → In entries c ⊎ (c ≡ wanted)
old_or_new entries wanted c among =
    elim (in_append (filter (λ entry. not (is_older wanted entry)) entries) (wanted ∷ []) c among) [
      | inl kept ↦ inl (in_filter (λ entry. not (is_older wanted entry)) entries c kept)
      | inr last ↦ (elim last [ inl e ↦ inr e | inr none ↦ absurd none ])
    ]

apart : (entries : List Claim) (wanted : Claim) → AreDisjoint entries → find (is_against wanted) entries ≡ None
    → (a b : Claim) → In entries a ⊎ (a ≡ wanted) → In entries b ⊎ (b ≡ wanted) → is_against a b ≡ false
apart entries wanted disjoint free a b (inl p) (inl q) =
    let (i, at) = in_get entries a p in
    let (j, here) = in_get entries b q in
    disjoint i j a b at here
apart entries wanted disjoint free a b (inl p) (inr e) =
    ap (is_against a) e ∙ against_either a wanted ∙ find_none (is_against wanted) entries free a p
apart entries wanted disjoint free a b (inr e) (inl q) =
    ap (λ c. is_against c b) e ∙ find_none (is_against wanted) entries free b q
apart entries wanted disjoint free a b (inr e) (inr f) =
    ap (λ c. is_against c b) e ∙ ap (is_against wanted) f ∙ never_itself wanted

pub stay : (entries : List Claim) (wanted : Claim) (next : ClaimsStatus) → AreDisjoint entries → claim entries wanted ≡ Next next
    → AreDisjoint next.entries
stay entries wanted next disjoint h i j a b at here =
    let (free, is) = next_of entries wanted next h in
    let p = subst (λ es. In es a) is (get_in next.entries i a at) in
    let q = subst (λ es. In es b) is (get_in next.entries j b here) in
    apart entries wanted disjoint free a b (old_or_new entries wanted a p) (old_or_new entries wanted b q)

pub none_disjoint : AreDisjoint []
none_disjoint i j a b at here = absurd (let bad : None ≡ Some a = at in cc)

-- ---- the claim is held

texts_same : (names : List (List ℕ)) → pointwise same_text names names ≡ true
texts_same [] = refl
texts_same (name ∷ names) = and_from (same_text name name) (pointwise same_text names names) (same_text-refl name) (texts_same names)

targets_same : (targets : Option (List (List ℕ))) → same_targets targets targets ≡ true
targets_same None = refl
targets_same (Some names) = texts_same names

is_itself : (c : Claim) → is_claim c c ≡ true
is_itself c =
    let k = same_kind_self c.kind in
    let t = same_text-refl c.namespace in
    let g = targets_same c.targets in
    λ i. (k i && t i) && g i

or_last : (b c : Bool) → c ≡ true → (b || (c || false)) ≡ true
or_last true c h = refl
or_last false true h = refl
or_last false false h = h

is_there : (entries : List Claim) (wanted : Claim) → list_any (is_claim wanted) (with_claim entries wanted) ≡ true
is_there entries wanted =
    let kept = filter (λ entry. not (is_older wanted entry)) entries in
    list_any-append (is_claim wanted) kept (wanted ∷ [])
    ∙ or_last (list_any (is_claim wanted) kept) (is_claim wanted wanted) (is_itself wanted)

held_by : (entries : List Claim) (wanted : Claim) → list_any (is_claim wanted) entries ≡ true → claim entries wanted ≡ Held
held_by entries wanted h = ap (λ b. cond b Held (claim_against entries wanted (find (is_against wanted) entries))) h

pub held : (entries : List Claim) (wanted : Claim) (next : ClaimsStatus) → claim entries wanted ≡ Next next
    → claim next.entries wanted ≡ Held
held entries wanted next h =
    let is = (next_of entries wanted next h).1 in
    held_by next.entries wanted (ap (list_any (is_claim wanted)) is ∙ is_there entries wanted)
