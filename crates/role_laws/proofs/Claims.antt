-- The claims stay disjoint by each write.
use Rattle.std.proofs.Common.{◌≡◌, inl, inr, Bool, true, false, cond, not, codes, List, [], ℕ, Option, Some, None, Result, Ok, refl, sym, ap, ◌∙◌, subst}
use Rattle.std.specs.List.{filter, list_any}
use Rattle.std.specs.Option.{option_map_or}
use Rattle.std.proofs.lemmas.Bool.{or_right}
use Rattle.cluster_objects.specs.Kinds.{claims_at, is_claims_key}
use Rattle.cluster_objects.specs.Places.{claims_key}
use Rattle.cluster_objects.specs.declared.groups.Claim.{Claim}
use Rattle.cluster_objects.specs.declared.groups.ClaimsStatus.{ClaimsStatus}
use Rattle.cluster_objects.specs.declared.keys.Key.{Key}
use Rattle.cluster_objects.specs.declared.objects.Object.{Object}
use Rattle.cluster_objects.specs.declared.objects.Status.TheVariants as status
use Rattle.cluster_objects.specs.declared.objects.Write.{Write}
use Rattle.cluster_history.specs.History.{After, History, Start, first_writes, position, slot, slot_in, state}
use Rattle.cluster_history.specs.Views.{View, view, is_visible}
use Rattle.cluster_history.specs.declared.slots.Base.{Base}
use Rattle.cluster_history.specs.declared.slots.Slot.{Slot}
use Rattle.lawful_history.specs.Installing.{install_key}
use Rattle.lawful_history.proofs.Slots.{same_or_other}
use Rattle.operator_groups.specs.Claiming.{AreDisjoint}
use Rattle.operator_groups.proofs.Disjoint.{none_disjoint}
use Rattle.operator_groups.proofs.Members.{get_in, in_filter, in_get}
use Rattle.csv_phases.specs.Conditions.{claims}
use Rattle.csv_phases.proofs.Taking.{all_claims, of_write}
use Rattle.controller_rules.specs.Lawful.{IsSoundByRoles}
use Rattle.controller_rules.specs.Resolving.{Decides, IsResolversWrite, Plans}
use Rattle.event_script.specs.Running.{word_for}
use Rattle.event_script.specs.declared.events.Event.{Event}
use Rattle.event_script.specs.declared.events.Event.TheVariants as event
use Rattle.event_script.specs.declared.events.Word.{Word}
use Rattle.event_script.specs.declared.events.Word.TheVariants as word
use Rattle.user_events.specs.Asked.{release, user_write}
use Rattle.user_events.specs.Reasons.{refused}
use Rattle.user_events.specs.Wishes.{is_claim_of, released, released_claims, with_status, without_claims_of}
use Rattle.user_events.specs.declared.refusals.Refusal.{Refusal}
use Rattle.user_events.proofs.Chains.{ok_is, then_ok}
use Rattle.folder_events.specs.Events.{Asks}
use Rattle.lease_fence.proofs.Standing.{of_a_lease}
use Rattle.lawful_events.proofs.Chains.{none_is_some, some_is, true_or_false}
use Rattle.lawful_events.proofs.Ruled.{ruled}
use Rattle.lawful_roles.specs.Roles.{IsKept}
use Rattle.role_laws.specs.Claims.{claims_in}
use Rattle.role_laws.proofs.Carrying.{carries, carries_no_claims}
use Rattle.role_laws.proofs.Kept.{By, ByPhases, OfGrant, OfInstaller, OfPhases, OfResolver, OfUser, base_in_order, found, who_had}
use Rattle.role_laws.proofs.Separate.{lease_no_claims, nothing_counts}
use Rattle.role_laws.proofs.Phasing.{PutsClaims, puts_claims}

-- what an object at the claims' key claims
abbrev entries_of : Option ClaimsStatus → List Claim
entries_of found = option_map_or (λ (status : ClaimsStatus). status.entries) found []

abbrev claimed : Option Object → List Claim
claimed object = entries_of (claims_at claims_key object)

nothing_claimed : (found : Option ClaimsStatus) → found ≡ None → AreDisjoint (entries_of found)
nothing_claimed found none = subst (λ (o : Option ClaimsStatus). AreDisjoint (entries_of o)) (sym none) none_disjoint

-- ---- a release

fewer : (p : Claim → Bool) (entries : List Claim) → AreDisjoint entries → AreDisjoint (filter p entries)
fewer p entries so i j a b at here =
    let (k, at_k) = in_get entries a (in_filter p entries a (get_in (filter p entries) i a at)) in
    let (l, at_l) = in_get entries b (in_filter p entries b (get_in (filter p entries) j b here)) in
    so k l a b at_k at_l

released_some : (namespace : List ℕ) (object : Object) (seen : ℕ) (there : Option ClaimsStatus) (new : Option Object)
    → released_claims namespace object seen there ≡ Ok new → AreDisjoint (entries_of there) → AreDisjoint (claimed new)
released_some namespace object seen None new e so = absurd cc
released_some namespace object seen (Some claims) new e so = by (list_any (is_claim_of namespace) claims.entries) e
  where
    left : AreDisjoint (claimed (Some (with_status object (status.Claims (without_claims_of namespace claims)) seen)))
    left = fewer (λ claim. not (is_claim_of namespace claim)) claims.entries so

    by : (b : Bool) → cond {A = Result (Option Object) Refusal} b (Ok (Some (with_status object (status.Claims (without_claims_of namespace claims)) seen))) (refused (codes "absent")) ≡ Ok new
        → AreDisjoint (claimed new)
    by true e = subst (λ (o : Option Object). AreDisjoint (claimed o)) (ok_is _ new e) left
    by false e = absurd cc

released_disjoint : (namespace : List ℕ) (old : Option Object) (seen : ℕ) (new : Option Object) → released namespace claims_key old seen ≡ Ok new
    → AreDisjoint (claimed old) → AreDisjoint (claimed new)
released_disjoint namespace None seen new e so = absurd cc
released_disjoint namespace (Some object) seen new e so =
    released_some namespace object seen (claims_at claims_key (Some object)) new e so

by_release : (h : History) (namespace : List ℕ) (w : Write) → release h namespace ≡ Ok w → AreDisjoint (claims_in h) → AreDisjoint (claimed w.object)
by_release h namespace w e so =
    let there = slot h claims_key in
    let made = then_ok (released namespace claims_key there.object (position h)) (λ object. Ok (user_write there claims_key object)) w e in
    subst (λ (x : Write). AreDisjoint (claimed x.object)) (ok_is (user_write there claims_key made.0) w made.2)
    (released_disjoint namespace there.object (position h) made.0 made.1 so)

no_word : {T : Type 0} (named : Word) → Some named ≡ Some word.Release → (named ≡ word.Release → ⊥) → T
no_word named is other = absurd (other (some_is named word.Release is))

-- a user writes the claims by a release alone
by_event : (h : History) (w : Write) (cause : Event) → Asks None h cause (Ok w) → word_for cause ≡ Some word.Release
    → AreDisjoint (claims_in h) → AreDisjoint (claimed w.object)
by_event h w (event.Apply body) asks is so = absurd (none_is_some word.Release is)
by_event h w (event.Delete group kind namespace name) asks is so = no_word word.Delete is (λ e. cc)
by_event h w (event.Approve namespace name) asks is so = no_word word.Approve is (λ e. cc)
by_event h w (event.Catalog namespace name path priority) asks is so = no_word word.Catalog is (λ e. cc)
by_event h w (event.Ready namespace name state) asks is so = no_word word.Ready is (λ e. cc)
by_event h w (event.Retry namespace budget) asks is so = no_word word.Retry is (λ e. cc)
by_event h w (event.Worker role namespace) asks is so = absurd asks
by_event h w (event.Look worker) asks is so = absurd asks
by_event h w (event.Act worker) asks is so = absurd asks
by_event h w (event.Settle namespace turns) asks is so = absurd asks
by_event h w event.Restart asks is so = absurd asks
by_event h w (event.Release namespace) asks is so = by_release h namespace w asks so
by_event h w (event.Lease worker now keep) asks is so = absurd asks

-- ---- each writer

-- the resolver writes no claims
no_claims_key : (v : View) (w : Write) → IsResolversWrite v w → is_claims_key w.key ≡ false
unfolding install_key
no_claims_key v w (Decides rest due new next is) = ap (λ (x : Write). is_claims_key x.key) is
no_claims_key v w (Plans rest decision stands due is) = ap (λ (x : Write). is_claims_key x.key) is

seen_by_all : (namespace : List ℕ) → is_visible namespace claims_key ≡ true
seen_by_all namespace = or_right _ _ refl

by_phases : (is_valid : List ℕ → Bool) (h : History) (w : Write) → IsKept is_valid (After w h) → w.key ≡ claims_key → ByPhases h w
    → AreDisjoint (claims_in h) → (put : Option ClaimsStatus) → claims_at w.key w.object ≡ put → AreDisjoint (entries_of put)
by_phases is_valid h w kept here by so None is = none_disjoint
by_phases is_valid h w kept here by so (Some new) is =
    let v = view h by.namespace by.length in
    let member = of_write v w by.enabled in
    let puts : PutsClaims v w = puts_claims v w new is member in
    let visible = ap (is_visible by.namespace) here ∙ seen_by_all by.namespace in
    let stands : slot_in v.slots w.key ≡ slot h w.key = found is_valid h w by.namespace by.length kept visible puts.expects in
    let there : slot_in v.slots claims_key ≡ slot h claims_key = subst (λ (k : Key). slot_in v.slots k ≡ slot h k) here stands in
    all_claims v w member new is (subst (λ (s : Slot). AreDisjoint (claimed s.object)) (sym there) so)

here : (is_valid : List ℕ → Bool) (h : History) (w : Write) → IsKept is_valid (After w h) → w.key ≡ claims_key → By h w
    → AreDisjoint (claims_in h) → AreDisjoint (entries_of (claims_at w.key w.object))
here is_valid h w kept at (OfUser by (cause, range, asks)) so =
    let release = ((ruled None h cause w asks).claims (ap is_claims_key at)).0 in
    subst (λ (k : Key). AreDisjoint (entries_of (claims_at k w.object))) (sym at) (by_event h w cause asks release so)
here is_valid h w kept at (OfGrant by grant) so =
    absurd (true_or_false (is_claims_key w.key) (ap is_claims_key at) (lease_no_claims w.key (of_a_lease h w grant)))
here is_valid h w kept at (OfResolver by) so =
    absurd (true_or_false (is_claims_key w.key) (ap is_claims_key at) (no_claims_key _ w by.enabled))
here is_valid h w kept at (OfInstaller by) so =
    nothing_claimed (claims_at w.key w.object)
    (ap (λ o. cond (is_claims_key w.key) o None)
    (carries_no_claims (view h by.namespace by.length) (first_writes by.length h) w (carries h w (base_in_order is_valid h kept.2) by))
    ∙ nothing_counts (is_claims_key w.key))
here is_valid h w kept at (OfPhases by) so = by_phases is_valid h w kept at by so (claims_at w.key w.object) refl

-- ---- the base

at_start : (found : Option ClaimsStatus) → ((status : ClaimsStatus) → found ≡ Some status → AreDisjoint status.entries) → AreDisjoint (entries_of found)
at_start None so = none_disjoint
at_start (Some status) so = so status refl

start_disjoint : (is_valid : List ℕ → Bool) (base : Base) → IsSoundByRoles is_valid base → AreDisjoint (claims_in (Start base))
unfolding slot state
start_disjoint is_valid base sound = at_start (claims_at claims_key (slot_in base.slots claims_key).object) sound.claims

one_more : (is_valid : List ℕ → Bool) (h : History) (w : Write) → IsKept is_valid (After w h) → AreDisjoint (claims_in h)
    → AreDisjoint (claims_in (After w h))
one_more is_valid h w kept so = elim (same_or_other w h claims_key) [
  | inl is ↦
      subst (λ (s : Slot). AreDisjoint (claimed s.object)) (sym is.1)
      (subst (λ (k : Key). AreDisjoint (entries_of (claims_at k w.object))) is.0
      (here is_valid h w kept is.0 (who_had is_valid h w kept) so))
  | inr is ↦ subst (λ (s : Slot). AreDisjoint (claimed s.object)) (sym is.1) so
]

pub claims_disjoint : (is_valid : List ℕ → Bool) (h : History) → IsKept is_valid h → AreDisjoint (claims_in h)
claims_disjoint is_valid (Start base) kept = start_disjoint is_valid base kept
claims_disjoint is_valid (After w h) kept = one_more is_valid h w kept (claims_disjoint is_valid h kept.2)
