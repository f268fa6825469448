-- What a grant leaves at each lease's key.
use Rattle.std.proofs.Common.{◌≡◌, ◌≢◌, ◌≤◌, ◌<◌, ◌^◌, ◌⊎◌, Bool, true, List, [], ℕ, Option, Some, refl, sym, ap, subst, ◌∙◌, inl, inr, ⊎_elim}
use Rattle.olm_base.specs.Names.{is_name}
use Rattle.cluster_objects.specs.Kinds.{is_lease_key, lease_at}
use Rattle.cluster_objects.specs.Places.{lease_key}
use Rattle.cluster_objects.specs.declared.groups.LeaseStatus.{LeaseStatus}
use Rattle.cluster_objects.specs.declared.keys.Key.{Key}
use Rattle.cluster_objects.specs.Stamps.{stamps_of}
use Rattle.cluster_objects.specs.declared.objects.Object.{Object}
use Rattle.cluster_objects.specs.declared.objects.Status.TheVariants as status
use Rattle.cluster_objects.specs.declared.objects.Write.{Write}
use Rattle.cluster_objects.specs.declared.objects.Writer.{Writer}
use Rattle.cluster_objects.specs.declared.objects.Writer.TheVariants as writer
use Rattle.cluster_history.specs.History.{History, After, position, slot}
use Rattle.cluster_history.specs.declared.slots.Slot.{Slot}
use Rattle.cluster_history.proofs.State.{slot-written, slot-other}
use Rattle.cluster_history.proofs.Sums.{same_or_not}
use Rattle.lease_fence.specs.Answers.{Answers, Withholds, Writes}
use Rattle.lease_fence.specs.Grants.{IsGrant, granted_at, lease_object, lease_write, lease_written}
use Rattle.lease_fence.specs.Leases.{lease_of}
use Rattle.lease_fence.specs.Order.{LeaseLater}
use Rattle.lease_fence.specs.declared.terms.Grant.{Grant}
use Rattle.lease_fence.specs.declared.terms.Grant.TheVariants as grant
use Rattle.lease_fence.specs.declared.terms.Granted.{Granted}
use Rattle.lease_fence.specs.declared.terms.Granted.TheVariants as answer
use Rattle.lease_fence.specs.declared.terms.Term.{Term}
use Rattle.lease_fence.proofs.Granting.{next_is}

lease_in : History → Key → Option LeaseStatus
lease_in h key = lease_at key (slot h key).object

written_there : (h : History) (namespace : List ℕ) (role : Writer) (lease : LeaseStatus)
    → lease_of (After (lease_write h (lease_key namespace role) lease) h) namespace role ≡ Some lease
written_there h namespace role lease =
    let key = lease_key namespace role in
    ap (λ (x : Slot). lease_at key x.object) (slot-written (lease_write h key lease) h)

pub grant_stands : (h : History) (w : Write) (given : IsGrant h w) → lease_of (After w h) given.namespace given.role ≡ Some given.lease
grant_stands h w given =
    subst (λ (x : Write). lease_of (After x h) given.namespace given.role ≡ Some given.lease) (sym given.write)
    (written_there h given.namespace given.role given.lease)

pub other_stays : (h : History) (w : Write) (namespace : List ℕ) (role : Writer) → w.key ≢ lease_key namespace role → lease_of (After w h) namespace role ≡ lease_of h namespace role
other_stays h w namespace role apart = ap (λ (x : Slot). lease_at (lease_key namespace role) x.object) (slot-other w h (lease_key namespace role) apart)

pub each_later : (h : History) (w : Write) (namespace : List ℕ) (role : Writer) → IsGrant h w → LeaseLater (lease_of h namespace role) (lease_of (After w h) namespace role)
each_later h w namespace role given = ⊎_elim
    (λ (same : w.key ≡ lease_key namespace role).
    let keys : lease_key given.namespace given.role ≡ lease_key namespace role = ap (λ (x : Write). x.key) (sym given.write) ∙ same in
    subst (λ (k : Key). LeaseLater (lease_at k (slot h k).object) (lease_at k (slot (After w h) k).object)) keys
    (inr (given.lease, grant_stands h w given, next_is (lease_of h given.namespace given.role) given.holder given.held given.moment given.keep given.lease given.gives)))
    (λ (apart : w.key ≢ lease_key namespace role). inl (other_stays h w namespace role apart))
    (same_or_not w.key (lease_key namespace role))

-- whatever is answered, the history stays or has the write
of_writes : (fits : History → Write → Bool) (limit : ℕ) (h : History) (w : Write) (lease : LeaseStatus) (new : History) (result : Granted) → Writes fits limit h w lease new result → (new ≡ h) ⊎ (new ≡ After w h)
of_writes fits limit h w lease new (answer.Done term until version) told = inr told.0.1
of_writes fits limit h w lease new (answer.Held until) told = absurd told
of_writes fits limit h w lease new answer.Full told = inl told.1
of_writes fits limit h w lease new answer.Failed (inl same) = inl same
of_writes fits limit h w lease new answer.Failed (inr made) = inr made.1
of_writes fits limit h w lease new answer.Memory told = inl told

of_withholds : (h : History) (until : ℕ) (new : History) (result : Granted) → Withholds h until new result → new ≡ h
of_withholds h until new (answer.Done term found version) told = absurd told
of_withholds h until new (answer.Held found) told = told.1
of_withholds h until new answer.Full told = absurd told
of_withholds h until new answer.Failed told = told
of_withholds h until new answer.Memory told = told

pub of_answers : (fits : History → Write → Bool) (limit : ℕ) (h : History) (key : Key) (given : Grant) (new : History) (result : Granted) → Answers fits limit h key given new result
    → (new ≡ h) ⊎ ((lease : LeaseStatus) × (lease_written given ≡ Some lease) × (new ≡ After (lease_write h key lease) h))
of_answers fits limit h key (grant.NewTerm lease) new result told = ⊎_elim
    (λ (same : new ≡ h). inl same)
    (λ (made : new ≡ After (lease_write h key lease) h). inr (lease, refl, made))
    (of_writes fits limit h (lease_write h key lease) lease new result told)
of_answers fits limit h key (grant.Renewal lease) new result told = ⊎_elim
    (λ (same : new ≡ h). inl same)
    (λ (made : new ≡ After (lease_write h key lease) h). inr (lease, refl, made))
    (of_writes fits limit h (lease_write h key lease) lease new result told)
of_answers fits limit h key (grant.Held until) new result told = inl (of_withholds h until new result told)

pub grant_made : (fits : History → Write → Bool) (limit : ℕ) (h : History) (namespace : List ℕ) (role : Writer) (holder : ℕ) (held : Term) (moment keep : ℕ) (new : History) (result : Granted)
    → is_name namespace ≡ true → role ≢ writer.User → holder < 2 ^ 32 → moment ≤ 2 ^ 62 → 1 ≤ keep → keep ≤ 86400
    → Answers fits limit h (lease_key namespace role) (granted_at h namespace role holder held moment keep) new result → (new ≡ h) ⊎ ((w : Write) × IsGrant h w × (new ≡ After w h))
grant_made fits limit h namespace role holder held moment keep new result place worker number latest shortest longest told = ⊎_elim
    (λ (same : new ≡ h). inl same)
    (λ (made : (lease : LeaseStatus) × (lease_written (granted_at h namespace role holder held moment keep) ≡ Some lease) × (new ≡ After (lease_write h (lease_key namespace role) lease) h)).
    inr (
      lease_write h (lease_key namespace role) made.0,
      record {
        namespace = namespace;
        role = role;
        holder = holder;
        held = held;
        moment = moment;
        keep = keep;
        lease = made.0;
        place = place;
        worker = worker;
        number = number;
        latest = latest;
        shortest = shortest;
        longest = longest;
        gives = made.1;
        write = refl;
      },
      made.2,
    ))
    (of_answers fits limit h (lease_key namespace role) (granted_at h namespace role holder held moment keep) new result told)

-- ---- what the write of a grant is

pub by_user : (h : History) (w : Write) → IsGrant h w → w.by ≡ writer.User
by_user h w given = ap (λ (x : Write). x.by) given.write

pub agrees : (h : History) (w : Write) → IsGrant h w → w.expect ≡ (slot h w.key).version
agrees h w given = subst (λ (x : Write). x.expect ≡ (slot h x.key).version) (sym given.write) refl

pub of_a_lease : (h : History) (w : Write) → IsGrant h w → is_lease_key w.key ≡ true
of_a_lease h w given = subst (λ (x : Write). is_lease_key x.key ≡ true) (sym given.write) refl

pub bare : (h : History) (w : Write) → IsGrant h w → stamps_of w.object ≡ []
bare h w given = subst (λ (x : Write). stamps_of x.object ≡ []) (sym given.write) refl

pub object_there : (h : History) (w : Write) (given : IsGrant h w)
    → (object : Object) × (w.object ≡ Some object) × (object.seen ≡ position h) × (object.body ≡ []) × (object.status ≡ status.Lease given.lease)
object_there h w given =
    let key = lease_key given.namespace given.role in
    (lease_object key (slot h key).object (position h) given.lease, ap (λ (x : Write). x.object) given.write, refl, refl, refl)
