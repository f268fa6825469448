-- What a crash leaves of one write, of a short file, of a file that is opened, and of a record that is added.
use Rattle.std.proofs.Common.{◌≡◌, ◌≤◌, ◌+◌, ◌⊎◌, inl, inr, ℕ, List, [], ◌∷◌, ◌++◌, length, Result, Ok, Err, refl, sym, ap, ◌∙◌, subst, arith}
use Rattle.cluster_objects.specs.declared.objects.Write.{Write}
use Rattle.cluster_file.specs.Files.{stands}
use Rattle.cluster_file.specs.Writing.{HoldsWrites, place_after}
use Rattle.olm_disk.specs.Disk.{Elapses, LeavesOnly, MayLeave, Pending, Torn, nothing_pending, pending_write}
use Rattle.olm_disk.proofs.Images.{only_content, untouched, write_leaves}
use Rattle.olm_disk.proofs.Moments.{goes_on, joined, started, weaker}
use Rattle.olm_io.specs.declared.traits.Outage.{Outage}
use Rattle.olm_io.specs.declared.traits.Outage.TheVariants as outage
use Rattle.log_file.specs.Crashes.{AddingLeaves, OpeningLeaves}
use Rattle.log_file.proofs.Adding.{IsStaged, gate_torn, still_holds, torn_behind}
use Rattle.log_file.proofs.Beginning.{both_short}

-- ---- images

-- with nothing pending before a write, a crash after it tears at most its range
pub torn_image : (at count : ℕ) (content now image : List ℕ) (before after : Pending) → before ≡ nothing_pending content → after ≡ pending_write at count before → Torn at count content now → MayLeave now after image
    → Torn at count content image
torn_image at count content now image before after is then torn left =
    write_leaves at count content now image torn (subst (λ (p : Pending). MayLeave now p image) (then ∙ ap (pending_write at count) is) left)

-- with nothing pending a crash leaves the content
pub still : (content image : List ℕ) (before : Pending) → before ≡ nothing_pending content → MayLeave content before image → image ≡ content
still content image before is left = only_content content image (subst (λ (p : Pending). MayLeave content p image) is left)

pub still_torn : (at count : ℕ) (content image : List ℕ) (before : Pending) → before ≡ nothing_pending content → MayLeave content before image → Torn at count content image
still_torn at count content image before is left = subst (Torn at count content) (sym (still content image before is left)) (untouched at count content)

-- an image is no longer than the file may have been
pub short_image : (content image : List ℕ) (pending : Pending) → pending.greatest ≤ 9 → MayLeave content pending image → length image ≤ 9
short_image content image pending short left = omega (arith, left.longest, short)

pub short_pending : (content : List ℕ) (pending : Pending) → pending ≡ nothing_pending content → length content ≤ 9 → pending.greatest ≤ 9
short_pending content pending is short = subst (λ (p : Pending). p.greatest ≤ 9) (sym is) short

pub same_meaning : (content now image : List ℕ) (pending before : Pending) → now ≡ content → before ≡ nothing_pending now → MayLeave now before image → OpeningLeaves content pending image
same_meaning content now image pending before same is left = inr (ap stands (still now image before is left ∙ same))

pub short_meaning : (content image : List ℕ) (pending : Pending) → length content ≤ 9 → length image ≤ 9 → OpeningLeaves content pending image
short_meaning content image pending short image_short = inr (both_short content image short image_short)

-- ---- runs of calls

module _ {D : Type 0} (moment : D → ℕ) (left_since : D → ℕ → List ℕ → Type 0) where
  pub one_call : (old new : D) (P left : List ℕ → Type 0) → ((image : List ℕ) → left_since old (moment old) image → P image)
      → Elapses (moment old) (moment new) (left_since old) (left_since new) left → ((image : List ℕ) → left image → P image) → LeavesOnly moment left_since old new P
  one_call old new P left here time leaves = goes_on moment left_since old old new P left (started moment left_since old P here) time leaves

  pub two_calls : (old mid new : D) (P left left' : List ℕ → Type 0) → ((image : List ℕ) → left_since old (moment old) image → P image)
      → Elapses (moment old) (moment mid) (left_since old) (left_since mid) left → ((image : List ℕ) → left image → P image)
      → Elapses (moment mid) (moment new) (left_since mid) (left_since new) left' → ((image : List ℕ) → left' image → P image) → LeavesOnly moment left_since old new P
  two_calls old mid new P left left' here first leaves second leaves' =
      goes_on moment left_since old mid new P left' (one_call old mid P left here first leaves) second leaves'

  -- ---- a file that is opened: a sync, its length, and the file of the empty history

  pub begins : (content : D → List ℕ) (pending : D → Pending) (d s l new : D) → ((image : List ℕ) → left_since d (moment d) image → MayLeave (content d) (pending d) image)
      → Elapses (moment d) (moment s) (left_since d) (left_since s) (MayLeave (content d) (pending d)) → content s ≡ content d → pending s ≡ nothing_pending (content s)
      → Elapses (moment s) (moment l) (left_since s) (left_since l) (MayLeave (content l) (pending l)) → content l ≡ content s → pending l ≡ pending s → length (content d) ≤ 9
      → ((pending l).greatest ≤ 9 → LeavesOnly moment left_since l new (λ image. length image ≤ 9)) → LeavesOnly moment left_since d new (OpeningLeaves (content d) (pending d))
  begins content pending d s l new here synced same durable asked same' pending' short empty =
      let now : pending l ≡ nothing_pending (content l) = pending' ∙ durable ∙ ap nothing_pending (sym same') in
      let so_far : LeavesOnly moment left_since d l (OpeningLeaves (content d) (pending d)) =
      two_calls d s l (OpeningLeaves (content d) (pending d)) (MayLeave (content d) (pending d)) (MayLeave (content l) (pending l))
      (λ image left. inl (here image left)) synced (λ image left. inl left) asked (λ image left. same_meaning (content d) (content l) image (pending d) (pending l) (same' ∙ same) now left) in
      joined moment left_since d l new (OpeningLeaves (content d) (pending d)) (λ image. length image ≤ 9) (OpeningLeaves (content d) (pending d)) so_far
      (empty (short_pending (content l) (pending l) now (omega (arith, short, ap length same, ap length same')))) (λ image p. p) (λ image few. short_meaning (content d) image (pending d) short few)

  -- ---- a record that is added

  fails_holding : (e : Outage) (ws : List Write) (w : Write) (image : List ℕ) → HoldsWrites image ws → AddingLeaves ws w (Err e) image
  fails_holding outage.Failed ws w image holds = inl holds
  fails_holding outage.Memory ws w image holds = holds

  behind_gate : (gate count : ℕ) (content image : List ℕ) (ws : List Write) → gate ≡ place_after ws → HoldsWrites content ws → Torn (gate + 1) count content image → HoldsWrites image ws
  behind_gate gate count content image ws at holds torn = torn_behind count content image ws holds (subst (λ n. Torn (n + 1) count content image) at torn)

  -- the first of the two writes failed
  pub first_leaves : (e : Outage) (old new : D) (gate count : ℕ) (content : List ℕ) (ws : List Write) (w : Write) → gate ≡ place_after ws → HoldsWrites content ws
      → LeavesOnly moment left_since old new (Torn (gate + 1) count content) → LeavesOnly moment left_since old new (AddingLeaves ws w (Err e))
  first_leaves e old new gate count content ws w at holds one =
      weaker moment left_since old new (Torn (gate + 1) count content) (AddingLeaves ws w (Err e)) one
      (λ image torn. fails_holding e ws w image (behind_gate gate count content image ws at holds torn))

  -- the second one came to this
  pub second_leaves : (r : Result Unit Outage) (old mid new : D) (gate count : ℕ) (content staged : List ℕ) (pending : Pending) (ws : List Write) (w : Write) → gate ≡ place_after ws → HoldsWrites content ws
      → IsStaged staged pending ws w → LeavesOnly moment left_since old mid (Torn (gate + 1) count content) → LeavesOnly moment left_since mid new (Torn gate 1 staged)
      → (r ≡ Err outage.Memory → LeavesOnly moment left_since mid new (λ image. image ≡ staged)) → LeavesOnly moment left_since old new (AddingLeaves ws w r)
  second_leaves (Ok done) old mid new gate count content staged pending ws w at holds st one two kept =
      joined moment left_since old mid new (Torn (gate + 1) count content) (Torn gate 1 staged) (AddingLeaves ws w (Ok done)) one two
      (λ image torn. inl (behind_gate gate count content image ws at holds torn)) (λ image torn. gate_torn staged image pending ws w st (subst (λ n. Torn n 1 staged image) at torn))
  second_leaves (Err outage.Failed) old mid new gate count content staged pending ws w at holds st one two kept =
      joined moment left_since old mid new (Torn (gate + 1) count content) (Torn gate 1 staged) (AddingLeaves ws w (Err outage.Failed)) one two
      (λ image torn. inl (behind_gate gate count content image ws at holds torn)) (λ image torn. gate_torn staged image pending ws w st (subst (λ n. Torn n 1 staged image) at torn))
  second_leaves (Err outage.Memory) old mid new gate count content staged pending ws w at holds st one two kept =
      joined moment left_since old mid new (Torn (gate + 1) count content) (λ image. image ≡ staged) (AddingLeaves ws w (Err outage.Memory)) one (kept refl)
      (λ image torn. behind_gate gate count content image ws at holds torn) (λ image is. subst (λ (l : List ℕ). HoldsWrites l ws) (sym is) (still_holds staged pending ws w st))
