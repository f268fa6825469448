-- What a crash leaves of a store's file.
use Rattle.std.proofs.Common.{◌≡◌, ◌+◌, ◌⊎◌, inl, inr, ⊎_elim, ℕ, List, [], ◌∷◌, ◌++◌, Bool, true, Result, Ok, Err, refl, sym, ap, ◌∙◌, subst}
use Rattle.cluster_objects.specs.declared.objects.Write.{Write}
use Rattle.cluster_history.specs.History.{History, Start, After, empty}
use Rattle.cluster_file.specs.Files.{damage_in, damage_of, history_of, record_form}
use Rattle.cluster_file.specs.Writing.{AreWrites, HoldsWrites, history_after}
use Rattle.cluster_file.proofs.Standing.{written}
use Rattle.cluster_file.proofs.Walking.{after_all-push}
use Rattle.log_file.specs.Crashes.{AddingLeaves, HoldsEither}
use Rattle.log_file.specs.Log.{IsLog, IsSettled}
use Rattle.log_file.proofs.Crashing.{still}
use Rattle.object_store.specs.Puts.{Agrees, Puts}
use Rattle.object_store.specs.declared.cluster.PutAnswer.{PutAnswer}
use Rattle.object_store.specs.declared.cluster.PutAnswer.TheVariants as put
use Rattle.olm_disk.specs.Disk.{LeavesOnly, MayLeave, Pending}
use Rattle.olm_disk.proofs.Moments.{started, weaker}
use Rattle.olm_io.specs.declared.traits.Outage.{Outage}
use Rattle.olm_io.specs.declared.traits.Outage.TheVariants as outage
use Rattle.log_store.specs.Crashes.{IsFileOf, IsFileOfEither, KeepLeaves, PutLeaves}
use Rattle.log_store.specs.Store.{LogClusterState, store_history}
use Rattle.log_store.proofs.Keeping.{one_more}
use Rattle.log_store.proofs.Putting.{answer_of, store_of, told_history}

-- bytes that hold writes represent their history
pub file_of : (image : List ℕ) (ws : List Write) → AreWrites ws → HoldsWrites image ws → IsFileOf (history_after ws) image
file_of image ws are holds = let e = written image ws are holds in (ap damage_of e, ap history_of e)

file_of_either : (image : List ℕ) (ws : List Write) (w : Write) → AreWrites ws → AreWrites (ws ++ w ∷ []) → HoldsEither ws w image → IsFileOfEither (history_after ws) w image
file_of_either image ws w are more (inl old) = inl (file_of image ws are old)
file_of_either image ws w are more (inr made) = inr (subst (λ h. IsFileOf h image) (after_all-push (Start empty) ws w) (file_of image (ws ++ w ∷ []) more made))

keep_is_put : (result : Result ℕ Outage) (ws : List Write) (w : Write) (image : List ℕ) → AreWrites ws → AreWrites (ws ++ w ∷ []) → KeepLeaves ws w result image → PutLeaves (history_after ws) w (answer_of result) image
keep_is_put (Ok version) ws w image are more leaves = file_of_either image ws w are more leaves
keep_is_put (Err outage.Failed) ws w image are more leaves = file_of_either image ws w are more leaves
keep_is_put (Err outage.Memory) ws w image are more leaves = file_of image ws are leaves

-- an answer that leaves the history as it was
refused_leaves : (answer : PutAnswer) (h : History) (w : Write) (image : List ℕ) → IsFileOf h image → PutLeaves h w answer image
refused_leaves (put.Done version) h w image is = inl is
refused_leaves (put.Conflict found) h w image is = is
refused_leaves put.Full h w image is = is
refused_leaves put.Failed h w image is = inl is
refused_leaves put.Memory h w image is = is

-- what a settled file leaves
pub settled_leaves : (content image : List ℕ) (pending : Pending) (ws : List Write) → IsSettled content pending ws → MayLeave content pending image → HoldsWrites image ws
settled_leaves content image pending ws settled left = subst (λ (l : List ℕ). HoldsWrites l ws) (sym (still content image pending settled.durable left)) settled.holds

module _ {D : Type 0} (tells : D → Bool) (content : D → List ℕ) (pending : D → Pending) (moment : D → ℕ) (left_since : D → ℕ → List ℕ → Type 0) where
  -- nothing was written, since memory ran out before
  pub nothing_kept : (d : D) (ws : List Write) (w : Write) → ((image : List ℕ) → left_since d (moment d) image → MayLeave (content d) (pending d) image) → IsSettled (content d) (pending d) ws
      → LeavesOnly moment left_since d d (KeepLeaves ws w (Err outage.Memory))
  nothing_kept d ws w here settled = started moment left_since d (λ image. HoldsWrites image ws) (λ image left. settled_leaves (content d) image (pending d) ws settled (here image left))

  -- the record was added
  pub record_kept : (old new : D) (ws : List Write) (w : Write) (version : ℕ) → LeavesOnly moment left_since old new (AddingLeaves ws w (Ok tt)) → LeavesOnly moment left_since old new (KeepLeaves ws w (Ok version))
  record_kept old new ws w version leaves = leaves

  pub record_lost : (e : Outage) (old new : D) (ws : List Write) (w : Write) → LeavesOnly moment left_since old new (AddingLeaves ws w (Err e)) → LeavesOnly moment left_since old new (KeepLeaves ws w (Err e))
  record_lost outage.Failed old new ws w leaves = leaves
  record_lost outage.Memory old new ws w leaves = leaves

  -- a put whose write has the key's version and room
  pub leaves_on : (self : LogClusterState D) (old disk : D) (limit gate : ℕ) (ready : Bool) (ws : List Write) (w : Write) (result : Result ℕ Outage) → store_of old limit ws gate ready ≡ self
      → IsLog (tells old) (content old) (pending old) ws gate ready → record_form.fits w ≡ true → Agrees (history_after self.writes) w
      → (tells old ≡ true → LeavesOnly moment left_since old disk (KeepLeaves ws w result))
      → tells self.disk ≡ true → LeavesOnly moment left_since self.disk disk (PutLeaves (history_after self.writes) w (answer_of result))
  leaves_on self old disk limit gate ready ws w result view_is log spelled agrees leaves told =
      subst
      (λ (s : LogClusterState D). Agrees (history_after s.writes) w → tells s.disk ≡ true → LeavesOnly moment left_since s.disk disk (PutLeaves (history_after s.writes) w (answer_of result)))
      view_is
      (λ agrees told.
      weaker moment left_since old disk (KeepLeaves ws w result) (PutLeaves (history_after ws) w (answer_of result)) (leaves told)
      (λ image one. keep_is_put result ws w image log.are_writes (one_more ws w log.are_writes spelled agrees) one))
      agrees told

  -- a put that is refused before the disk is called
  pub leaves_nothing : (self : LogClusterState D) (old : D) (limit gate : ℕ) (ready : Bool) (ws : List Write) (w : Write) (answer : PutAnswer) → store_of old limit ws gate ready ≡ self
      → IsLog (tells old) (content old) (pending old) ws gate ready → self.ready ≡ true → ((image : List ℕ) → left_since old (moment old) image → MayLeave (content old) (pending old) image)
      → tells self.disk ≡ true → LeavesOnly moment left_since self.disk self.disk (PutLeaves (history_after self.writes) w answer)
  leaves_nothing self old limit gate ready ws w answer view_is log is here told =
      subst
      (λ (s : LogClusterState D). s.ready ≡ true → tells s.disk ≡ true → LeavesOnly moment left_since s.disk s.disk (PutLeaves (history_after s.writes) w answer))
      view_is
      (λ is told.
      started moment left_since old (PutLeaves (history_after ws) w answer)
      (λ image left. refused_leaves answer (history_after ws) w image (file_of image ws log.are_writes (settled_leaves (content old) image (pending old) ws (log.settled told is) (here image left)))))
      is told

  -- the history of a store that is ready is that of its writes
  pub told_writes : (self : LogClusterState D) (old : D) (limit gate : ℕ) (ready : Bool) (ws : List Write) → store_of old limit ws gate ready ≡ self
      → IsLog (tells old) (content old) (pending old) ws gate ready → self.ready ≡ true → store_history (tells self.disk) (content self.disk) self.writes ≡ history_after self.writes
  told_writes self old limit gate ready ws view_is log is =
      subst (λ (s : LogClusterState D). s.ready ≡ true → store_history (tells s.disk) (content s.disk) s.writes ≡ history_after s.writes) view_is
      (λ is. told_history (tells old) (content old) (pending old) ws gate ready log is) is

  -- of a store that is ready a crash now leaves its history
  pub leaves_now : (self : LogClusterState D) (old : D) (limit gate : ℕ) (ready : Bool) (ws : List Write) → store_of old limit ws gate ready ≡ self
      → IsLog (tells old) (content old) (pending old) ws gate ready → ((image : List ℕ) → left_since old (moment old) image → MayLeave (content old) (pending old) image)
      → tells self.disk ≡ true → self.ready ≡ true → (image : List ℕ) → left_since self.disk (moment self.disk) image → IsFileOf (store_history (tells self.disk) (content self.disk) self.writes) image
  leaves_now self old limit gate ready ws view_is log here told is =
      subst
      (λ (s : LogClusterState D). tells s.disk ≡ true → s.ready ≡ true → (image : List ℕ) → left_since s.disk (moment s.disk) image → IsFileOf (store_history (tells s.disk) (content s.disk) s.writes) image)
      view_is
      (λ told is image left.
      subst (λ h. IsFileOf h image) (sym (told_history (tells old) (content old) (pending old) ws gate ready log is))
      (file_of image ws log.are_writes (settled_leaves (content old) image (pending old) ws (log.settled told is) (here image left))))
      told is

  pub durable_now : (self : LogClusterState D) (old : D) (limit gate : ℕ) (ready : Bool) (ws : List Write) → store_of old limit ws gate ready ≡ self
      → IsLog (tells old) (content old) (pending old) ws gate ready → tells self.disk ≡ true → self.ready ≡ true → IsSettled (content self.disk) (pending self.disk) self.writes
  durable_now self old limit gate ready ws view_is log told is =
      subst (λ (s : LogClusterState D). tells s.disk ≡ true → s.ready ≡ true → IsSettled (content s.disk) (pending s.disk) s.writes) view_is (λ told is. log.settled told is) told is
