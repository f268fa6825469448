-- What a put leaves of a store.
use Rattle.std.proofs.Common.{◌≡◌, ◌<◌, ◌+◌, ◌⊎◌, inl, inr, ℕ, List, [], ◌∷◌, ◌++◌, length, Bool, true, false, not, Result, Ok, Err, refl, sym, ap, ◌∙◌, subst, arith}
use Rattle.std.proofs.lemmas.Bool.{false≢true}
use Rattle.cluster_objects.specs.declared.objects.Write.{Write}
use Rattle.cluster_history.specs.History.{Start, After, empty, position}
use Rattle.cluster_file.specs.Files.{history_of}
use Rattle.cluster_file.specs.Writing.{AreWrites, HoldsWrites, history_after, piece}
use Rattle.cluster_file.proofs.Standing.{written}
use Rattle.cluster_file.proofs.Walking.{after_all-push}
use Rattle.cluster_file.specs.Files.{record_form}
use Rattle.log_file.specs.Log.{IsLog}
use Rattle.object_store.proofs.Appending.{position-kept}
use Rattle.object_store.specs.Puts.{Agrees, Puts, has_room, put_failed}
use Rattle.object_store.specs.declared.cluster.PutAnswer.{PutAnswer}
use Rattle.object_store.specs.declared.cluster.PutAnswer.TheVariants as put
use Rattle.olm_disk.specs.Disk.{Pending}
use Rattle.olm_io.specs.Outside.{HasCause}
use Rattle.olm_io.specs.declared.traits.Outage.{Outage}
use Rattle.olm_io.specs.declared.traits.Outage.TheVariants as outage
use Rattle.log_store.specs.Adds.{Adds, PutsOn, is_refused}
use Rattle.log_store.specs.Store.{LogClusterState, fits, has_place, store_history}
use Rattle.log_store.proofs.Keeping.{one_more}
use Rattle.log_store.proofs.Places.{has_room-true}

-- the file of writes stands for their history
held_history : (content : List ℕ) (ws : List Write) → AreWrites ws → HoldsWrites content ws → store_history true content ws ≡ history_after ws
held_history content ws are holds = ap history_of (written content ws are holds)

-- The history of a store that is ready is that of the kept writes.
pub told_history : (tells : Bool) (content : List ℕ) (pending : Pending) (ws : List Write) (gate : ℕ) (ready : Bool) → IsLog tells content pending ws gate ready → ready ≡ true → store_history tells content ws ≡ history_after ws
told_history true content pending ws gate ready log is = held_history content ws log.are_writes (log.settled refl is).holds
told_history false content pending ws gate ready log is = refl

-- a store of these parts
abbrev pub store_of : {D : Type 0} → D → ℕ → List Write → ℕ → Bool → LogClusterState D
store_of disk limit ws gate ready = record { disk = disk; limit = limit; writes = ws; gate = gate; ready = ready }

-- the same of the parts of a store and of what it is seen as
pub told_store : {D : Type 0} (tells : D → Bool) (content : D → List ℕ) (pending : D → Pending) (self : LogClusterState D) (disk : D) (limit gate : ℕ) (ready : Bool) (ws : List Write)
    → store_of disk limit ws gate ready ≡ self → IsLog (tells disk) (content disk) (pending disk) ws gate ready → self.ready ≡ true
    → store_history (tells self.disk) (content self.disk) self.writes ≡ history_after ws
told_store {D} tells content pending self disk limit gate ready ws view_is log is =
    subst (λ (s : LogClusterState D). s.ready ≡ true → store_history (tells s.disk) (content s.disk) s.writes ≡ history_after ws) view_is
    (λ now. told_history (tells disk) (content disk) (pending disk) ws gate ready log now) is

-- After a failed call the history is the old one, or has the write.
pub failed_history : (tells : Bool) (content : List ℕ) (ws : List Write) (w : Write) → AreWrites ws → AreWrites (ws ++ w ∷ []) → (tells ≡ true → HoldsWrites content ws ⊎ HoldsWrites content (ws ++ w ∷ []))
    → (store_history tells content ws ≡ history_after ws) ⊎ (store_history tells content ws ≡ After w (history_after ws))
failed_history true content ws w are more holds = by_file (holds refl)
  where
    by_file : HoldsWrites content ws ⊎ HoldsWrites content (ws ++ w ∷ []) → (store_history true content ws ≡ history_after ws) ⊎ (store_history true content ws ≡ After w (history_after ws))
    by_file (inl old) = inl (held_history content ws are old)
    by_file (inr new) = inr (held_history content (ws ++ w ∷ []) more new ∙ after_all-push (Start empty) ws w)
failed_history false content ws w are more holds = inl refl

-- ---- by the answer of the file

abbrev pub answer_of : Result ℕ Outage → PutAnswer
answer_of (Ok version) = put.Done version
answer_of (Err outage.Failed) = put.Failed
answer_of (Err outage.Memory) = put.Memory

-- a put whose write has the key's version and room, and that the file answered so
pub puts_by_file : (tells tells' : Bool) (content content' : List ℕ) (pending pending' : Pending) (limit gate : ℕ) (ready : Bool) (ws new : List Write) (w : Write) (result : Result ℕ Outage)
    → IsLog tells content pending ws gate ready → ready ≡ true → record_form.fits w ≡ true → has_place gate (length (piece w 0)) ≡ true → Agrees (history_after ws) w → length ws < limit
    → Adds tells' content' pending' gate ws w new result
    → let h = store_history tells content ws in Puts (has_room (fits h w) limit h) h w (store_history tells' content' new) (answer_of result)
puts_by_file tells tells' content content' pending pending' limit gate ready ws new w result log is spelled place agrees below adds =
    subst (λ k. Puts (has_room (fits k w) limit k) k w (store_history tells' content' new) (answer_of result)) (sym (told_history tells content pending ws gate ready log is)) (by_result result adds)
  where
    room : has_room (fits (history_after ws) w) limit (history_after ws) ≡ true
    room = has_room-true limit gate ws w log.place place below

    by_result : (r : Result ℕ Outage) → Adds tells' content' pending' gate ws w new r → Puts (has_room (fits (history_after ws) w) limit (history_after ws)) (history_after ws) w (store_history tells' content' new) (answer_of r)
    by_result (Ok version) (more, at, log') =
        let e : store_history tells' content' new ≡ After w (history_after ws) =
        ap (store_history tells' content') more ∙ told_history tells' content' pending' (ws ++ w ∷ []) (gate + length (piece w 0)) true log' refl ∙ after_all-push (Start empty) ws w in
        (agrees, room, e, omega (arith, at, ap position e, position-kept ws))
    by_result (Err outage.Failed) (same, holds) =
        let e = ap (store_history tells' content') same in
        elim (failed_history tells' content' ws w log.are_writes (one_more ws w log.are_writes spelled agrees) holds) [
          | inl old ↦ inl (e ∙ old)
          | inr made ↦ inr (agrees, room, e ∙ made)
        ]
    by_result (Err outage.Memory) (same, log') = ap (store_history tells' content') same ∙ told_history tells' content' pending' ws gate true log' refl

cause_by_file : (a b : ℕ) (result : Result ℕ Outage) → HasCause a b (result ≡ Err outage.Failed) → HasCause a b (put_failed (answer_of result) ≡ true)
cause_by_file a b (Ok version) cause = record { later = cause.later; rose = λ e. absurd (false≢true e) }
cause_by_file a b (Err outage.Failed) cause = record { later = cause.later; rose = λ e. cause.rose refl }
cause_by_file a b (Err outage.Memory) cause = record { later = cause.later; rose = λ e. absurd (false≢true e) }

not_refused : (result : Result ℕ Outage) → is_refused (answer_of result) ≡ true → ⊥
not_refused (Ok version) e = false≢true e
not_refused (Err outage.Failed) e = false≢true e
not_refused (Err outage.Memory) e = false≢true e

module _ {D : Type 0} (tells : D → Bool) (content : D → List ℕ) (pending : D → Pending) (faults : D → ℕ) where
  -- the parts of a store, and what it is seen as
  pub puts_on : (self : LogClusterState D) (old disk : D) (limit gate place : ℕ) (ready now : Bool) (ws new : List Write) (w : Write) (result : Result ℕ Outage)
      → store_of old limit ws gate ready ≡ self → IsLog (tells old) (content old) (pending old) ws gate ready
      → self.ready ≡ true → record_form.fits w ≡ true → has_place self.gate (length (piece w 0)) ≡ true → Agrees (history_after self.writes) w → length self.writes < self.limit
      → Adds (tells disk) (content disk) (pending disk) gate ws w new result → tells disk ≡ tells old → HasCause (faults old) (faults disk) (result ≡ Err outage.Failed)
      → (ready ≡ true → now ≡ not (put_failed (answer_of result)))
      → PutsOn tells content faults self w (store_of disk limit new place now) (answer_of result)
  puts_on self old disk limit gate place ready now ws new w result view_is log is spelled room agrees below adds still cause ready_is =
      subst
      (λ (s : LogClusterState D). s.ready ≡ true → has_place s.gate (length (piece w 0)) ≡ true → Agrees (history_after s.writes) w → length s.writes < s.limit
      → PutsOn tells content faults s w (store_of disk limit new place now) (answer_of result))
      view_is
      (λ is room agrees below.
      record {
        puts = puts_by_file (tells old) (tells disk) (content old) (content disk) (pending old) (pending disk) limit gate ready ws new w result log is spelled room agrees below adds;
        told = still;
        limit = refl;
        cause = cause_by_file (faults old) (faults disk) result cause;
        ready = ready_is is;
        untouched = λ e. absurd (not_refused result e);
        tried = λ e.
            subst (λ k. Agrees k w × (has_room (fits k w) limit k ≡ true)) (sym (told_history (tells old) (content old) (pending old) ws gate ready log is))
            (agrees, has_room-true limit gate ws w log.place room below);
      })
      is room agrees below

  -- a put that is refused before the disk is called leaves the store as it is
  pub puts_nothing : (self : LogClusterState D) (old : D) (limit gate : ℕ) (ready : Bool) (ws : List Write) (w : Write) (answer : PutAnswer)
      → store_of old limit ws gate ready ≡ self → IsLog (tells old) (content old) (pending old) ws gate ready → self.ready ≡ true
      → Puts (has_room (fits (history_after ws) w) limit (history_after ws)) (history_after ws) w (history_after ws) answer → put_failed answer ≡ false
      → PutsOn tells content faults self w self answer
  puts_nothing self old limit gate ready ws w answer view_is log is puts answered =
      subst (λ (s : LogClusterState D). s.ready ≡ true → PutsOn tells content faults s w s answer) view_is
      (λ is.
      record {
        puts = subst (λ k. Puts (has_room (fits k w) limit k) k w k answer) (sym (told_history (tells old) (content old) (pending old) ws gate ready log is)) puts;
        told = refl;
        limit = refl;
        cause = record { later = omega arith; rose = λ e. absurd (false≢true (sym answered ∙ e)) };
        ready = is ∙ ap not (sym answered);
        untouched = λ e. refl;
        tried = λ e. absurd (false≢true (sym answered ∙ e));
      })
      is
