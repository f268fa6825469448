-- What a disk in memory tells of its calls.
use Rattle.std.proofs.Common.{◌≡◌, ◌≤◌, ◌<◌, ◌+◌, ◌⊎◌, inl, inr, ⊎_elim, ℕ, List, length, min, refl, sym, ap, ◌∙◌, subst, arith}
use Rattle.std.proofs.lemmas.Bool.{cases_lt, false≢true}
use Rattle.std.specs.Prelude.{slice_index, if◌then◌else◌, Option, Bool, Result, Ok, Err, OnOk, OnErr, IsOk, IsErr}
use Rattle.std.specs.List.{take_while}
use Rattle.olm_io.specs.Outside.{one_more, HasCause}
use Rattle.olm_disk.specs.Disk.{Pending, nothing_pending, MayLeave, Elapses, is_in}
use Rattle.olm_disk.specs.Kept.{Kept, begun, after}
use Rattle.olm_disk.specs.MemDisk.{MemDiskState, began_by, first_content, kept_at, kept_now, Steps, MightHaveLeft, IsJunk, IsImage, IsMemDisk}
use Rattle.olm_disk.specs.declared.keep.Keep.{Keep}
use Rattle.olm_disk.specs.declared.keep.Keep.TheVariants.{Old, New, Junk}
use Rattle.olm_disk.proofs.Images.{IsSound, kept_sound, now_may, only_content}
use Rattle.olm_disk.proofs.Stages.{now_all}
use Rattle.olm_disk.specs.declared.change.Stage.{Stage}

-- what a disk that holds this may leave in a crash
abbrev pub Leaves : Kept → List ℕ → Type 0
Leaves kept image = MayLeave kept.content kept.pending image

-- a call that took the clock on
pub steps_elapse : (old new : MemDiskState) (now : Kept) → Steps old new now → Elapses old.clock new.clock (MightHaveLeft old) (MightHaveLeft new) (Leaves (kept_now new))
steps_elapse old new now s = record {
  later = s.later;
  nothing_else = λ t image le left. split t image left;
  still = λ lt t image left. (left.0, left.1, omega (arith, left.2, s.later), subst (λ (k : Kept). Leaves k image) (sym (s.before left.0 (omega (arith, left.2, lt)))) left.3);
}
  where
    split : (t : ℕ) (image : List ℕ) → MightHaveLeft new t image → MightHaveLeft old t image ⊎ Leaves (kept_now new) image
    split t image left = elim (cases_lt left.0 new.clock) [
      | inl lt ↦ inl (left.0, left.1, omega (arith, lt, s.clock), subst (λ (k : Kept). Leaves k image) (s.before left.0 lt) left.3)
      | inr ge ↦ inr (subst (λ m. Leaves (kept_at new m) image) (omega (arith, ge, left.2)) left.3)
    ]

-- with a wider word for what is left now
pub elapse_wider : (before now : ℕ) (past since : ℕ → List ℕ → Type 0) (P Q : List ℕ → Type 0) → Elapses before now past since P → ((image : List ℕ) → P image → Q image) → Elapses before now past since Q
elapse_wider before now past since P Q time wide = record {
  later = time.later;
  nothing_else = λ t image le left. ⊎_elim (λ x. inl x) (λ x. inr (wide image x)) (time.nothing_else t image le left);
  still = time.still;
}

-- after a sync that succeeded a crash leaves what it might have left before
pub synced_may : (disk : MemDiskState) (image : List ℕ) → Leaves (begun (kept_now disk).content) image → Leaves (kept_now disk) image
synced_may disk image left =
    subst (Leaves (kept_now disk)) (sym (only_content (kept_now disk).content image left)) (now_may (kept_now disk) (kept_sound disk.start (take_while (began_by disk.clock) disk.stages)))

-- each image is one that a crash may leave
pub image_may : (keep : Keep) (kept : Kept) (image : List ℕ) → IsSound kept → IsImage keep kept image → Leaves kept image
image_may Old kept image s is = subst (Leaves kept) (sym is) s.durable
image_may New kept image s is = subst (Leaves kept) (sym is) (now_may kept s)
image_may (Junk byte) kept image s is = record {
  shortest = omega (arith, is.size, s.shortest);
  longest = omega (arith, is.size, s.longest);
  stays = λ place lt out. is.places place (omega (arith, lt, s.shortest)) ∙ ap (λ b. if b then byte else slice_index kept.content place) out;
}

-- what is kept at hand is what the disk holds
pub content_now : (start : Option (List ℕ)) (content : List ℕ) (stages : List Stage) (room clock : ℕ) (settled : Bool) (call faults : ℕ) (fails : List ℕ) → IsMemDisk start content stages room clock settled
    → (kept_now (record { start = first_content start content; stages = stages; clock = clock; call = call; faults = faults; fails = fails })).content ≡ content
content_now start content stages room clock settled call faults fails is =
    ap (λ (kept : Kept). kept.content) (now_all (record { start = first_content start content; stages = stages; clock = clock; call = call; faults = faults; fails = fails }) is.begun_by_now) ∙ sym is.content_is

-- a sync that succeeded makes the content durable, and one that failed changes nothing
module _ {T E : Type 0} (old new : MemDiskState) where
  pub sync_durable : (r : Result T E) → OnOk r (Steps old new (begun (kept_now old).content)) → OnOk r ((kept_now new).pending ≡ nothing_pending (kept_now new).content)
  sync_durable (Ok v) s = ap (λ (k : Kept). k.pending) s.now ∙ sym (ap (λ (k : Kept). nothing_pending k.content) s.now)
  sync_durable (Err e) s = s

  pub sync_pending : (r : Result T E) → OnErr r (Steps old new (kept_now old)) → OnErr r ((kept_now new).pending ≡ (kept_now old).pending)
  sync_pending (Ok v) s = s
  sync_pending (Err e) s = ap (λ (k : Kept). k.pending) s.now

  pub sync_content : (r : Result T E) → OnOk r (Steps old new (begun (kept_now old).content)) → OnErr r (Steps old new (kept_now old)) → (kept_now new).content ≡ (kept_now old).content
  sync_content (Ok v) ok err = ap (λ (k : Kept). k.content) ok.now
  sync_content (Err e) ok err = ap (λ (k : Kept). k.content) err.now

  pub sync_time : (r : Result T E) → OnOk r (Steps old new (begun (kept_now old).content)) → OnErr r (Steps old new (kept_now old)) → Elapses old.clock new.clock (MightHaveLeft old) (MightHaveLeft new) (Leaves (kept_now old))
  sync_time (Ok v) ok err =
      elapse_wider _ _ _ _ (Leaves (kept_now new)) (Leaves (kept_now old)) (steps_elapse old new _ ok) (λ image left. synced_may old image (subst (λ (k : Kept). Leaves k image) ok.now left))
  sync_time (Err e) ok err =
      elapse_wider _ _ _ _ (Leaves (kept_now new)) (Leaves (kept_now old)) (steps_elapse old new _ err) (λ image left. subst (λ (k : Kept). Leaves k image) err.now left)

-- the same of a sync that always succeeds
module _ (old new : MemDiskState) where
  pub sure_durable : {T E : Type 0} (r : Result T E) → Steps old new (begun (kept_now old).content) → OnOk r ((kept_now new).pending ≡ nothing_pending (kept_now new).content)
  sure_durable (Ok v) s = ap (λ (k : Kept). k.pending) s.now ∙ sym (ap (λ (k : Kept). nothing_pending k.content) s.now)
  sure_durable (Err e) s = tt

  pub sure_time : Steps old new (begun (kept_now old).content) → Elapses old.clock new.clock (MightHaveLeft old) (MightHaveLeft new) (Leaves (kept_now old))
  sure_time s =
      elapse_wider _ _ _ _ (Leaves (kept_now new)) (Leaves (kept_now old)) (steps_elapse old new _ s) (λ image left. synced_may old image (subst (λ (k : Kept). Leaves k image) s.now left))

pub sure_pending : {T E : Type 0} (r : Result T E) (P : Type 0) → IsOk r → OnErr r P
sure_pending (Ok v) P sure = tt
sure_pending (Err e) P sure = absurd (false≢true sure)

pub sure_cause : {T E : Type 0} (r : Result T E) → IsOk r → HasCause 0 0 (IsErr r)
sure_cause (Ok v) sure = record { later = omega arith; rose = λ lie. (cc) }
sure_cause (Err e) sure = absurd (false≢true sure)
