-- The file of a store isn't damaged, however a call of the disk ended.
use Rattle.std.proofs.Common.{◌≡◌, ◌⊎◌, inl, inr, ℕ, List, [], ◌∷◌, ◌++◌, Bool, true, Option, None, Result, Ok, Err, refl, sym, ap, ◌∙◌}
use Rattle.cluster_objects.specs.declared.objects.Write.{Write}
use Rattle.cluster_file.specs.Files.{damage_in, damage_of, record_form, stands}
use Rattle.cluster_file.specs.Writing.{AreWrites, HoldsWrites, history_after}
use Rattle.cluster_file.proofs.Standing.{written}
use Rattle.log_file.specs.Log.{AddsRecord, IsLog}
use Rattle.object_store.specs.Puts.{Agrees}
use Rattle.olm_disk.specs.Disk.{Pending}
use Rattle.olm_io.specs.declared.traits.Outage.{Outage}
use Rattle.olm_io.specs.declared.traits.Outage.TheVariants as outage
use Rattle.log_store.specs.Store.{IsWhole}
use Rattle.log_store.proofs.Keeping.{one_more}
use Rattle.log_store.proofs.Opening.{sound_log}

-- what was read from a file, or is settled in it
pub whole_log : (tells : Bool) (content : List ℕ) (pending : Pending) (ws : List Write) (gate : ℕ) → IsLog tells content pending ws gate true → IsWhole tells content
whole_log tells content pending ws gate log told = sound_log tells content pending ws gate true log told refl

-- what stands for what the file stood for
pub whole_same : (tells now : Bool) (content new : List ℕ) → now ≡ tells → (tells ≡ true → stands new ≡ stands content) → IsWhole tells content → IsWhole now new
whole_same tells now content new e same whole told =
    let before = sym e ∙ told in
    ap damage_of (same before) ∙ whole before

-- a record that was added, or not quite
pub whole_added : (tells now : Bool) (content : List ℕ) (pending : Pending) (ws : List Write) (w : Write) (result : Result Unit Outage) → now ≡ tells
    → AreWrites ws → record_form.fits w ≡ true → Agrees (history_after ws) w → (tells ≡ true → AddsRecord content pending ws w result) → IsWhole now content
whole_added tells now content pending ws w result e are spelled agrees adds told = by_result result (adds (sym e ∙ told))
  where
    more : AreWrites (ws ++ w ∷ [])
    more = one_more ws w are spelled agrees

    by_result : (r : Result Unit Outage) → AddsRecord content pending ws w r → damage_in content ≡ None
    by_result (Ok done) settled = ap damage_of (written content (ws ++ w ∷ []) more settled.holds)
    by_result (Err outage.Failed) (inl old) = ap damage_of (written content ws are old)
    by_result (Err outage.Failed) (inr made) = ap damage_of (written content (ws ++ w ∷ []) more made)
    by_result (Err outage.Memory) settled = ap damage_of (written content ws are settled.holds)
