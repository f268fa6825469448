-- A write that is kept, and the file that holds it.
use Rattle.std.proofs.Common.{◌≡◌, ◌≤◌, ◌+◌, ℕ, List, [], ◌∷◌, ◌++◌, length, Bool, true, refl, sym, ap, ◌∙◌, subst, arith}
use Rattle.std.specs.List.{list_all}
use Rattle.std.proofs.lemmas.Bool.{and_parts, and_from}
use Rattle.cluster_objects.specs.declared.objects.Write.{Write}
use Rattle.cluster_history.specs.History.{Start, IsHistory, empty}
use Rattle.cluster_file.specs.Files.{record_form}
use Rattle.cluster_file.specs.Writing.{AreWrites, history_after, piece, place_after}
use Rattle.cluster_file.proofs.Gates.{place-push}
use Rattle.cluster_file.proofs.Walking.{after_all-push}
use Rattle.log_file.proofs.Adding.{gate_within}
use Rattle.log_file.specs.Log.{IsLog, IsSettled}
use Rattle.object_store.specs.Puts.{Agrees}
use Rattle.olm_disk.specs.Disk.{Pending}

fit_more : (ws : List Write) (w : Write) → list_all record_form.fits ws ≡ true → record_form.fits w ≡ true → list_all record_form.fits (ws ++ w ∷ []) ≡ true
fit_more [] w all one = and_from (record_form.fits w) true one refl
fit_more (x ∷ ws) w all one =
    let parts = and_parts (record_form.fits x) (list_all record_form.fits ws) all in
    and_from (record_form.fits x) (list_all record_form.fits (ws ++ w ∷ [])) parts.0 (fit_more ws w parts.1 one)

pub one_more : (ws : List Write) (w : Write) → AreWrites ws → record_form.fits w ≡ true → Agrees (history_after ws) w → AreWrites (ws ++ w ∷ [])
one_more ws w are spelled agrees = record {
  fit = fit_more ws w are.fit spelled;
  agree = subst IsHistory (sym (after_all-push (Start empty) ws w)) (agrees, are.agree);
}

-- the last gate of a settled file is in it
pub within_file : (tells : Bool) (content : List ℕ) (pending : Pending) (ws : List Write) (gate : ℕ) → IsLog tells content pending ws gate true → tells ≡ true → gate + 1 ≤ length content
within_file tells content pending ws gate log told = omega (arith, log.place, gate_within content ws (log.settled told refl).holds)

pub log_done : (tells : Bool) (content : List ℕ) (pending : Pending) (ws : List Write) (w : Write) (gate : ℕ) → AreWrites ws → gate ≡ place_after ws → record_form.fits w ≡ true → Agrees (history_after ws) w
    → (tells ≡ true → IsSettled content pending (ws ++ w ∷ [])) → IsLog tells content pending (ws ++ w ∷ []) (gate + length (piece w 0)) true
log_done tells content pending ws w gate are at spelled agrees file = record {
  are_writes = one_more ws w are spelled agrees;
  place = ap (λ n. n + length (piece w 0)) at ∙ sym (place-push ws w 0);
  settled = λ told ready. file told;
}
