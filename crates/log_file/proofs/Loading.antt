-- What a file that was read leaves.
use Rattle.std.proofs.Common.{◌≡◌, ◌≤◌, ◌<◌, ◌⊎◌, inl, inr, Bool, true, ℕ, List, [], length, Option, Some, None, refl, sym, ap, ◌∙◌, subst, arith}
use Rattle.std.proofs.lemmas.Bool.{cases_lt}
use Rattle.cluster_objects.specs.declared.objects.Write.{Write}
use Rattle.cluster_history.specs.History.{History, Start, empty}
use Rattle.payloads.specs.Laws.{AreBytes}
use Rattle.cluster_file.specs.Files.{Damaged, Stands, damage_in, damage_of, stands}
use Rattle.cluster_file.specs.Writing.{AreWrites, HoldsWrites, empty_file, history_after, place_after}
use Rattle.cluster_file.proofs.Gates.{empty_holds}
use Rattle.cluster_file.proofs.Standing.{found_writes, place-none, stands_short}
use Rattle.object_store.proofs.Missing.{same_writes}
use Rattle.olm_disk.specs.Disk.{Pending}
use Rattle.log_file.specs.Log.{HasBegun, IsLog}

stands_parts : (h k : History) (p q : ℕ) → Stands h p ≡ Stands k q → (h ≡ k) × (p ≡ q)
stands_parts h k p q e = (cc (e), cc (e))

no_writes : AreWrites []
no_writes = record { fit = refl; agree = tt }

pub loaded : (tells : Bool) (content : List ℕ) (pending : Pending) (bytes : List ℕ) (ws : List Write) (place : ℕ) → AreBytes bytes → stands bytes ≡ Stands (history_after ws) place
    → (tells ≡ true → (bytes ≡ content) × HasBegun content pending) → IsLog tells content pending ws place true
loaded tells content pending bytes ws place are e told = elim (cases_lt 9 (length bytes)) [
  | inl long ↦
      let found = found_writes bytes (history_after ws) place are long e in
      let same : ws ≡ found.0 = same_writes found.0 ws found.3 in
      record {
        are_writes = subst AreWrites (sym same) found.1;
        place = found.4 ∙ ap place_after (sym same);
        settled = λ tell ready.
            let begun = told tell in
            record { holds = subst (λ (l : List ℕ). HoldsWrites l ws) begun.0 (subst (HoldsWrites bytes) (sym same) found.2); durable = begun.1.durable };
      }
  | inr short ↦
      let parts = stands_parts (history_after ws) (Start empty) place 8 (sym e ∙ stands_short bytes short) in
      let none : ws ≡ [] = same_writes [] ws parts.0 in
      record {
        are_writes = subst AreWrites (sym none) no_writes;
        place = parts.1 ∙ sym place-none ∙ ap place_after (sym none);
        settled = λ tell ready.
            let begun = told tell in
            record { holds = subst (HoldsWrites content) (sym none) (short_file content bytes begun.0 short begun.1.size); durable = begun.1.durable };
      }
]
  where
    short_file : (content bytes : List ℕ) → bytes ≡ content → length bytes ≤ 9 → (9 < length content) ⊎ (content ≡ empty_file) → HoldsWrites content []
    short_file content bytes same short (inl long) = absurd (omega (arith, short, long, ap length same))
    short_file content bytes same short (inr is) = subst (λ (l : List ℕ). HoldsWrites l []) (sym is) empty_holds

pub undamaged : (bytes content : List ℕ) (h : History) (place : ℕ) → bytes ≡ content → stands bytes ≡ Stands h place → damage_in content ≡ None
undamaged bytes content h place same e = ap damage_in (sym same) ∙ ap damage_of e

pub damaged_at : (bytes content : List ℕ) (at : ℕ) → bytes ≡ content → stands bytes ≡ Damaged at → damage_in content ≡ Some at
damaged_at bytes content at same e = ap damage_in (sym same) ∙ ap damage_of e

-- the same of equal content and of equal pending writes
pub still_begun : (old new : List ℕ) (before after : Pending) → new ≡ old → after ≡ before → HasBegun old before → HasBegun new after
still_begun old new before after same same' begun = subst (λ (l : List ℕ). HasBegun l after) (sym same) (subst (HasBegun old) (sym same') begun)
