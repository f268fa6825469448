-- A short file, and that of the empty history.
use Rattle.std.proofs.Common.{◌≡◌, ◌≤◌, ◌∷◌, ◌++◌, [], ℕ, List, length, take, Result, Ok, Err, OnOk, refl, sym, ap, ◌∙◌, arith}
use Rattle.cluster_file.specs.Files.{header, stands}
use Rattle.cluster_file.specs.Writing.{empty_file}
use Rattle.cluster_file.proofs.Standing.{stands_short}
use Rattle.olm_disk.specs.Disk.{Pending, PartlyCut, Torn, written}
use Rattle.olm_disk.proofs.Places.{length-written}
use Rattle.olm_io.specs.declared.traits.Outage.{Outage}
use Rattle.olm_io.specs.declared.traits.Outage.TheVariants as outage

-- nine bytes or fewer stand for the same as any others
pub both_short : (old new : List ℕ) → length old ≤ 9 → length new ≤ 9 → stands new ≡ stands old
both_short old new short short' = stands_short new short' ∙ sym (stands_short old short)

pub nine : length empty_file ≡ 9
unfolding header
nine = refl

pub is_empty_file : (old mid new : List ℕ) → mid ≡ take 0 old → new ≡ written 0 (79 ∷ 76 ∷ 77 ∷ 76 ∷ 79 ∷ 71 ∷ 48 ∷ 49 ∷ 0 ∷ []) mid → new ≡ empty_file
unfolding header
is_empty_file old mid new cut is = is ∙ ap (written 0 (79 ∷ 76 ∷ 77 ∷ 76 ∷ 79 ∷ 71 ∷ 48 ∷ 49 ∷ 0 ∷ [])) cut

pub on_ok : {P Q : Type 0} (result : Result Unit Outage) → OnOk result P → (P → Q) → OnOk result Q
on_ok (Ok done) p f = f p
on_ok (Err e) p f = tt

pub short_written : (result : Result Unit Outage) (piece old mid new : List ℕ) (before after : Pending) → length piece ≤ 9 → mid ≡ take 0 old → OnOk result (new ≡ written 0 piece mid)
    → (result ≡ Err outage.Failed → Torn 0 (length piece) mid new) → (result ≡ Err outage.Memory → (new ≡ mid) × (after ≡ before)) → length new ≤ 9
short_written (Ok done) piece old mid new before after size cut is torn memory = omega (arith, ap length is, length-written 0 piece mid, size, ap length cut)
short_written (Err outage.Failed) piece old mid new before after size cut is torn memory = omega (arith, (torn refl).longest, size, ap length cut)
short_written (Err outage.Memory) piece old mid new before after size cut is torn memory = omega (arith, ap length (memory refl).0, ap length cut)

pub short_cut : (e : Outage) (old new : List ℕ) (before after : Pending) → length old ≤ 9 → (e ≡ outage.Failed → PartlyCut 0 old new) → (e ≡ outage.Memory → (new ≡ old) × (after ≡ before)) → length new ≤ 9
short_cut outage.Failed old new before after short partly memory = omega (arith, (partly refl).longest, short)
short_cut outage.Memory old new before after short partly memory = omega (arith, ap length (memory refl).0, short)
