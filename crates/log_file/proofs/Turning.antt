-- One gate, and the reading from gate to gate.
use Rattle.std.proofs.Common.{◌≡◌, ◌≢◌, ◌≤◌, ◌<◌, ◌+◌, ◌-◌, ℕ, suc, List, [], ◌∷◌, ◌++◌, length, Option, Some, None, Result, Ok, Err, refl, sym, ap, ◌∙◌, subst, arith}
use Rattle.std.specs.Borrow.{Bor}
use Rattle.cluster_objects.specs.declared.objects.Write.{Write}
use Rattle.payloads.specs.Laws.{AreBytes}
use Rattle.payloads.proofs.Combinators.{AreBytes-rest}
use Rattle.cluster_file.specs.Files.{Stands, Damaged, next_record, standing_from}
use Rattle.cluster_file.specs.Writing.{history_after}
use Rattle.cluster_file.proofs.Walking.{broken_gate, closed_gate}
use Rattle.object_store.specs.declared.cluster.ClusterFault.{ClusterFault}
use Rattle.object_store.specs.declared.cluster.ClusterFault.TheVariants as fault
use Rattle.log_file.specs.Folding.{AddsNext, Folds, Turns}
use Rattle.log_file.proofs.Reading.{goes_behind, no_gate, no_turns, shorter}

pub turn_empty : (bound place : ℕ) (ws : List Write) (bytes : List ℕ) → length bytes ≡ 0 → standing_from (suc bound) (history_after ws) place bytes ≡ Damaged place
turn_empty bound place ws [] none = no_gate bound (history_after ws) place
turn_empty bound place ws (b ∷ bytes) none = absurd (omega (arith, none))

pub turn_closed : (bound place gate : ℕ) (ws : List Write) (bytes behind : List ℕ) → bytes ≡ gate ∷ behind → gate ≢ 1 → standing_from (suc bound) (history_after ws) place bytes ≡ Stands (history_after ws) place
turn_closed bound place gate ws bytes behind is ne = ap (λ (l : List ℕ). standing_from (suc bound) (history_after ws) place l) is ∙ closed_gate bound (history_after ws) place gate behind ne

opened : (bound place gate : ℕ) (ws : List Write) (bytes behind : List ℕ) → bytes ≡ gate ∷ behind → gate ≡ 1 → standing_from (suc bound) (history_after ws) place bytes ≡ standing_from (suc bound) (history_after ws) place (1 ∷ behind)
opened bound place gate ws bytes behind is one = ap (λ (l : List ℕ). standing_from (suc bound) (history_after ws) place l) (is ∙ ap (λ g. g ∷ behind) one)

pub turn_broken : (bound place gate : ℕ) (ws : List Write) (bytes behind : List ℕ) → bytes ≡ gate ∷ behind → gate ≡ 1 → next_record (history_after ws) behind ≡ None → standing_from (suc bound) (history_after ws) place bytes ≡ Damaged place
turn_broken bound place gate ws bytes behind is one none = opened bound place gate ws bytes behind is one ∙ broken_gate bound (history_after ws) place behind none

pub turn_on : (bound place gate : ℕ) (old new : ℕ × List Write) (bytes behind : List ℕ) (rest : Bor (List ℕ)) → AreBytes bytes → bytes ≡ gate ∷ behind → gate ≡ 1
    → AddsNext (next_record (history_after old.1) behind) old new (Ok (Some rest)) → Turns bound place old.1 bytes new.1 (Ok (Some rest))
turn_on bound place gate old new bytes behind rest are is one adds =
    let size : length bytes ≡ 1 + length behind = omega (arith, ap length is) in
    let less : length rest.now ≤ length behind = shorter (history_after old.1) behind adds.0 rest.now (AreBytes-rest (gate ∷ []) behind bytes are is) adds.1 in
    let count : 1 + length behind - length rest.now ≡ length bytes - length rest.now = omega (arith, size) in (
      opened bound place gate old.1 bytes behind is one
          ∙ goes_behind bound place old.1 new.1 behind adds.0 rest.now adds.1 (ap (λ (p : ℕ × List Write). p.1) adds.2)
          ∙ ap (λ n. standing_from bound (history_after new.1) (place + n) rest.now) count,
      omega (arith, size, less),
    )

-- What stands for the whole is what the rest makes of the writes that were read.
pub record FoldsOn (total counter : ℕ) (old new : ℕ × List Write) (bytes rest : List ℕ) : Type 0 where
  pub same : standing_from total (history_after old.1) 8 bytes ≡ standing_from (total - counter) (history_after new.1) (total - length rest) rest
  pub short : length rest ≤ total
  pub limit : new.0 ≡ old.0

pub folds_first : (total : ℕ) (old : ℕ × List Write) (bytes : List ℕ) → length bytes + 8 ≡ total → FoldsOn total 0 old old bytes bytes
folds_first total old bytes size =
    let place : 8 ≡ total - length bytes = omega (arith, size) in
    let bound : total ≡ total - 0 = omega arith in
    record {
      same = ap (λ p. standing_from total (history_after old.1) p bytes) place ∙ ap (λ n. standing_from n (history_after old.1) (total - length bytes) bytes) bound;
      short = omega (arith, size);
      limit = refl;
    }

-- one turn less is left
one_less : (total counter : ℕ) (old mid : ℕ × List Write) (bytes rest : List ℕ) → counter < total → FoldsOn total counter old mid bytes rest
    → standing_from total (history_after old.1) 8 bytes ≡ standing_from (suc (total - (counter + 1))) (history_after mid.1) (total - length rest) rest
one_less total counter old mid bytes rest lt on =
    let bound : total - counter ≡ suc (total - (counter + 1)) = omega (arith, lt) in
    on.same ∙ ap (λ n. standing_from n (history_after mid.1) (total - length rest) rest) bound

pub folds_on : (total counter : ℕ) (old mid new : ℕ × List Write) (bytes rest : List ℕ) (behind : Bor (List ℕ)) → counter < total → FoldsOn total counter old mid bytes rest
    → Turns (total - (counter + 1)) (total - length rest) mid.1 rest new.1 (Ok (Some behind)) → new.0 ≡ mid.0 → FoldsOn total (counter + 1) old new bytes behind.now
folds_on total counter old mid new bytes rest behind lt on turns limit =
    let less : length behind.now ≤ length rest = turns.1 in
    let short : length rest ≤ total = on.short in
    let place : total - length rest + (length rest - length behind.now) ≡ total - length behind.now = omega (arith, less, short) in
    record {
      same =
          one_less total counter old mid bytes rest lt on ∙ turns.0
          ∙ ap (λ p. standing_from (total - (counter + 1)) (history_after new.1) p behind.now) place;
      short = omega (arith, less, short);
      limit = limit ∙ on.limit;
    }

pub folds_end : (total counter : ℕ) (old mid new : ℕ × List Write) (bytes rest : List ℕ) → counter < total → FoldsOn total counter old mid bytes rest
    → Turns (total - (counter + 1)) (total - length rest) mid.1 rest new.1 (Ok None) → standing_from total (history_after old.1) 8 bytes ≡ Stands (history_after new.1) (total - length rest)
folds_end total counter old mid new bytes rest lt on turns =
    one_less total counter old mid bytes rest lt on ∙ turns.0 ∙ ap (λ (ws : List Write). Stands (history_after ws) (total - length rest)) (sym turns.1)

pub folds_fault : (f : ClusterFault) (total counter : ℕ) (old mid new : ℕ × List Write) (bytes rest : List ℕ) → counter < total → FoldsOn total counter old mid bytes rest
    → Turns (total - (counter + 1)) (total - length rest) mid.1 rest new.1 (Err f) → Folds (standing_from total (history_after old.1) 8 bytes) new.1 (Err f)
folds_fault fault.Failed total counter old mid new bytes rest lt on turns = turns
folds_fault (fault.Damaged at) total counter old mid new bytes rest lt on turns = one_less total counter old mid bytes rest lt on ∙ turns
folds_fault fault.Memory total counter old mid new bytes rest lt on turns = tt

pub folds_out : (total counter : ℕ) (old mid : ℕ × List Write) (bytes rest : List ℕ) → total ≤ counter → FoldsOn total counter old mid bytes rest → standing_from total (history_after old.1) 8 bytes ≡ Damaged (total - length rest)
folds_out total counter old mid bytes rest le on =
    let bound : total - counter ≡ 0 = omega (arith, le) in
    on.same ∙ ap (λ n. standing_from n (history_after mid.1) (total - length rest) rest) bound ∙ no_turns (history_after mid.1) (total - length rest) rest
