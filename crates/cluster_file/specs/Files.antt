-- What a cluster's file stands for.
use Rattle.std.specs.Prelude.{ℕ, zero, suc, ◌+◌, ◌-◌, ◌==◌, ◌&&◌, Bool, true, false, nat_lt, List, [], ◌∷◌, length, take, drop, codes, Option, Some, None, if◌then◌else◌}
use Rattle.payloads.specs.Form.{Form, ◌>>=◌, whole, bytes_form}
use Rattle.payloads.specs.Objects.{write_form}
use Rattle.cluster_objects.specs.Keys.{same_text}
use Rattle.cluster_objects.specs.declared.objects.Write.{Write}
use Rattle.cluster_history.specs.History.{History, Start, After, empty, slot}

-- the eight bytes with which a file begins
unfoldable pub header : List ℕ
header = codes "OLMLOG01"

-- a gate behind which a record counts
abbrev pub is_open : ℕ → Bool
is_open gate = gate == 1

-- A record is a write as a payload, behind the payload's length: what stands behind its gate.
unfoldable pub record_form : Form Write
record_form = record {
  spell = λ w. bytes_form.spell (write_form.spell w);
  read = λ bytes. bytes_form.read bytes >>= λ p. whole write_form p.0 >>= λ w. Some (w, p.1);
  fits = λ w. write_form.fits w && bytes_form.fits (write_form.spell w);
}

-- something stands there
abbrev pub is_more : List ℕ → Bool
is_more [] = false
is_more (b ∷ bytes) = true

-- The write of the record that stands in front, and the bytes from the next gate on: none where the length, the payload or the next gate passes the end, or the payload is no write.
unfoldable pub record_at : List ℕ → Option (Write × List ℕ)
record_at bytes = record_form.read bytes >>= λ r. if is_more r.1 then Some r else None

-- a write that expects its key's version
abbrev pub agrees : History → Write → Bool
agrees h w = w.expect == (slot h w.key).version

-- the same after this history, whose write has to expect its key's version there
unfoldable pub next_record : History → List ℕ → Option (Write × List ℕ)
next_record h bytes = record_at bytes >>= λ r. if agrees h r.0 then Some r else None

-- A file stands for a history, with the place of its last gate, or for none, with the place of the damage.
pub data Standing : Type 0 where
  Stands : History → ℕ → Standing
  Damaged : ℕ → Standing

-- behind an open gate: the next record and what it goes on to, or damage at the gate's place
abbrev pub goes_on : ℕ → Option (Write × List ℕ) → (Write × List ℕ → Standing) → Standing
goes_on place None next = Damaged place
goes_on place (Some r) next = next r

-- What the bytes from a gate on make of a history, where this is the gate's place. The first number is a bound on the records, at least the number of bytes.
unfoldable pub standing_from : ℕ → History → ℕ → List ℕ → Standing
standing_from zero h place bytes = Damaged place
standing_from (suc bound) h place [] = Damaged place
standing_from (suc bound) h place (gate ∷ behind) =
    if is_open gate
    then goes_on place (next_record h behind) (λ r. standing_from bound (After r.0 h) (place + (1 + length behind - length r.1)) r.1)
    else Stands h place

-- Nine bytes or fewer stand for the empty history, whatever they are. More begin with the header, and the first gate stands behind it.
unfoldable pub stands : List ℕ → Standing
stands bytes =
    if nat_lt 9 (length bytes)
    then if same_text (take 8 bytes) header then standing_from (length bytes) (Start empty) 8 (drop 8 bytes) else Damaged 0
    else Stands (Start empty) 8

abbrev pub history_of : Standing → History
history_of (Stands h place) = h
history_of (Damaged at) = Start empty

abbrev pub damage_of : Standing → Option ℕ
damage_of (Stands h place) = None
damage_of (Damaged at) = Some at

-- the history that a file stands for; the empty one where it is damaged
abbrev pub history_in : List ℕ → History
history_in bytes = history_of (stands bytes)

-- the place of the damage
abbrev pub damage_in : List ℕ → Option ℕ
damage_in bytes = damage_of (stands bytes)
