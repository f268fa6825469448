-- What the byte of a gate decides.
use Rattle.std.proofs.Common.{◌≡◌, ◌≢◌, ◌<◌, ◌+◌, ℕ, List, [], ◌∷◌, ◌++◌, length, take, drop, refl, sym, ap, ◌∙◌, arith, append_assoc, length-append, take-append-drop}
use Rattle.std.proofs.lemmas.List.{take_at, append-nil}
use Rattle.cluster_objects.specs.declared.objects.Write.{Write}
use Rattle.cluster_file.specs.Files.{header, record_form}
use Rattle.cluster_file.specs.Writing.{HoldsWrites, empty_file, piece, place_after, records}
use Rattle.cluster_file.proofs.Walking.{records-none, records-push}
use Rattle.cluster_file.proofs.Standing.{length-header}

pub empty_holds : HoldsWrites empty_file []
empty_holds = record { gate = 0; rest = []; closed = λ e. absurd (omega (arith, e)); whole = ap (λ (l : List ℕ). l ++ 0 ∷ []) (sym (append-nil header) ∙ ap (λ (l : List ℕ). header ++ l) (sym records-none)) }

-- the last gate's place is the length of what stands before it
pub front-length : (ws : List Write) → length (header ++ records ws) ≡ place_after ws
unfolding place_after
front-length ws = omega (arith, length-append header (records ws), length-header)

pub held_within : (bytes : List ℕ) (ws : List Write) → HoldsWrites bytes ws → place_after ws < length bytes
held_within bytes ws holds = omega (arith, ap length holds.whole, length-append (header ++ records ws) (holds.gate ∷ holds.rest), front-length ws)

-- the bytes up to the gate, and the gate
up_to : (ws : List Write) (gate : ℕ) (rest : List ℕ) → header ++ records ws ++ gate ∷ rest ≡ (header ++ records ws ++ gate ∷ []) ++ rest
up_to ws gate rest = sym (append_assoc (header ++ records ws) (gate ∷ []) rest)

up_to-length : (ws : List Write) (gate : ℕ) → length (header ++ records ws ++ gate ∷ []) ≡ place_after ws + 1
up_to-length ws gate = omega (arith, length-append (header ++ records ws) (gate ∷ []), front-length ws)

pub held_behind : (bytes other : List ℕ) (ws : List Write) → HoldsWrites bytes ws → take (place_after ws + 1) other ≡ take (place_after ws + 1) bytes → HoldsWrites other ws
held_behind bytes other ws holds same =
    let n = place_after ws + 1 in
    let front = header ++ records ws ++ holds.gate ∷ [] in
    let there : take n bytes ≡ front = ap (take n) (holds.whole ∙ up_to ws holds.gate holds.rest) ∙ take_at front holds.rest n (up_to-length ws holds.gate) in
    record {
      gate = holds.gate;
      rest = drop n other;
      closed = holds.closed;
      whole = sym (take-append-drop n other) ∙ ap (λ (l : List ℕ). l ++ drop n other) (same ∙ there) ∙ sym (up_to ws holds.gate (drop n other));
    }

pub gate_opened : (ws : List Write) (w : Write) (next : ℕ) (rest : List ℕ) → next ≢ 1 → HoldsWrites (header ++ records ws ++ 1 ∷ (piece w next ++ rest)) (ws ++ w ∷ [])
gate_opened ws w next rest closed = record {
  gate = next;
  rest = rest;
  closed = closed;
  whole = ap (λ (l : List ℕ). header ++ records ws ++ 1 ∷ l) (append_assoc (record_form.spell w) (next ∷ []) rest)
      ∙ sym (append_assoc (header ++ records ws) (1 ∷ record_form.spell w) (next ∷ rest))
      ∙ ap (λ (l : List ℕ). l ++ next ∷ rest) (append_assoc header (records ws) (1 ∷ record_form.spell w) ∙ ap (λ (l : List ℕ). header ++ l) (sym (records-push ws w)));
}

pub gate_closed : (ws : List Write) (w : Write) (gate next : ℕ) (rest : List ℕ) → gate ≢ 1 → HoldsWrites (header ++ records ws ++ gate ∷ (piece w next ++ rest)) ws
gate_closed ws w gate next rest closed = record { gate = gate; rest = piece w next ++ rest; closed = closed; whole = refl }

pub place-push : (ws : List Write) (w : Write) (next : ℕ) → place_after (ws ++ w ∷ []) ≡ place_after ws + length (piece w next)
unfolding place_after
place-push ws w next = omega (
  arith,
  ap length (records-push ws w),
  length-append (records ws) (1 ∷ record_form.spell w),
  length-append (record_form.spell w) (next ∷ []),
)
