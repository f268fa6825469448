-- The place of the last gate, and what has place behind it.
use Rattle.std.proofs.Common.{◌≡◌, ◌≤◌, ◌<◌, ◌+◌, ◌^◌, ◌↔◌, ℕ, List, [], ◌∷◌, ◌++◌, length, ◌-◌, inl, inr, Bool, true, false, leb, ltb, sym, ap, ◌∙◌, arith, length-append}
use Rattle.std.specs.List.{sum_by}
use Rattle.std.proofs.lemmas.List.Sums.{sum_by-cons}
use Rattle.std.proofs.lemmas.Bool.{and_from, and_left, and_right, cases_lt, le-leb, le-ltb, leb-true, lt-leb, lt-ltb}
use Rattle.cluster_objects.specs.declared.objects.Write.{Write}
use Rattle.cluster_history.specs.History.{History, Start, After, after_all, empty, position}
use Rattle.cluster_file.specs.Files.{header, record_form}
use Rattle.cluster_file.specs.Writing.{history_after, piece, place_after, records}
use Rattle.cluster_file.proofs.Gates.{front-length, place-push}
use Rattle.cluster_file.proofs.Walking.{records-first, records-none}
use Rattle.object_store.proofs.Appending.{position-kept}
use Rattle.object_store.specs.Puts.{has_room}
use Rattle.log_store.specs.Store.{fits, gate_place, has_place}

gate_from : (h : History) (ws : List Write) → gate_place (after_all h ws) ≡ gate_place h + length (records ws)
gate_from h [] = omega (arith, ap length records-none)
gate_from h (w ∷ ws) =
    omega (arith, gate_from (After w h) ws, ap length (records-first w ws), length-append (record_form.spell w) (records ws), length-append (record_form.spell w) (0 ∷ []))

pub gate_all : (ws : List Write) → gate_place (history_after ws) ≡ place_after ws
unfolding place_after
gate_all ws = gate_from (Start empty) ws

sum_from : (h : History) (ws : List Write) → gate_place (after_all h ws) ≡ gate_place h + sum_by (λ w. length (piece w 0)) ws
sum_from h [] = omega arith
sum_from h (w ∷ ws) = omega (arith, sum_from (After w h) ws, sum_by-cons (λ x. length (piece x 0)) w ws)

pub gate_sum : (ws : List Write) → gate_place (history_after ws) ≡ 8 + sum_by (λ w. length (piece w 0)) ws
gate_sum ws = sum_from (Start empty) ws

-- the file that ends with the last gate
pub file_size : (ws : List Write) → length (header ++ records ws ++ 0 ∷ []) ≡ gate_place (history_after ws) + 1
file_size ws = omega (arith, length-append (header ++ records ws) (0 ∷ []), front-length ws, gate_all ws)

next_size : (ws : List Write) (w : Write) → length (header ++ records (ws ++ w ∷ []) ++ 0 ∷ []) ≡ gate_place (history_after ws) + 1 + length (piece w 0)
next_size ws w = omega (arith, file_size (ws ++ w ∷ []), gate_all (ws ++ w ∷ []), gate_all ws, place-push ws w 0)

pub fits_where : (ws : List Write) (w : Write) → (fits (history_after ws) w ≡ true) ↔ (length (header ++ records (ws ++ w ∷ []) ++ 0 ∷ []) ≤ 2 ^ 40)
fits_where ws w = (
  λ e. omega (arith, next_size ws w, leb-true (gate_place (history_after ws) + 1 + length (piece w 0)) (2 ^ 40) e),
  λ le. le-leb (gate_place (history_after ws) + 1 + length (piece w 0)) (2 ^ 40) (omega (arith, next_size ws w, le)),
)

-- ---- room

same_place : (gate : ℕ) (ws : List Write) (w : Write) → gate ≡ place_after ws → fits (history_after ws) w ≡ has_place gate (length (piece w 0))
same_place gate ws w at = ap (λ n. has_place n (length (piece w 0))) (gate_all ws ∙ sym at)

pub has_room-true : (limit gate : ℕ) (ws : List Write) (w : Write) → gate ≡ place_after ws → has_place gate (length (piece w 0)) ≡ true → length ws < limit
    → has_room (fits (history_after ws) w) limit (history_after ws) ≡ true
has_room-true limit gate ws w at place below =
    and_from (fits (history_after ws) w) (ltb (position (history_after ws)) limit) (same_place gate ws w at ∙ place) (lt-ltb (position (history_after ws)) limit (omega (arith, position-kept ws, below)))

pub has_room-no_place : (limit gate : ℕ) (ws : List Write) (w : Write) → gate ≡ place_after ws → has_place gate (length (piece w 0)) ≡ false → has_room (fits (history_after ws) w) limit (history_after ws) ≡ false
has_room-no_place limit gate ws w at place = and_left (fits (history_after ws) w) (ltb (position (history_after ws)) limit) (same_place gate ws w at ∙ place)

pub has_room-limit : (place : Bool) (limit : ℕ) (ws : List Write) → limit ≤ length ws → has_room place limit (history_after ws) ≡ false
has_room-limit place limit ws over = and_right place (ltb (position (history_after ws)) limit) (le-ltb (position (history_after ws)) limit (omega (arith, position-kept ws, over)))

-- the test of place, without a sum that could pass the end of its type
pub place_test : (gate size limit : ℕ) → ltb size (limit - gate) ≡ leb (gate + 1 + size) limit
place_test gate size limit = elim (cases_lt size (limit - gate)) [
  | inl lt ↦ lt-ltb size (limit - gate) lt ∙ sym (le-leb (gate + 1 + size) limit (omega (arith, lt)))
  | inr le ↦ le-ltb size (limit - gate) le ∙ sym (lt-leb (gate + 1 + size) limit (omega (arith, le)))
]
