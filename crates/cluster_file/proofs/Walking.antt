-- How the bytes from a gate on are read, a record at a time.
use Rattle.std.proofs.Common.{◌≡◌, ◌≢◌, ◌≤◌, ◌<◌, ◌+◌, ◌-◌, Bool, true, false, cond, ℕ, zero, suc, List, [], ◌∷◌, ◌++◌, length, Option, Some, None, refl, sym, ap, ◌∙◌, subst, arith, append_assoc, length-append}
use Rattle.std.specs.List.{flat_map, list_all}
use Rattle.std.proofs.lemmas.Bool.{and_parts, and_from, ne_eqb, eqb-true}
use Rattle.std.proofs.lemmas.List.{append-nil}
use Rattle.std.proofs.lemmas.Grind.{flat_map-append}
use Rattle.cluster_objects.specs.declared.objects.Write.{Write}
use Rattle.cluster_history.specs.History.{History, After, IsHistory, after_all}
use Rattle.payloads.specs.Laws.{AreBytes}
use Rattle.payloads.proofs.Combinators.{AreBytes-rest}
use Rattle.cluster_file.specs.Files.{Standing, Stands, Damaged, record_form, is_more, is_open, next_record, goes_on, standing_from, history_of}
use Rattle.cluster_file.specs.Writing.{open_record, records}
use Rattle.cluster_file.proofs.RecordForms.{NextIs, next_is, next_agrees, next_only}

-- ---- histories

pub earlier_history : (h : History) (ws : List Write) → IsHistory (after_all h ws) → IsHistory h
earlier_history h [] is = is
earlier_history h (w ∷ ws) is = (earlier_history (After w h) ws is).1

pub after_all-push : (h : History) (ws : List Write) (w : Write) → after_all h (ws ++ w ∷ []) ≡ After w (after_all h ws)
after_all-push h [] w = refl
after_all-push h (x ∷ ws) w = after_all-push (After x h) ws w

-- ---- records

pub records-none : records [] ≡ []
unfolding records
records-none = refl

pub records-first : (w : Write) (ws : List Write) → records (w ∷ ws) ≡ 1 ∷ (record_form.spell w ++ records ws)
unfolding records
records-first w ws = refl

pub records-push : (ws : List Write) (w : Write) → records (ws ++ w ∷ []) ≡ records ws ++ 1 ∷ record_form.spell w
unfolding records
records-push ws w = flat_map-append open_record ws (w ∷ []) ∙ ap (λ (l : List ℕ). flat_map open_record ws ++ 1 ∷ l) (append-nil (record_form.spell w))

pub count-records : (ws : List Write) → length ws ≤ length (records ws)
count-records [] = omega (arith, ap length records-none)
count-records (w ∷ ws) = omega (arith, count-records ws, ap length (records-first w ws), length-append (record_form.spell w) (records ws))

pub more_records : (ws : List Write) (tail : List ℕ) → is_more tail ≡ true → is_more (records ws ++ tail) ≡ true
more_records [] tail some = ap (λ (l : List ℕ). is_more (l ++ tail)) records-none ∙ some
more_records (w ∷ ws) tail some = ap (λ (l : List ℕ). is_more (l ++ tail)) (records-first w ws)

pub some_length : (bytes : List ℕ) → is_more bytes ≡ true → 0 < length bytes
some_length [] some = absurd cc
some_length (b ∷ bytes) some = omega arith

-- ---- one gate

onward : ℕ → History → ℕ → List ℕ → Write × List ℕ → Standing
onward n h place behind r = standing_from n (After r.0 h) (place + (1 + length behind - length r.1)) r.1

step : (n : ℕ) (h : History) (place gate : ℕ) (behind : List ℕ) → standing_from (suc n) h place (gate ∷ behind) ≡ cond (is_open gate) (goes_on place (next_record h behind) (onward n h place behind)) (Stands h place)
unfolding standing_from onward
step n h place gate behind = refl

onward-is : (n : ℕ) (h : History) (place : ℕ) (behind : List ℕ) (r : Write × List ℕ) → onward n h place behind r ≡ standing_from n (After r.0 h) (place + (1 + length behind - length r.1)) r.1
unfolding onward
onward-is n h place behind r = refl

pub closed_gate : (n : ℕ) (h : History) (place gate : ℕ) (rest : List ℕ) → gate ≢ 1 → standing_from (suc n) h place (gate ∷ rest) ≡ Stands h place
closed_gate n h place gate rest ne =
    step n h place gate rest
    ∙ ap (λ b. cond b (goes_on place (next_record h rest) (onward n h place rest)) (Stands h place)) (ne_eqb gate 1 ne)

pub open_gate : (n : ℕ) (h : History) (place : ℕ) (behind : List ℕ) (r : Write × List ℕ) → next_record h behind ≡ Some r
    → standing_from (suc n) h place (1 ∷ behind) ≡ standing_from n (After r.0 h) (place + (1 + length behind - length r.1)) r.1
open_gate n h place behind r e = step n h place 1 behind ∙ ap (λ o. goes_on place o (onward n h place behind)) e ∙ onward-is n h place behind r

pub broken_gate : (n : ℕ) (h : History) (place : ℕ) (behind : List ℕ) → next_record h behind ≡ None → standing_from (suc n) h place (1 ∷ behind) ≡ Damaged place
broken_gate n h place behind e = step n h place 1 behind ∙ ap (λ o. goes_on place o (onward n h place behind)) e

-- ---- records that were written are read

pub walked : (n : ℕ) (h : History) (place : ℕ) (ws : List Write) (tail : List ℕ) → list_all record_form.fits ws ≡ true → IsHistory (after_all h ws) → is_more tail ≡ true
    → standing_from (length ws + n) h place (records ws ++ tail) ≡ standing_from n (after_all h ws) (place + length (records ws)) tail
walked n h place [] tail fit agree some =
    let bound : length {A = Write} [] + n ≡ n = omega arith in
    let same : place ≡ place + length (records []) = omega (arith, ap length records-none) in
    ap (λ m. standing_from m h place (records [] ++ tail)) bound
    ∙ ap (λ (l : List ℕ). standing_from n h place (l ++ tail)) records-none
    ∙ ap (λ p. standing_from n h p tail) same
walked n h place (w ∷ ws) tail fit agree some =
    let f = and_parts (record_form.fits w) (list_all record_form.fits ws) fit in
    let spelled = record_form.spell w in
    let rest = records ws ++ tail in
    let behind = spelled ++ rest in
    let here : IsHistory (After w h) = earlier_history (After w h) ws agree in
    let next : next_record h behind ≡ Some (w, rest) = next_is h w rest f.0 here.0 (more_records ws tail some) in
    let bound : length (w ∷ ws) + n ≡ suc (length ws + n) = omega arith in
    let bytes : records (w ∷ ws) ++ tail ≡ 1 ∷ behind = ap (λ (l : List ℕ). l ++ tail) (records-first w ws) ∙ ap (λ (l : List ℕ). 1 ∷ l) (append_assoc spelled (records ws) tail) in
    let size : place + (1 + length behind - length rest) ≡ place + (1 + length spelled) = omega (arith, length-append spelled rest) in
    let sum : place + (1 + length spelled) + length (records ws) ≡ place + length (records (w ∷ ws)) = omega (arith, ap length (records-first w ws), length-append spelled (records ws)) in
    ap (λ m. standing_from m h place (records (w ∷ ws) ++ tail)) bound
    ∙ ap (λ (l : List ℕ). standing_from (suc (length ws + n)) h place l) bytes
    ∙ open_gate (length ws + n) h place behind (w, rest) next
    ∙ ap (λ p. standing_from (length ws + n) (After w h) p rest) size
    ∙ walked n (After w h) (place + (1 + length spelled)) ws tail f.1 agree some
    ∙ ap (λ p. standing_from n (after_all (After w h) ws) p tail) sum

-- ---- records that are read were written

-- From these bytes on these writes were read, and what is left stands at this place.
pub record Passes (h : History) (place : ℕ) (bytes : List ℕ) (ws : List Write) (tail : List ℕ) (now : History) (at : ℕ) : Type 0 where
  pub fit : list_all record_form.fits ws ≡ true
  pub agree : IsHistory h → IsHistory now
  pub now_is : now ≡ after_all h ws
  pub whole : bytes ≡ records ws ++ tail
  pub at_is : at ≡ place + length (records ws)

passes_none : (h : History) (place : ℕ) (bytes : List ℕ) → Passes h place bytes [] bytes h place
passes_none h place bytes = record {
  fit = refl;
  agree = λ is. is;
  now_is = refl;
  whole = ap (λ (l : List ℕ). l ++ bytes) (sym records-none);
  at_is = omega (arith, ap length records-none);
}

passes_more : (h : History) (place : ℕ) (behind : List ℕ) (w : Write) (rest : List ℕ) → NextIs h behind w rest → (ws : List Write) (tail : List ℕ) (now : History) (at : ℕ)
    → Passes (After w h) (place + (1 + length behind - length rest)) rest ws tail now at → Passes h place (1 ∷ behind) (w ∷ ws) tail now at
passes_more h place behind w rest next ws tail now at p = record {
  fit = and_from (record_form.fits w) (list_all record_form.fits ws) next.fits p.fit;
  agree = λ is. p.agree (next.agree, is);
  now_is = p.now_is;
  whole =
      ap (λ (l : List ℕ). 1 ∷ l) (next.whole ∙ ap (λ (l : List ℕ). record_form.spell w ++ l) p.whole ∙ sym (append_assoc (record_form.spell w) (records ws) tail))
      ∙ ap (λ (l : List ℕ). l ++ tail) (sym (records-first w ws));
  at_is = omega (
    arith,
    p.at_is,
    ap length next.whole,
    length-append (record_form.spell w) rest,
    ap length (records-first w ws),
    length-append (record_form.spell w) (records ws),
  );
}

-- how the reading of these bytes ends: at a closed gate, or at an open one with no next record
abbrev pub Ends : History → ℕ → List ℕ → Standing → Type 0
Ends h place bytes (Stands now at) = (ws : List Write) × (gate : ℕ) × (rest : List ℕ) × Passes h place bytes ws (gate ∷ rest) now at × (gate ≢ 1)
Ends h place bytes (Damaged at) = (ws : List Write) × (behind : List ℕ) × (now : History) × Passes h place bytes ws (1 ∷ behind) now at × (next_record now behind ≡ None)

ends_later : (h : History) (place : ℕ) (behind : List ℕ) (w : Write) (rest : List ℕ) → NextIs h behind w rest → (s : Standing)
    → Ends (After w h) (place + (1 + length behind - length rest)) rest s → Ends h place (1 ∷ behind) s
ends_later h place behind w rest next (Stands now at) e = (w ∷ e.0, e.1, e.2, passes_more h place behind w rest next e.0 (e.1 ∷ e.2) now at e.3, e.4)
ends_later h place behind w rest next (Damaged at) e = (w ∷ e.0, e.1, e.2, passes_more h place behind w rest next e.0 (1 ∷ e.1) e.2 at e.3, e.4)

pub reads : (n : ℕ) (h : History) (place : ℕ) (bytes : List ℕ) → AreBytes bytes → is_more bytes ≡ true → length bytes ≤ n → Ends h place bytes (standing_from n h place bytes)
reads zero h place bytes are some le = absurd (omega (arith, some_length bytes some, le))
reads (suc n) h place [] are some le = absurd cc
reads (suc n) h place (gate ∷ behind) are some le = subst (Ends h place (gate ∷ behind)) (sym (step n h place gate behind)) (by_gate (reads n) (is_open gate) refl)
  where
    Again : Type 0
    Again = (h : History) (place : ℕ) (bytes : List ℕ) → AreBytes bytes → is_more bytes ≡ true → length bytes ≤ n → Ends h place bytes (standing_from n h place bytes)

    behind_are : AreBytes behind
    behind_are = AreBytes-rest (gate ∷ []) behind (gate ∷ behind) are refl

    by_next : Again → (o : Option (Write × List ℕ)) → next_record h behind ≡ o → Ends h place (1 ∷ behind) (goes_on place o (onward n h place behind))
    by_next again None e = ([], behind, h, passes_none h place (1 ∷ behind), e)
    by_next again (Some r) e =
        let next = next_only h behind r behind_are e in
        let rest_are = AreBytes-rest (record_form.spell r.0) r.1 behind behind_are next.whole in
        let shorter : length r.1 ≤ n = omega (arith, le, ap length next.whole, length-append (record_form.spell r.0) r.1) in
        subst (Ends h place (1 ∷ behind)) (sym (onward-is n h place behind r))
        (ends_later h place behind r.0 r.1 next _ (again (After r.0 h) (place + (1 + length behind - length r.1)) r.1 rest_are next.some shorter))

    by_gate : Again → (b : Bool) → is_open gate ≡ b → Ends h place (gate ∷ behind) (cond b (goes_on place (next_record h behind) (onward n h place behind)) (Stands h place))
    by_gate again true is =
        subst (λ g. Ends h place (g ∷ behind) (goes_on place (next_record h behind) (onward n h place behind))) (sym (eqb-true gate 1 is)) (by_next again (next_record h behind) refl)
    by_gate again false is = ([], gate, behind, passes_none h place (gate ∷ behind), λ e. let t : is_open gate ≡ true = ap is_open e in cc)

-- ---- what is read is a history

pub reads_history : (n : ℕ) (h : History) (place : ℕ) (bytes : List ℕ) → IsHistory h → IsHistory (history_of (standing_from n h place bytes))
unfolding standing_from
reads_history zero h place bytes is = tt
reads_history (suc n) h place [] is = tt
reads_history (suc n) h place (gate ∷ behind) is = by_gate (reads_history n) (is_open gate)
  where
    Again : Type 0
    Again = (h : History) (place : ℕ) (bytes : List ℕ) → IsHistory h → IsHistory (history_of (standing_from n h place bytes))

    by_next : Again → (o : Option (Write × List ℕ)) → next_record h behind ≡ o
        → IsHistory (history_of (goes_on place o (λ r. standing_from n (After r.0 h) (place + (1 + length behind - length r.1)) r.1)))
    by_next again None e = tt
    by_next again (Some r) e = again (After r.0 h) (place + (1 + length behind - length r.1)) r.1 (next_agrees h behind r e, is)

    by_gate : Again → (b : Bool) → IsHistory (history_of (cond b (goes_on place (next_record h behind) (λ r. standing_from n (After r.0 h) (place + (1 + length behind - length r.1)) r.1)) (Stands h place)))
    by_gate again true = by_next again (next_record h behind) refl
    by_gate again false = is
