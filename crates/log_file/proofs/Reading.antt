-- A record more, and the place behind it.
use Rattle.std.proofs.Common.{◌≡◌, ◌≢◌, ◌≤◌, ◌+◌, ◌-◌, Bool, true, false, cond, ℕ, suc, List, [], ◌∷◌, ◌++◌, length, Option, Some, None, Result, Ok, Err, refl, sym, ap, ◌∙◌, subst, arith, length-append}
use Rattle.std.proofs.lemmas.Bool.{eq-eqb, ne_eqb}
use Rattle.cluster_objects.specs.declared.objects.Write.{Write}
use Rattle.cluster_history.specs.History.{History, After, slot}
use Rattle.payloads.specs.Form.{◌>>=◌}
use Rattle.payloads.specs.Laws.{AreBytes}
use Rattle.cluster_file.specs.Files.{Stands, Damaged, agrees, next_record, record_at, record_form, standing_from}
use Rattle.cluster_file.specs.Writing.{history_after}
use Rattle.cluster_file.proofs.RecordForms.{next_only}
use Rattle.cluster_file.proofs.Walking.{after_all-push, broken_gate, closed_gate, open_gate}
use Rattle.cluster_history.specs.History.{Start, empty}

by_record : History → List ℕ → Option (Write × List ℕ) → Option (Write × List ℕ)
by_record h bytes found = found >>= λ r. cond (agrees h r.0) (Some r) None

by_record-is : (h : History) (bytes : List ℕ) → next_record h bytes ≡ by_record h bytes (record_at bytes)
unfolding next_record by_record
by_record-is h bytes = refl

pub next_none : (h : History) (bytes : List ℕ) → record_at bytes ≡ None → next_record h bytes ≡ None
unfolding by_record
next_none h bytes e = by_record-is h bytes ∙ ap (by_record h bytes) e

pub next_other : (h : History) (bytes : List ℕ) (w : Write) (rest : List ℕ) → record_at bytes ≡ Some (w, rest) → w.expect ≢ (slot h w.key).version → next_record h bytes ≡ None
unfolding by_record
next_other h bytes w rest e apart =
    by_record-is h bytes ∙ ap (by_record h bytes) e
    ∙ ap (λ b. let r : Write × List ℕ = (w, rest) in cond b (Some r) None) (ne_eqb w.expect (slot h w.key).version apart)

pub next_some : (h : History) (bytes : List ℕ) (w : Write) (rest : List ℕ) → record_at bytes ≡ Some (w, rest) → w.expect ≡ (slot h w.key).version → next_record h bytes ≡ Some (w, rest)
unfolding by_record
next_some h bytes w rest e same =
    by_record-is h bytes ∙ ap (by_record h bytes) e
    ∙ ap (λ b. let r : Write × List ℕ = (w, rest) in cond b (Some r) None) (eq-eqb w.expect (slot h w.key).version same)

-- ---- at a gate

pub no_gate : (bound : ℕ) (h : History) (place : ℕ) → standing_from (suc bound) h place [] ≡ Damaged place
unfolding standing_from
no_gate bound h place = refl

pub no_turns : (h : History) (place : ℕ) (bytes : List ℕ) → standing_from 0 h place bytes ≡ Damaged place
unfolding standing_from
no_turns h place bytes = refl

-- the bytes behind a record are no more than those before it
pub shorter : (h : History) (behind : List ℕ) (w : Write) (rest : List ℕ) → AreBytes behind → next_record h behind ≡ Some (w, rest) → length rest ≤ length behind
shorter h behind w rest are e =
    let next = next_only h behind (w, rest) are e in
    omega (arith, ap length next.whole, length-append (record_form.spell w) rest)

pub goes_behind : (bound place : ℕ) (old new : List Write) (behind : List ℕ) (w : Write) (rest : List ℕ) → next_record (history_after old) behind ≡ Some (w, rest) → new ≡ old ++ w ∷ []
    → standing_from (suc bound) (history_after old) place (1 ∷ behind) ≡ standing_from bound (history_after new) (place + (1 + length behind - length rest)) rest
goes_behind bound place old new behind w rest e more =
    open_gate bound (history_after old) place behind (w, rest) e
    ∙ ap (λ h. standing_from bound h (place + (1 + length behind - length rest)) rest) (sym (after_all-push (Start empty) old w) ∙ ap history_after (sym more))
