-- Records have one spelling, and what is written in front of a next gate is read there.
use Rattle.std.proofs.Common.{◌≡◌, ◌<◌, ◌^◌, true, cond, ℕ, List, [], ◌∷◌, ◌++◌, length, inl, inr, Option, Some, None, refl, sym, ap, ◌∙◌, subst, arith, append_assoc}
use Rattle.std.specs.Int.{w64, to_be_bytes}
use Rattle.std.proofs.lemmas.Bool.{and_parts, and_from, cases_lt, eq-eqb, eqb-true, lt-ltb}
use Rattle.std.proofs.lemmas.List.{get_or_append_left, get_or_past}
use Rattle.cluster_objects.specs.declared.objects.Write.{Write}
use Rattle.cluster_history.specs.History.{History, slot}
use Rattle.payloads.specs.Form.{◌>>=◌, Spells, whole, number_form, bytes_form}
use Rattle.payloads.specs.Laws.{AreBytes, IsForm}
use Rattle.payloads.specs.Objects.{write_form}
use Rattle.payloads.proofs.Combinators.{AreBytes-rest, bind_some, bind_is, parts_of, let_through}
use Rattle.payloads.proofs.Leaves.{bytes_is_form}
use Rattle.payloads.proofs.ObjectForms.{write_is_form}
use Rattle.payloads.proofs.Whole.{whole_again, whole_only}
use Rattle.cluster_file.specs.Files.{record_form, record_at, is_more, agrees, next_record}

-- what stands in front of other bytes is bytes
AreBytes-front : (front rest : List ℕ) → AreBytes (front ++ rest) → AreBytes front
AreBytes-front front rest are i = elim (cases_lt i (length front)) [
  | inl lt ↦ subst (λ n. n < 256) (get_or_append_left front rest 0 i lt) (are i)
  | inr past ↦ rw (get_or_past front i 0 past) (omega arith)
]

-- the bytes behind a length are bytes
AreBytes-spelled : (payload rest bytes : List ℕ) → AreBytes bytes → bytes ≡ bytes_form.spell payload ++ rest → AreBytes payload
unfolding bytes_form
AreBytes-spelled payload rest bytes are is =
    AreBytes-front payload rest
    (AreBytes-rest (number_form.spell (length payload)) (payload ++ rest) bytes are (is ∙ append_assoc (number_form.spell (length payload)) payload rest))

pub record_is_form : IsForm record_form
unfolding record_form
record_is_form = record {
  again = λ w rest fits.
      let f = and_parts (write_form.fits w) (bytes_form.fits (write_form.spell w)) fits in
      bind_is (bytes_form.read (bytes_form.spell (write_form.spell w) ++ rest)) written (write_form.spell w, rest) (bytes_is_form.again (write_form.spell w) rest f.1)
      ∙ bind_is (whole write_form (write_form.spell w)) (λ v. Some (v, rest)) w (whole_again write_form write_is_form w (write_form.spell w) (f.0, refl));
  only = λ bytes w rest are e.
      let p = bind_some (bytes_form.read bytes) written (w, rest) e in
      let v = bind_some (whole write_form p.0.0) (λ v. Some (v, p.0.1)) (w, rest) p.2 in
      let both = parts_of (v.0, p.0.1) (w, rest) v.2 in
      let it = bytes_is_form.only bytes p.0.0 p.0.1 are p.1 in
      let spelled = whole_only write_form write_is_form v.0 p.0.0 (AreBytes-spelled p.0.0 p.0.1 bytes are it.1) v.1 in
      let payload_is : p.0.0 ≡ write_form.spell w = spelled.1 ∙ ap write_form.spell both.0 in (
        and_from (write_form.fits w) (bytes_form.fits (write_form.spell w)) (ap write_form.fits (sym both.0) ∙ spelled.0) (ap bytes_form.fits (sym payload_is) ∙ it.0),
        it.1 ∙ ap (λ (l : List ℕ). bytes_form.spell l ++ p.0.1) payload_is ∙ ap (λ (l : List ℕ). bytes_form.spell (write_form.spell w) ++ l) both.1,
      );
}
  where
    written : List ℕ × List ℕ → Option (Write × List ℕ)
    written p = whole write_form p.0 >>= λ w. Some (w, p.1)

-- the filters of a record that was read
more : Write × List ℕ → Option (Write × List ℕ)
more r = cond (is_more r.1) (Some r) None

agreeing : History → Write × List ℕ → Option (Write × List ℕ)
agreeing h r = cond (agrees h r.0) (Some r) None

record_at-more : (bytes : List ℕ) → record_at bytes ≡ (record_form.read bytes >>= more)
unfolding record_at more
record_at-more bytes = refl

next-agreeing : (h : History) (bytes : List ℕ) → next_record h bytes ≡ (record_at bytes >>= agreeing h)
unfolding next_record agreeing
next-agreeing h bytes = refl

more_is : (r : Write × List ℕ) → is_more r.1 ≡ true → more r ≡ Some r
unfolding more
more_is r is = ap (λ b. cond b (Some r) None) is

more_only : (r q : Write × List ℕ) → more r ≡ Some q → (is_more r.1 ≡ true) × (r ≡ q)
unfolding more
more_only r q e = let_through (is_more r.1) r q e

agreeing_is : (h : History) (r : Write × List ℕ) → agrees h r.0 ≡ true → agreeing h r ≡ Some r
unfolding agreeing
agreeing_is h r is = ap (λ b. cond b (Some r) None) is

agreeing_only : (h : History) (r q : Write × List ℕ) → agreeing h r ≡ Some q → (agrees h r.0 ≡ true) × (r ≡ q)
unfolding agreeing
agreeing_only h r q e = let_through (agrees h r.0) r q e

-- a record that stands in front of something is read
pub next_is : (h : History) (w : Write) (rest : List ℕ) → record_form.fits w ≡ true → w.expect ≡ (slot h w.key).version → is_more rest ≡ true → next_record h (record_form.spell w ++ rest) ≡ Some (w, rest)
next_is h w rest fits agree some =
    let bytes = record_form.spell w ++ rest in
    let at : record_at bytes ≡ Some (w, rest) = record_at-more bytes ∙ bind_is (record_form.read bytes) more (w, rest) (record_is_form.again w rest fits) ∙ more_is (w, rest) some in
    next-agreeing h bytes ∙ bind_is (record_at bytes) (agreeing h) (w, rest) at ∙ agreeing_is h (w, rest) (eq-eqb w.expect (slot h w.key).version agree)

-- what is read next agrees
pub next_agrees : (h : History) (bytes : List ℕ) (r : Write × List ℕ) → next_record h bytes ≡ Some r → r.0.expect ≡ (slot h r.0.key).version
next_agrees h bytes r e =
    let q = bind_some (record_at bytes) (agreeing h) r (sym (next-agreeing h bytes) ∙ e) in
    let it = agreeing_only h q.0 r q.2 in
    eqb-true r.0.expect (slot h r.0.key).version (ap (λ (p : Write × List ℕ). agrees h p.0) (sym it.1) ∙ it.0)

-- what is read next was written so
pub record NextIs (h : History) (bytes : List ℕ) (w : Write) (rest : List ℕ) : Type 0 where
  pub fits : record_form.fits w ≡ true
  pub agree : w.expect ≡ (slot h w.key).version
  pub whole : bytes ≡ record_form.spell w ++ rest
  pub some : is_more rest ≡ true

pub next_only : (h : History) (bytes : List ℕ) (r : Write × List ℕ) → AreBytes bytes → next_record h bytes ≡ Some r → NextIs h bytes r.0 r.1
next_only h bytes r are e =
    let q = bind_some (record_at bytes) (agreeing h) r (sym (next-agreeing h bytes) ∙ e) in
    let same = agreeing_only h q.0 r q.2 in
    let p = bind_some (record_form.read bytes) more r (sym (record_at-more bytes) ∙ q.1 ∙ ap (λ z. Some z) same.1) in
    let it = more_only p.0 r p.2 in
    let laws = record_is_form.only bytes r.0 r.1 are (p.1 ∙ ap (λ z. Some z) it.1) in
    record { fits = laws.0; agree = next_agrees h bytes r e; whole = laws.1; some = ap (λ (z : Write × List ℕ). is_more z.1) (sym it.1) ∙ it.0 }

-- ---- for the code: what stands behind a length decides

pub record-none : (bytes : List ℕ) → bytes_form.read bytes ≡ None → record_at bytes ≡ None
unfolding record_form
record-none bytes none =
    record_at-more bytes
    ∙ ap (λ (o : Option (List ℕ × List ℕ)). (o >>= λ p. whole write_form p.0 >>= λ w. Some (w, p.1)) >>= more) none

record-some : (bytes payload rest : List ℕ) → bytes_form.read bytes ≡ Some (payload, rest) → record_at bytes ≡ ((whole write_form payload >>= λ w. Some (w, rest)) >>= more)
unfolding record_form
record-some bytes payload rest some =
    record_at-more bytes
    ∙ ap (λ (o : Option (List ℕ × List ℕ)). (o >>= λ p. whole write_form p.0 >>= λ w. Some (w, p.1)) >>= more) some

-- the next gate is missing
pub record-ends : (bytes payload rest : List ℕ) → bytes_form.read bytes ≡ Some (payload, rest) → length rest ≡ 0 → record_at bytes ≡ None
unfolding more
record-ends bytes payload [] some ends = record-some bytes payload [] some ∙ by_payload (whole write_form payload)
  where
    by_payload : (o : Option Write) → ((o >>= λ w. Some (w, [])) >>= more) ≡ None
    by_payload None = refl
    by_payload (Some w) = refl
record-ends bytes payload (b ∷ rest) some ends = absurd (omega (arith, ends))

-- the payload is a write, or none
pub record-other : (bytes payload rest : List ℕ) → bytes_form.read bytes ≡ Some (payload, rest) → whole write_form payload ≡ None → record_at bytes ≡ None
record-other bytes payload rest some none = record-some bytes payload rest some ∙ ap (λ (o : Option Write). (o >>= λ w. Some (w, rest)) >>= more) none

pub record-is : (bytes payload rest : List ℕ) (w : Write) → bytes_form.read bytes ≡ Some (payload, rest) → 0 < length rest → whole write_form payload ≡ Some w → record_at bytes ≡ Some (w, rest)
unfolding more
record-is bytes payload [] w some longer is = absurd (omega (arith, longer))
record-is bytes payload (b ∷ rest) w some longer is = record-some bytes payload (b ∷ rest) some ∙ ap (λ (o : Option Write). (o >>= λ w. Some (w, b ∷ rest)) >>= more) is

-- a record's bytes, and the gate behind it
pub piece-spelled : (w : Write) (payload : List ℕ) (gate : ℕ) → payload ≡ write_form.spell w → to_be_bytes w64 (length payload) ++ payload ++ gate ∷ [] ≡ record_form.spell w ++ gate ∷ []
unfolding record_form bytes_form number_form
piece-spelled w payload gate is = ap (λ (l : List ℕ). to_be_bytes w64 (length l) ++ l ++ gate ∷ []) is

pub record-fits : (w : Write) (payload : List ℕ) → Spells write_form w payload → length payload < 2 ^ 64 → record_form.fits w ≡ true
unfolding record_form bytes_form
record-fits w payload spells short =
    and_from (write_form.fits w) _ spells.0 (lt-ltb (length (write_form.spell w)) (2 ^ 64) (subst (λ (l : List ℕ). length l < 2 ^ 64) spells.1 short))
