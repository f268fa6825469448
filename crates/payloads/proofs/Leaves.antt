-- Numbers, truth values, texts and lists have forms.
use Rattle.std.proofs.Common.{◌≡◌, ◌≤◌, ◌<◌, ◌-◌, ◌^◌, Bool, true, false, cond, ltb, ℕ, suc, inl, inr, List, [], ◌∷◌, ◌++◌, length, take, drop, Option, Some, None, refl, sym, ap, ◌∙◌, arith, append_assoc, length-append, take-append-drop, length-take}
use Rattle.std.specs.Prelude.{ℤ, pos, negsuc}
use Rattle.std.specs.List.{list_all, flat_map}
use Rattle.std.specs.Int.{w64, to_be_bytes, from_be_bytes, cast_unsigned, cast_signed}
use Rattle.std.specs.Str.{is_utf8}
use Rattle.std.proofs.lemmas.Bool.{and_parts, and_from, ltb-true, ltb-false, le-ltb, lt-ltb, cases_lt}
use Rattle.std.proofs.lemmas.List.{take_at, drop_at, get_or-take, get_or_past}
use Rattle.std.proofs.lemmas.Nat.{be_bytes_8, from_be_bytes-to_be_bytes_8}
use Rattle.std.proofs.lemmas.Int.{to_z-of_z, of_z-to_z}
use Rattle.olm_base.specs.Names.{is_name}
use Rattle.payloads.specs.Form.{Form, ◌>>=◌, read_items, number_form, short_form, signed_form, is_short, is_signed, bytes_form, text_form, name_form, list_form, truth_form, truth_number}
use Rattle.payloads.specs.Laws.{AreBytes, IsForm}
use Rattle.payloads.proofs.Combinators.{AreBytes-rest, bind_some, bind_is, parts_of, passing_is_form, items_again, items_only, plain_is_form}

pub number_again : (n : ℕ) (rest : List ℕ) → n < 2 ^ 64 → number_form.read (to_be_bytes w64 n ++ rest) ≡ Some (n, rest)
unfolding number_form
number_again n rest small =
    let long : ltb (length (to_be_bytes w64 n ++ rest)) 8 ≡ false = le-ltb _ _ (omega (arith, length-append (to_be_bytes w64 n) rest)) in
    ap (λ b. cond {A = Option (ℕ × List ℕ)} b None (Some (from_be_bytes w64 (take 8 (to_be_bytes w64 n ++ rest)), drop 8 (to_be_bytes w64 n ++ rest)))) long
    ∙ ap (λ (l : List ℕ). Some (from_be_bytes w64 l, drop 8 (to_be_bytes w64 n ++ rest))) (take_at (to_be_bytes w64 n) rest 8 refl)
    ∙ ap (λ m. Some (m, drop 8 (to_be_bytes w64 n ++ rest))) (from_be_bytes-to_be_bytes_8 n small)
    ∙ ap (λ (l : List ℕ). Some (n, l)) (drop_at (to_be_bytes w64 n) rest 8 refl)

pub number_only : (bytes : List ℕ) (n : ℕ) (rest : List ℕ) → AreBytes bytes → number_form.read bytes ≡ Some (n, rest) → (n < 2 ^ 64) × (bytes ≡ to_be_bytes w64 n ++ rest)
unfolding number_form
number_only bytes n rest are e = by_test (ltb (length bytes) 8) refl e
  where
    front : AreBytes (take 8 bytes)
    front i = elim (cases_lt i 8) [
      | inl lt ↦ rw (get_or-take 8 bytes i 0 lt) (are i)
      | inr le ↦ rw (get_or_past (take 8 bytes) i 0 (omega (arith, length-take 8 bytes))) (omega arith)
    ]

    by_test : (t : Bool) → ltb (length bytes) 8 ≡ t → cond {A = Option (ℕ × List ℕ)} t None (Some (from_be_bytes w64 (take 8 bytes), drop 8 bytes)) ≡ Some (n, rest) → (n < 2 ^ 64) × (bytes ≡ to_be_bytes w64 n ++ rest)
    by_test true is e' = absurd cc
    by_test false is e' =
        let both = parts_of (from_be_bytes w64 (take 8 bytes), drop 8 bytes) (n, rest) e' in
        let long : 8 ≤ length bytes = ltb-false _ _ is in
        let below : from_be_bytes w64 (take 8 bytes) < 2 ^ 64 = omega (arith, front 0, front 1, front 2, front 3, front 4, front 5, front 6, front 7) in
        let spelled : to_be_bytes w64 n ≡ take 8 bytes = be_bytes_8 (take 8 bytes) n (omega (arith, length-take 8 bytes, long)) front (sym both.0) in
        (omega (arith, below, both.0), sym (take-append-drop 8 bytes) ∙ ap (λ (l : List ℕ). l ++ drop 8 bytes) (sym spelled) ∙ ap (λ (l : List ℕ). to_be_bytes w64 n ++ l) both.1)

number_spelled : (n : ℕ) → number_form.spell n ≡ to_be_bytes w64 n
unfolding number_form
number_spelled n = refl

pub number_is_form : IsForm number_form
unfolding number_form
number_is_form = record {
  again = λ n rest fits. number_again n rest (ltb-true n (2 ^ 64) fits);
  only = λ bytes n rest are e. let it = number_only bytes n rest are e in (lt-ltb n (2 ^ 64) it.0, it.1);
}

pub short_is_form : IsForm short_form
unfolding short_form
short_is_form = passing_is_form is_short number_form number_is_form

is_signed-cast : (n : ℕ) → n < 2 ^ 64 → is_signed (cast_signed w64 n) ≡ true
is_signed-cast n small = elim (cases_lt n (2 ^ 63)) [
  | inl lt ↦ rw (lt-ltb n (2 ^ 63) lt) (lt-ltb n (2 ^ 63) lt)
  | inr le ↦ rw (le-ltb n (2 ^ 63) le) (lt-ltb (2 ^ 64 - suc n) (2 ^ 63) (omega arith))
]

fits_unsigned : (z : ℤ) → is_signed z ≡ true → cast_unsigned w64 z < 2 ^ 64
fits_unsigned (pos n) fits = let small = ltb-true n (2 ^ 63) fits in omega arith
fits_unsigned (negsuc n) fits = omega arith

cast_back : (z : ℤ) → is_signed z ≡ true → cast_signed w64 (cast_unsigned w64 z) ≡ z
cast_back (pos n) fits = to_z-of_z w64 (pos n) (record { sfits = ltb-true n (2 ^ 63) fits })
cast_back (negsuc n) fits = to_z-of_z w64 (negsuc n) (record { sfits = ltb-true n (2 ^ 63) fits })

pub signed_is_form : IsForm signed_form
unfolding signed_form
signed_is_form = record {
  again = λ z rest fits.
      ap (λ (l : List ℕ). number_form.read (l ++ rest) >>= λ n. Some (cast_signed w64 n.0, n.1)) (number_spelled (cast_unsigned w64 z))
      ∙ bind_is (number_form.read (to_be_bytes w64 (cast_unsigned w64 z) ++ rest)) (λ n. Some (cast_signed w64 n.0, n.1)) (cast_unsigned w64 z, rest) (number_again (cast_unsigned w64 z) rest (fits_unsigned z fits))
      ∙ ap (λ y. Some (y, rest)) (cast_back z fits);
  only = λ bytes z rest are e.
      let a = bind_some (number_form.read bytes) (λ n. Some (cast_signed w64 n.0, n.1)) (z, rest) e in
      let both = parts_of (cast_signed w64 a.0.0, a.0.1) (z, rest) a.2 in
      let it = number_only bytes a.0.0 a.0.1 are a.1 in
      let unsigned : cast_unsigned w64 z ≡ a.0.0 = ap (cast_unsigned w64) (sym both.0) ∙ of_z-to_z w64 a.0.0 it.0 in
      let spelled : number_form.spell (cast_unsigned w64 z) ≡ to_be_bytes w64 a.0.0 = number_spelled (cast_unsigned w64 z) ∙ ap (to_be_bytes w64) unsigned in (
        ap is_signed (sym both.0) ∙ is_signed-cast a.0.0 it.0,
        it.1 ∙ ap (λ (l : List ℕ). l ++ a.0.1) (sym spelled) ∙ ap (λ (l : List ℕ). number_form.spell (cast_unsigned w64 z) ++ l) both.1,
      );
}

pub truth_is_form : IsForm truth_form
unfolding truth_form
truth_is_form = plain_is_form truth_number (false ∷ true ∷ []) (elim [ false ↦ refl | true ↦ refl ]) (refl, (refl, tt))

pub bytes_is_form : IsForm bytes_form
unfolding bytes_form
bytes_is_form = record {
  again = λ t rest fits.
      ap (λ (l : List ℕ). number_form.read ((l ++ t) ++ rest) >>= taken) (number_spelled (length t))
      ∙ ap (λ (l : List ℕ). number_form.read l >>= taken) (append_assoc (to_be_bytes w64 (length t)) t rest)
      ∙ bind_is (number_form.read (to_be_bytes w64 (length t) ++ (t ++ rest))) taken (length t, t ++ rest) (number_again (length t) (t ++ rest) (ltb-true _ _ fits))
      ∙ ap (λ b. cond {A = Option (List ℕ × List ℕ)} b None (Some (take (length t) (t ++ rest), drop (length t) (t ++ rest)))) (le-ltb (length (t ++ rest)) (length t) (omega (arith, length-append t rest)))
      ∙ ap (λ (l : List ℕ). Some (l, drop (length t) (t ++ rest))) (take_at t rest (length t) refl) ∙ ap (λ (l : List ℕ). Some (t, l)) (drop_at t rest (length t) refl);
  only = λ bytes t rest are e.
      let n = bind_some (number_form.read bytes) taken (t, rest) e in
      let head = number_only bytes n.0.0 n.0.1 are n.1 in
      by_test bytes t rest n.0 head (ltb (length n.0.1) n.0.0) refl n.2;
}
  where
    taken : ℕ × List ℕ → Option (List ℕ × List ℕ)
    taken n = cond (ltb (length n.1) n.0) None (Some (take n.0 n.1, drop n.0 n.1))

    by_test : (bytes t rest : List ℕ) (n : ℕ × List ℕ) → (n.0 < 2 ^ 64) × (bytes ≡ to_be_bytes w64 n.0 ++ n.1) → (b : Bool) → ltb (length n.1) n.0 ≡ b
        → cond {A = Option (List ℕ × List ℕ)} b None (Some (take n.0 n.1, drop n.0 n.1)) ≡ Some (t, rest) → (ltb (length t) (2 ^ 64) ≡ true) × (bytes ≡ (number_form.spell (length t) ++ t) ++ rest)
    by_test bytes t rest n head true is e = absurd cc
    by_test bytes t rest n head false is e =
        let both = parts_of (take n.0 n.1, drop n.0 n.1) (t, rest) e in
        let long : n.0 ≤ length n.1 = ltb-false _ _ is in
        let size : length t ≡ n.0 = ap length (sym both.0) ∙ (let l : length (take n.0 n.1) ≡ n.0 = omega (arith, length-take n.0 n.1, long) in l) in
        let parts : n.1 ≡ t ++ rest = sym (take-append-drop n.0 n.1) ∙ ap (λ (l : List ℕ). l ++ drop n.0 n.1) both.0 ∙ ap (λ (l : List ℕ). t ++ l) both.1 in
        let spelled : to_be_bytes w64 n.0 ≡ number_form.spell (length t) = ap (to_be_bytes w64) (sym size) ∙ sym (number_spelled (length t)) in (
          lt-ltb _ _ (omega (arith, size, head.0)),
          head.1 ∙ ap (λ (l : List ℕ). to_be_bytes w64 n.0 ++ l) parts ∙ ap (λ (l : List ℕ). l ++ (t ++ rest)) spelled ∙ sym (append_assoc (number_form.spell (length t)) t rest),
        )

pub text_is_form : IsForm text_form
unfolding text_form
text_is_form = passing_is_form is_utf8 bytes_form bytes_is_form

pub name_is_form : IsForm name_form
unfolding name_form
name_is_form = passing_is_form is_name bytes_form bytes_is_form

pub list_is_form : {A : Type 0} {form : Form A} → IsForm form → IsForm (list_form form)
unfolding list_form
list_is_form {A} {form} laws = record {
  again = λ xs rest fits.
      let f = and_parts (ltb (length xs) (2 ^ 64)) (list_all form.fits xs) fits in
      ap (λ (l : List ℕ). number_form.read ((l ++ flat_map form.spell xs) ++ rest) >>= items) (number_spelled (length xs))
      ∙ ap (λ (l : List ℕ). number_form.read l >>= items) (append_assoc (to_be_bytes w64 (length xs)) (flat_map form.spell xs) rest)
      ∙ bind_is (number_form.read (to_be_bytes w64 (length xs) ++ (flat_map form.spell xs ++ rest))) items (length xs, flat_map form.spell xs ++ rest) (number_again (length xs) (flat_map form.spell xs ++ rest) (ltb-true _ _ f.0))
      ∙ items_again form laws xs rest f.1;
  only = λ bytes xs rest are e.
      let n = bind_some (number_form.read bytes) items (xs, rest) e in
      let head = number_only bytes n.0.0 n.0.1 are n.1 in
      let it = items_only form laws n.0.0 n.0.1 xs rest (AreBytes-rest (to_be_bytes w64 n.0.0) n.0.1 bytes are head.1) n.2 in
      let spelled : to_be_bytes w64 n.0.0 ≡ number_form.spell (length xs) = ap (to_be_bytes w64) (sym it.count_is) ∙ sym (number_spelled (length xs)) in (
        and_from (ltb (length xs) (2 ^ 64)) (list_all form.fits xs) (lt-ltb _ _ (omega (arith, it.count_is, head.0))) it.fits,
        head.1 ∙ ap (λ (l : List ℕ). to_be_bytes w64 n.0.0 ++ l) it.bytes_are ∙ ap (λ (l : List ℕ). l ++ (flat_map form.spell xs ++ rest)) spelled ∙ sym (append_assoc (number_form.spell (length xs)) (flat_map form.spell xs) rest),
      );
}
  where
    items : ℕ × List ℕ → Option (List A × List ℕ)
    items n = read_items form n.0 n.1
