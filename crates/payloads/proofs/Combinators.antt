-- The combinators make forms of forms.
use Rattle.std.proofs.Common.{◌≡◌, ◌<◌, ◌+◌, Bool, true, false, cond, ℕ, zero, suc, List, [], ◌∷◌, ◌++◌, length, drop, get_or, Option, Some, None, refl, sym, ap, ◌∙◌, subst, arith, append_assoc}
use Rattle.std.specs.Prelude.{slice_get}
use Rattle.std.specs.List.{list_all, flat_map}
use Rattle.std.proofs.lemmas.Bool.{and_parts, and_from}
use Rattle.std.proofs.lemmas.List.{drop_at, get_or-drop}
use Rattle.payloads.specs.Form.{Form, ◌>>=◌, ◌⊗◌, passing, seen_as, read_items, read_variant, bare, holding, read_plain, plain, option_form, spell_option, fits_option}
use Rattle.payloads.specs.Laws.{AreBytes, IsForm}

-- what stands behind a part of bytes is bytes
pub AreBytes-rest : (front rest bytes : List ℕ) → AreBytes bytes → bytes ≡ front ++ rest → AreBytes rest
AreBytes-rest front rest bytes are is i =
    let same : drop (length front) bytes ≡ rest = ap (drop (length front)) is ∙ drop_at front rest (length front) refl in
    subst (λ (l : List ℕ). get_or l i 0 < 256) same (rw get_or-drop (are (length front + i)))

pub bind_some : {A B : Type 0} (r : Option A) (f : A → Option B) (y : B) → (r >>= f) ≡ Some y → (x : A) × (r ≡ Some x) × (f x ≡ Some y)
bind_some None f y e = absurd cc
bind_some (Some x) f y e = (x, refl, e)

pub bind_is : {A B : Type 0} (r : Option A) (f : A → Option B) (x : A) → r ≡ Some x → (r >>= f) ≡ f x
bind_is r f x e = ap (λ o. o >>= f) e

pub bind_none : {A B : Type 0} (r : Option A) (f : A → Option B) → r ≡ None → (r >>= f) ≡ None
bind_none r f e = ap (λ o. o >>= f) e

-- equal pairs have equal parts
pub parts_of : {A B : Type 0} (p q : A × B) → Some p ≡ Some q → (p.0 ≡ q.0) × (p.1 ≡ q.1)
parts_of {A} {B} p q e = let i : p ≡ q = cc in (ap (λ (z : A × B). z.0) i, ap (λ (z : A × B). z.1) i)

-- a test that let a value through
pub let_through : {A : Type 0} (b : Bool) (y z : A) → cond b (Some y) None ≡ Some z → (b ≡ true) × (y ≡ z)
let_through true y z e = (refl, cc)
let_through false y z e = absurd cc

-- ---- values that pass a test

pub passing_holds : {A : Type 0} (test : A → Bool) (form : Form A) (bytes : List ℕ) (x : A × List ℕ) → form.read bytes ≡ Some x → test x.0 ≡ true → (passing test form).read bytes ≡ Some x
passing_holds test form bytes x read holds = bind_is (form.read bytes) (λ y. cond (test y.0) (Some y) None) x read ∙ ap (λ b. cond b (Some x) None) holds

pub passing_fails : {A : Type 0} (test : A → Bool) (form : Form A) (bytes : List ℕ) (x : A × List ℕ) → form.read bytes ≡ Some x → test x.0 ≡ false → (passing test form).read bytes ≡ None
passing_fails test form bytes x read fails = bind_is (form.read bytes) (λ y. cond (test y.0) (Some y) None) x read ∙ ap (λ b. cond b (Some x) None) fails

pub passing_is_form : {A : Type 0} (test : A → Bool) (form : Form A) → IsForm form → IsForm (passing test form)
passing_is_form {A} test form laws = record {
  again = λ x rest fits.
      let f = and_parts (form.fits x) (test x) fits in
      passing_holds test form (form.spell x ++ rest) (x, rest) (laws.again x rest f.0) f.1;
  only = λ bytes x rest are e.
      let a = bind_some (form.read bytes) (λ y. cond (test y.0) (Some y) None) (x, rest) e in
      let t = let_through (test a.0.0) a.0 (x, rest) a.2 in
      let it = laws.only bytes x rest are (a.1 ∙ ap (λ z. Some z) t.1) in
      let passes : test x ≡ true = ap (λ (z : A × List ℕ). test z.0) (sym t.1) ∙ t.0 in
      (and_from (form.fits x) (test x) it.0 passes, it.1);
}

-- ---- one value behind another

pub pair_is_form : {A B : Type 0} {f : Form A} {g : Form B} → IsForm f → IsForm g → IsForm (f ⊗ g)
pair_is_form {A} {B} {f} {g} ff gg = record {
  again = λ x rest fits.
      let both = and_parts (f.fits x.0) (g.fits x.1) fits in
      ap (f ⊗ g).read (append_assoc (f.spell x.0) (g.spell x.1) rest)
      ∙ bind_is (f.read (f.spell x.0 ++ (g.spell x.1 ++ rest))) (λ a. g.read a.1 >>= λ b. Some ((a.0, b.0), b.1)) (x.0, g.spell x.1 ++ rest) (ff.again x.0 (g.spell x.1 ++ rest) both.0)
      ∙ bind_is (g.read (g.spell x.1 ++ rest)) (λ b. Some ((x.0, b.0), b.1)) (x.1, rest) (gg.again x.1 rest both.1);
  only = λ bytes x rest are e.
      let a = bind_some (f.read bytes) (λ a. g.read a.1 >>= λ b. Some ((a.0, b.0), b.1)) (x, rest) e in
      let b = bind_some (g.read a.0.1) (λ b. Some ((a.0.0, b.0), b.1)) (x, rest) a.2 in
      let both = parts_of ((a.0.0, b.0.0), b.0.1) (x, rest) b.2 in
      let first_is : a.0.0 ≡ x.0 = ap (λ (z : A × B). z.0) both.0 in
      let second_is : b.0.0 ≡ x.1 = ap (λ (z : A × B). z.1) both.0 in
      let rest_is : b.0.1 ≡ rest = both.1 in
      let first = ff.only bytes a.0.0 a.0.1 are a.1 in
      let second = gg.only a.0.1 b.0.0 b.0.1 (AreBytes-rest (f.spell a.0.0) a.0.1 bytes are first.1) b.1 in (
        and_from (f.fits x.0) (g.fits x.1) (ap f.fits (sym first_is) ∙ first.0) (ap g.fits (sym second_is) ∙ second.0),
        first.1 ∙ ap (λ (l : List ℕ). f.spell a.0.0 ++ l) second.1 ∙ sym (append_assoc (f.spell a.0.0) (g.spell b.0.0) b.0.1)
            ∙ ap (λ y. (f.spell y ++ g.spell b.0.0) ++ b.0.1) first_is ∙ ap (λ y. (f.spell x.0 ++ g.spell y) ++ b.0.1) second_is ∙ ap (λ (l : List ℕ). (f.spell x.0 ++ g.spell x.1) ++ l) rest_is,
      );
}

-- ---- other values in the place of these

pub seen_as_is_form : {A B : Type 0} {form : Form A} (to : A → B) (from : B → A) → ((y : B) → to (from y) ≡ y) → ((x : A) → from (to x) ≡ x) → IsForm form → IsForm (seen_as form to from)
seen_as_is_form {form = form} to from there back laws = record {
  again = λ y rest fits. bind_is (form.read (form.spell (from y) ++ rest)) (λ a. Some (to a.0, a.1)) (from y, rest) (laws.again (from y) rest fits) ∙ ap (λ z. Some (z, rest)) (there y);
  only = λ bytes y rest are e.
      let a = bind_some (form.read bytes) (λ a. Some (to a.0, a.1)) (y, rest) e in
      let both = parts_of (to a.0.0, a.0.1) (y, rest) a.2 in
      let from_is : from y ≡ a.0.0 = ap from (sym both.0) ∙ back a.0.0 in
      let it = laws.only bytes a.0.0 a.0.1 are a.1 in
      (ap form.fits from_is ∙ it.0, it.1 ∙ ap (λ x. form.spell x ++ a.0.1) (sym from_is) ∙ ap (λ (l : List ℕ). form.spell (from y) ++ l) both.1);
}

-- ---- so many values

pub items_again : {A : Type 0} (form : Form A) → IsForm form → (xs : List A) (rest : List ℕ) → list_all form.fits xs ≡ true → read_items form (length xs) (flat_map form.spell xs ++ rest) ≡ Some (xs, rest)
items_again form laws [] rest fits = refl
items_again form laws (x ∷ xs) rest fits =
    let f = and_parts (form.fits x) (list_all form.fits xs) fits in
    ap (read_items form (length (x ∷ xs))) (append_assoc (form.spell x) (flat_map form.spell xs) rest)
    ∙ bind_is (form.read (form.spell x ++ (flat_map form.spell xs ++ rest))) (λ y. read_items form (length xs) y.1 >>= λ ys. Some (y.0 ∷ ys.0, ys.1)) (x, flat_map form.spell xs ++ rest) (laws.again x (flat_map form.spell xs ++ rest) f.0)
    ∙ bind_is (read_items form (length xs) (flat_map form.spell xs ++ rest)) (λ ys. Some (x ∷ ys.0, ys.1)) (xs, rest) (items_again form laws xs rest f.1)

-- what so many values that were read are
pub record AreRead {A : Type 0} (form : Form A) (count : ℕ) (bytes : List ℕ) (xs : List A) (rest : List ℕ) : Type 0 where
  pub fits : list_all form.fits xs ≡ true
  pub count_is : length xs ≡ count
  pub bytes_are : bytes ≡ flat_map form.spell xs ++ rest

pub items_only : {A : Type 0} (form : Form A) → IsForm form → (count : ℕ) (bytes : List ℕ) (xs : List A) (rest : List ℕ) → AreBytes bytes → read_items form count bytes ≡ Some (xs, rest) → AreRead form count bytes xs rest
items_only {A} form laws zero bytes xs rest are e =
    let both = parts_of ([], bytes) (xs, rest) e in
    let none : xs ≡ [] = sym both.0 in
    record {
      fits = ap (list_all form.fits) none;
      count_is = ap length none;
      bytes_are = both.1 ∙ ap (λ (l : List A). flat_map form.spell l ++ rest) both.0;
    }
items_only {A} form laws (suc n) bytes xs rest are e =
    let a = bind_some (form.read bytes) (λ y. read_items form n y.1 >>= λ ys. Some (y.0 ∷ ys.0, ys.1)) (xs, rest) e in
    let b = bind_some (read_items form n a.0.1) (λ ys. Some (a.0.0 ∷ ys.0, ys.1)) (xs, rest) a.2 in
    let both = parts_of (a.0.0 ∷ b.0.0, b.0.1) (xs, rest) b.2 in
    let first = laws.only bytes a.0.0 a.0.1 are a.1 in
    let others = items_only form laws n a.0.1 b.0.0 b.0.1 (AreBytes-rest (form.spell a.0.0) a.0.1 bytes are first.1) b.1 in
    let all_fit : list_all form.fits (a.0.0 ∷ b.0.0) ≡ true = and_from (form.fits a.0.0) (list_all form.fits b.0.0) first.0 others.fits in
    let bytes_are : bytes ≡ flat_map form.spell (a.0.0 ∷ b.0.0) ++ b.0.1 =
    first.1 ∙ ap (λ (l : List ℕ). form.spell a.0.0 ++ l) others.bytes_are ∙ sym (append_assoc (form.spell a.0.0) (flat_map form.spell b.0.0) b.0.1) in
    record {
      fits = ap (list_all form.fits) (sym both.0) ∙ all_fit;
      count_is = ap length (sym both.0) ∙ ap suc others.count_is;
      bytes_are = bytes_are ∙ ap (λ (l : List A). flat_map form.spell l ++ b.0.1) both.0 ∙ ap (λ (l : List ℕ). flat_map form.spell xs ++ l) both.1;
    }

-- ---- variants

-- what a reading behind the byte of this number gives is spelled with that byte
abbrev pub IsVariant : {A : Type 0} → (A → Bool) → (A → List ℕ) → ℕ → (List ℕ → Option (A × List ℕ)) → Type 0
IsVariant {A} fits spell number reading = (bytes : List ℕ) (x : A) (rest : List ℕ) → AreBytes bytes → reading bytes ≡ Some (x, rest) → (fits x ≡ true) × (number ∷ bytes ≡ spell x ++ rest)

-- these readings stand behind the bytes from this number on
abbrev pub AreVariants : {A : Type 0} → (A → Bool) → (A → List ℕ) → ℕ → List (List ℕ → Option (A × List ℕ)) → Type 0
AreVariants fits spell number [] = Unit {0}
AreVariants fits spell number (reading ∷ readings) = IsVariant fits spell number reading × AreVariants fits spell (number + 1) readings

variant_at : {A : Type 0} (fits : A → Bool) (spell : A → List ℕ) (first : ℕ) (readings : List (List ℕ → Option (A × List ℕ))) (i : ℕ) (reading : List ℕ → Option (A × List ℕ))
    → AreVariants fits spell first readings → slice_get readings i ≡ Some reading → IsVariant fits spell (first + i) reading
variant_at fits spell first [] i reading are e = absurd cc
variant_at {A} fits spell first (r ∷ rs) zero reading are e =
    let same : r ≡ reading = cc in
    let at : first + 0 ≡ first = omega arith in
    rw at (subst (λ (f : List ℕ → Option (A × List ℕ)). IsVariant fits spell first f) same are.0)
variant_at {A} fits spell first (r ∷ rs) (suc i) reading are e =
    let at : first + suc i ≡ first + 1 + i = omega arith in
    rw at (variant_at fits spell (first + 1) rs i reading are.1 e)

pub variants_only : {A : Type 0} (fits : A → Bool) (spell : A → List ℕ) (readings : List (List ℕ → Option (A × List ℕ))) → AreVariants fits spell 0 readings
    → (bytes : List ℕ) (x : A) (rest : List ℕ) → AreBytes bytes → read_variant readings bytes ≡ Some (x, rest) → (fits x ≡ true) × (bytes ≡ spell x ++ rest)
variants_only fits spell readings variants [] x rest are e = absurd cc
variants_only fits spell readings variants (number ∷ bytes) x rest are e =
    let a = bind_some (slice_get readings number) (λ reading. reading bytes) (x, rest) e in
    let at : 0 + number ≡ number = omega arith in
    let it = subst (λ n. IsVariant fits spell n a.0) at (variant_at fits spell 0 readings number a.0 variants a.1) in
    it bytes x rest (AreBytes-rest (number ∷ []) bytes (number ∷ bytes) are refl) a.2

pub bare_only : {A : Type 0} (fits : A → Bool) (spell : A → List ℕ) (number : ℕ) (x : A) → fits x ≡ true → spell x ≡ number ∷ [] → IsVariant fits spell number (bare x)
bare_only fits spell number x fits_is spell_is bytes y rest are e =
    let both = parts_of (x, bytes) (y, rest) e in
    (ap fits (sym both.0) ∙ fits_is, ap (λ (l : List ℕ). number ∷ l) both.1 ∙ sym (ap (λ (l : List ℕ). l ++ rest) (ap spell (sym both.0) ∙ spell_is)))

pub holding_only : {A B : Type 0} (fits : A → Bool) (spell : A → List ℕ) (number : ℕ) {form : Form B} (variant : B → A) → IsForm form
    → ((y : B) → fits (variant y) ≡ form.fits y) → ((y : B) → spell (variant y) ≡ number ∷ form.spell y) → IsVariant fits spell number (holding form variant)
holding_only fits spell number {form} variant laws fits_is spell_is bytes x rest are e =
    let a = bind_some (form.read bytes) (λ y. Some (variant y.0, y.1)) (x, rest) e in
    let both = parts_of (variant a.0.0, a.0.1) (x, rest) a.2 in
    let it = laws.only bytes a.0.0 a.0.1 are a.1 in
    let spelled : spell x ≡ number ∷ form.spell a.0.0 = ap spell (sym both.0) ∙ spell_is a.0.0 in (
      ap fits (sym both.0) ∙ fits_is a.0.0 ∙ it.0,
      ap (λ (l : List ℕ). number ∷ l) it.1 ∙ ap (λ (l : List ℕ). l ++ a.0.1) (sym spelled) ∙ ap (λ (l : List ℕ). spell x ++ l) both.1,
    )

pub holding_again : {A B : Type 0} {form : Form B} (variant : B → A) → IsForm form → (y : B) (rest : List ℕ) → form.fits y ≡ true → holding form variant (form.spell y ++ rest) ≡ Some (variant y, rest)
holding_again {form = form} variant laws y rest fits = bind_is (form.read (form.spell y ++ rest)) (λ z. Some (variant z.0, z.1)) (y, rest) (laws.again y rest fits)

-- ---- variants that hold nothing

-- the variants have the numbers from this one on, in order
abbrev pub AreNumbered : {A : Type 0} → (A → ℕ) → ℕ → List A → Type 0
AreNumbered number first [] = Unit {0}
AreNumbered number first (x ∷ xs) = (number x ≡ first) × AreNumbered number (first + 1) xs

numbered_at : {A : Type 0} (number : A → ℕ) (first : ℕ) (variants : List A) (i : ℕ) (x : A) → AreNumbered number first variants → slice_get variants i ≡ Some x → number x ≡ first + i
numbered_at number first [] i x are e = absurd cc
numbered_at number first (y ∷ ys) zero x are e = let same : y ≡ x = cc in ap number (sym same) ∙ are.0 ∙ omega arith
numbered_at number first (y ∷ ys) (suc i) x are e = numbered_at number (first + 1) ys i x are.1 e ∙ omega arith

pub plain_is_form : {A : Type 0} (number : A → ℕ) (variants : List A) → ((x : A) → slice_get variants (number x) ≡ Some x) → AreNumbered number 0 variants → IsForm (plain number variants)
plain_is_form {A} number variants found numbered = record {
  again = λ x rest fits. bind_is (slice_get variants (number x)) (λ y. Some (y, rest)) x (found x);
  only = λ bytes x rest are e. only bytes x rest e;
}
  where
    only : (bytes : List ℕ) (x : A) (rest : List ℕ) → read_plain variants bytes ≡ Some (x, rest) → (true ≡ true) × (bytes ≡ (number x ∷ []) ++ rest)
    only [] x rest e = absurd cc
    only (n ∷ bytes) x rest e =
        let a = bind_some (slice_get variants n) (λ y. Some (y, bytes)) (x, rest) e in
        let both = parts_of (a.0, bytes) (x, rest) a.2 in
        let is : number a.0 ≡ n = numbered_at number 0 variants n a.0 numbered a.1 ∙ omega arith in
        (refl, ap (λ m. m ∷ bytes) (sym is ∙ ap number both.0) ∙ ap (λ (l : List ℕ). number x ∷ l) both.1)

pub option_is_form : {A : Type 0} {form : Form A} → IsForm form → IsForm (option_form form)
unfolding option_form
option_is_form {A} {form} laws = record {
  again = again;
  only = variants_only (fits_option form) (spell_option form) (bare None ∷ holding form (λ x. Some x) ∷ []) (
    bare_only (fits_option form) (spell_option form) 0 None refl refl,
    (holding_only (fits_option form) (spell_option form) 1 (λ x. Some x) laws (λ x. refl) (λ x. refl), tt),
  );
}
  where
    again : (x : Option A) (rest : List ℕ) → fits_option form x ≡ true → read_variant (bare None ∷ holding form (λ x. Some x) ∷ []) (spell_option form x ++ rest) ≡ Some (x, rest)
    again None rest fits = refl
    again (Some x) rest fits = holding_again (λ x. Some x) laws x rest fits
