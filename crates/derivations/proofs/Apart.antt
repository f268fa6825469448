-- Texts that were put together of pieces are taken apart into them.
use Rattle.std.proofs.Common.{◌≡◌, ◌+◌, ◌-◌, ◌<◌, ◌==◌, ◌^◌, ℕ, List, [], ◌∷◌, ◌++◌, Option, Result, Ok, Err, Bool, true, false, Some, None, cond, length, take, drop, get_or, nat_lt, nat_eq, refl, sym, ap, ◌∙◌, arith, inl, inr, append-nil, length-append}
use Rattle.std.specs.Prelude.{◌&&◌, ◌||◌, not}
use Rattle.std.specs.Fmt.{decimal}
use Rattle.std.specs.Char.{is_ascii_digit}
use Rattle.std.specs.Cmp.Lexicographic.{pointwise}
use Rattle.std.specs.Option.{option_map}
use Rattle.std.specs.List.{list_all, position_or_len, AllByRecursion}
use Rattle.std.proofs.lemmas.Bool.{cases_Bool, lt-ltb, le-ltb, eqb-true, eq-eqb, ne_eqb, and_parts, and_from, not-true, not_from_false}
use Rattle.std.proofs.lemmas.Fmt.{decimal_nonempty, first_decimal, decimal_digit, digits_decimal, digits_value-decimal}
use Rattle.std.proofs.lemmas.List.{take_at, drop_at, drop-drop}
use Rattle.derivations.specs.Text.{joined}
use Rattle.derivations.specs.Reading.{cut, behind, before, parts, number, value_of, is_plain, each}
use Rattle.derivations.specs.declared.reading.tokens.LineFault.{LineFault}
use Rattle.derivations.specs.declared.reading.tokens.LineFault.TheVariants.{Form, Number}
use Rattle.derivations.proofs.Pieces.{numerals}

-- the byte isn't in the text
abbrev pub lacks : ℕ → List ℕ → Bool
lacks byte text = list_all (λ b. not (b == byte)) text

pub lacks-append : (byte : ℕ) (xs ys : List ℕ) → lacks byte xs ≡ true → lacks byte ys ≡ true → lacks byte (xs ++ ys) ≡ true
lacks-append byte [] ys p q = q
lacks-append byte (x ∷ xs) ys p q =
    let t = and_parts (not (x == byte)) (lacks byte xs) p in
    and_from (not (x == byte)) (lacks byte (xs ++ ys)) t.0 (lacks-append byte xs ys t.1 q)

pub joined_lacks : {A : Type 0} (byte : ℕ) (text : A → List ℕ) (Fits : A → Type 0) → ((x : A) → Fits x → lacks byte (text x) ≡ true) → (xs : List A) → AllByRecursion Fits xs → lacks byte (joined text xs) ≡ true
joined_lacks byte text Fits apart [] fs = refl
joined_lacks byte text Fits apart (x ∷ xs) fs = lacks-append byte (text x) (joined text xs) (apart x fs.0) (joined_lacks byte text Fits apart xs fs.1)

-- ---- where a byte stands first

first_there : (byte : ℕ) (xs ys : List ℕ) → lacks byte xs ≡ true → position_or_len (λ b. b == byte) (xs ++ byte ∷ ys) ≡ length xs
first_there byte [] ys h = rw (eq-eqb byte byte refl) refl
first_there byte (x ∷ xs) ys h =
    let t = and_parts (not (x == byte)) (lacks byte xs) h in
    rw (t.0) (omega (arith, first_there byte xs ys t.1))

nowhere : (byte : ℕ) (xs : List ℕ) → lacks byte xs ≡ true → position_or_len (λ b. b == byte) xs ≡ length xs
nowhere byte [] h = refl
nowhere byte (x ∷ xs) h =
    let t = and_parts (not (x == byte)) (lacks byte xs) h in
    rw (t.0) (omega (arith, nowhere byte xs t.1))

cut_there : (text xs ys : List ℕ) (at : ℕ) (b : Bool) → b ≡ true → take at text ≡ xs → drop (at + 1) text ≡ ys → ◌≡◌ {A = Option (List ℕ × List ℕ)} (option_map (λ at. (take at text, drop (at + 1) text)) (cond b (Some at) None)) (Some (xs, ys))
cut_there text xs ys at true h p q = rw (p, q) refl
cut_there text xs ys at false h p q = absurd cc

pub cut_back : (byte : ℕ) (xs ys : List ℕ) → lacks byte xs ≡ true → cut byte (xs ++ byte ∷ ys) ≡ Some (xs, ys)
cut_back byte xs ys h =
    let text = xs ++ byte ∷ ys in
    let at = position_or_len (λ b. b == byte) text in
    let place : at ≡ length xs = first_there byte xs ys h in
    let inside : at < length text = omega (arith, place, length-append xs (byte ∷ ys)) in
    cut_there text xs ys at (nat_lt at (length text)) (lt-ltb at (length text) inside) (rw place (take_at xs (byte ∷ ys) (length xs) refl)) (rw place (sym (drop-drop 1 (length xs) text) ∙ ap (drop 1) (drop_at xs (byte ∷ ys) (length xs) refl)))

cut_nothing : (text : List ℕ) (at : ℕ) (b : Bool) → b ≡ false → ◌≡◌ {A = Option (List ℕ × List ℕ)} (option_map (λ at. (take at text, drop (at + 1) text)) (cond b (Some at) None)) None
cut_nothing text at true h = absurd cc
cut_nothing text at false h = refl

pub cut_none : (byte : ℕ) (xs : List ℕ) → lacks byte xs ≡ true → cut byte xs ≡ None
cut_none byte xs h =
    let at = position_or_len (λ b. b == byte) xs in
    cut_nothing xs at (nat_lt at (length xs)) (le-ltb at (length xs) (omega (arith, nowhere byte xs h)))

-- ---- words before and a byte behind

pub itself : (xs : List ℕ) → pointwise nat_eq xs xs ≡ true
itself [] = refl
itself (x ∷ xs) = and_from (x == x) (pointwise nat_eq xs xs) (eq-eqb x x refl) (itself xs)

found_there : (xs ys : List ℕ) (b : Bool) → b ≡ true → xs ≡ ys → ◌≡◌ {A = Option (List ℕ)} (cond b (Some xs) None) (Some ys)
found_there xs ys true h e = ap (λ (x : List ℕ). Some x) e
found_there xs ys false h e = absurd cc

pub behind_back : (words rest : List ℕ) → behind words (words ++ rest) ≡ Some rest
behind_back words rest =
    found_there (drop (length words) (words ++ rest)) rest (pointwise nat_eq (take (length words) (words ++ rest)) words)
    (ap (λ (x : List ℕ). pointwise nat_eq x words) (take_at words rest (length words) refl) ∙ itself words)
    (drop_at words rest (length words) refl)

pub before_back : (byte : ℕ) (front : List ℕ) → before byte (front ++ byte ∷ []) ≡ Some front
before_back byte front =
    let text = front ++ byte ∷ [] in
    let all : length front ≡ length text - 1 = omega (arith, length-append front (byte ∷ [])) in
    found_there (take (length text - 1) text) front (pointwise nat_eq (drop (length text - 1) text) (byte ∷ []))
    (ap (λ (x : List ℕ). pointwise nat_eq x (byte ∷ [])) (drop_at front (byte ∷ []) (length text - 1) all) ∙ itself (byte ∷ []))
    (take_at front (byte ∷ []) (length text - 1) all)

-- ---- parts

pub parts_first : (byte : ℕ) (xs ys : List ℕ) → lacks byte xs ≡ true → parts byte (xs ++ byte ∷ ys) ≡ xs ∷ parts byte ys
parts_first byte [] ys h = rw (eq-eqb byte byte refl) refl
parts_first byte (x ∷ xs) ys h =
    let t = and_parts (not (x == byte)) (lacks byte xs) h in
    rw (not-true (x == byte) t.0, parts_first byte xs ys t.1) refl

pub parts_alone : (byte : ℕ) (xs : List ℕ) → lacks byte xs ≡ true → parts byte xs ≡ xs ∷ []
parts_alone byte [] h = refl
parts_alone byte (x ∷ xs) h =
    let t = and_parts (not (x == byte)) (lacks byte xs) h in
    rw (not-true (x == byte) t.0, parts_alone byte xs t.1) refl

-- ---- numbers

digits_lack : (byte : ℕ) (ds : List ℕ) → is_ascii_digit byte ≡ false → list_all is_ascii_digit ds ≡ true → lacks byte ds ≡ true
digits_lack byte [] h all = refl
digits_lack byte (d ∷ ds) h all =
    let t = and_parts (is_ascii_digit d) (list_all is_ascii_digit ds) all in
    let other : (d ≡ byte) → ⊥ = λ e. cc (t.0, h, ap is_ascii_digit e) in
    and_from (not (d == byte)) (lacks byte ds) (not_from_false (d == byte) (ne_eqb d byte other)) (digits_lack byte ds h t.1)

digits_there : (n : ℕ) → n < 2 ^ 32 → list_all is_ascii_digit (decimal n) ≡ true
digits_there n h = digits_decimal numerals n (omega arith)

pub decimal_lacks : (byte n : ℕ) → is_ascii_digit byte ≡ false → n < 2 ^ 32 → lacks byte (decimal n) ≡ true
decimal_lacks byte n h small = digits_lack byte (decimal n) h (digits_there n small)

plain_first : (ds : List ℕ) → 48 < get_or ds 0 0 → is_plain ds ≡ true
plain_first [] h = absurd (omega arith)
plain_first (d ∷ ds) h = let other : (d == 48) ≡ false = ne_eqb d 48 (λ e. omega arith) in rw other refl

plain : (n : ℕ) → n < 2 ^ 32 → is_plain (decimal n) ≡ true
plain n h = elim (cases_Bool (n == 0)) [
  | inl none ↦ let e : n ≡ 0 = eqb-true n 0 none in rw (e, decimal_digit 0 (omega arith)) refl
  | inr some ↦ plain_first (decimal n) (first_decimal n (grind arith) (omega arith))
]

some_digit : (ds : List ℕ) → 0 < length ds → (length ds == 0) ≡ false
some_digit ds h = ne_eqb (length ds) 0 (λ e. omega arith)

number_made : (none digits plain small : Bool) (v n : ℕ) → none ≡ false → digits ≡ true → plain ≡ true → small ≡ true → v ≡ n → ◌≡◌ {A = Result ℕ LineFault} (cond (none || not digits) (Err Form) (cond (plain && small) (Ok v) (Err Number))) (Ok n)
number_made none digits plain small v n a b c d e = rw (a, b, c, d, e) refl

pub number_back : (n : ℕ) → n < 2 ^ 32 → number (decimal n) ≡ Ok n
number_back n h =
    let ds = decimal n in
    let value : value_of ds ≡ n = digits_value-decimal numerals n (omega arith) in
    number_made (length ds == 0) (list_all is_ascii_digit ds) (is_plain ds) (nat_lt (value_of ds) (2 ^ 32)) (value_of ds) n
    (some_digit ds (decimal_nonempty n (omega arith))) (digits_there n h) (plain n h) (lt-ltb (value_of ds) (2 ^ 32) (omega arith)) value

-- ---- items one after the other

module _ {A : Type 0} (byte : ℕ) (read : List ℕ → Result A LineFault) (show : A → List ℕ) (Fits : A → Type 0) (back : (x : A) → Fits x → read (show x) ≡ Ok x) (apart : (x : A) → Fits x → lacks byte (show x) ≡ true) where
  pub list_back : (x : A) (xs : List A) → Fits x → AllByRecursion Fits xs → each read (parts byte (show x ++ joined (λ y. byte ∷ show y) xs)) ≡ Ok (x ∷ xs)
  list_back x [] f fs = rw (append-nil (show x), parts_alone byte (show x) (apart x f), back x f) refl
  list_back x (y ∷ ys) f fs = rw (parts_first byte (show x) (show y ++ joined (λ z. byte ∷ show z) ys) (apart x f), back x f, list_back y ys fs.0 fs.1) refl
