-- What is read of a line is written so again.
use Rattle.std.proofs.Common.{◌≡◌, ◌<◌, ◌==◌, ◌^◌, ℕ, List, [], ◌∷◌, ◌++◌, Option, Result, Ok, Err, Bool, true, false, Some, None, cond, length, get_or, nat_lt, refl, sym, ap, ◌∙◌, arith, inl, inr, append_assoc, append-nil}
use Rattle.std.specs.Prelude.{◌&&◌, ◌||◌, not, codes}
use Rattle.std.specs.Fmt.{decimal}
use Rattle.std.specs.Char.{is_ascii_digit}
use Rattle.std.specs.List.{list_all}
use Rattle.std.proofs.lemmas.Bool.{cases_Bool, ltb-true, eqb-true}
use Rattle.std.proofs.lemmas.Fmt.{decimal-digits_value}
use Rattle.op_constraints.specs.declared.Lit.{Lit}
use Rattle.derivations.specs.declared.Hint.{Hint}
use Rattle.derivations.specs.declared.Hint.TheVariants.{Lemma as LemmaHint, Given}
use Rattle.derivations.specs.Text.{joined, token, lit_text, later_member, members_text, hint_text, clause_text}
use Rattle.derivations.specs.Reading.{cut, before, parts, number, value_of, is_plain, each, both, made, where_there, lit, members, place, given, hint, spaced, lits, clause}
use Rattle.derivations.specs.declared.reading.tokens.LineFault.{LineFault}
use Rattle.derivations.specs.declared.reading.tokens.LineFault.TheVariants.{Form, Number, Memory}
use Rattle.derivations.proofs.Pieces.{numerals, joined_parts, cut_is, before_is}
use Rattle.derivations.proofs.Parts.{parts_there}

-- ---- the parts of an answer

pub both_is : {A B C : Type 0} (f : A → B → C) (a : Result A LineFault) (b : Result B LineFault) (z : C) → both f a b ≡ Ok z → (x : A) × (y : B) × (a ≡ Ok x) × (b ≡ Ok y) × (f x y ≡ z)
both_is f (Ok x) (Ok y) z h = (x, y, refl, refl, cc)
both_is f (Ok x) (Err fault) z h = absurd cc
both_is f (Err Form) b z h = absurd cc
both_is f (Err Memory) b z h = absurd cc
both_is f (Err Number) (Ok y) z h = absurd cc
both_is f (Err Number) (Err fault) z h = absurd cc

pub made_is : {A B : Type 0} (f : A → B) (a : Result A LineFault) (z : B) → made f a ≡ Ok z → (x : A) × (a ≡ Ok x) × (f x ≡ z)
made_is f (Ok x) z h = (x, refl, cc)
made_is f (Err fault) z h = absurd cc

pub there_is : {A B : Type 0} (a : Option A) (read : A → Result B LineFault) (z : B) → where_there a read ≡ Ok z → (x : A) × (a ≡ Some x) × (read x ≡ Ok z)
there_is None read z h = absurd cc
there_is (Some x) read z h = (x, refl, h)

-- ---- numbers

pub number_parts : (some digits plain small : Bool) (v n : ℕ) → ◌≡◌ {A = Result ℕ LineFault} (cond (some || not digits) (Err Form) (cond (plain && small) (Ok v) (Err Number))) (Ok n)
    → (some ≡ false) × (digits ≡ true) × (plain ≡ true) × (small ≡ true) × (v ≡ n)
number_parts true digits plain small v n h = absurd cc
number_parts false false plain small v n h = absurd cc
number_parts false true false small v n h = absurd cc
number_parts false true true false v n h = absurd cc
number_parts false true true true v n h = (refl, refl, refl, refl, cc)

plain_leads : (digits : List ℕ) → is_plain digits ≡ true → get_or digits 0 0 ≡ 48 → length digits ≡ 1
plain_leads [] h e = absurd cc
plain_leads (d ∷ ds) h e = let zero' : (d == 48) ≡ true = grind arith in let rest : (length ds == 0) ≡ true = cc (rw zero' at h) in omega (arith, eqb-true (length ds) 0 rest)

nonempty : (digits : List ℕ) → (length digits == 0) ≡ false → 0 < length digits
nonempty [] h = absurd cc
nonempty (d ∷ ds) h = omega arith

pub number_is : (digits : List ℕ) (n : ℕ) → number digits ≡ Ok n → digits ≡ decimal n
number_is digits n h =
    let found = number_parts (length digits == 0) (list_all is_ascii_digit digits) (is_plain digits) (nat_lt (value_of digits) (2 ^ 32)) (value_of digits) n h in
    let small : value_of digits < 2 ^ 64 = omega (arith, ltb-true _ _ found.3) in
    sym (decimal-digits_value numerals digits found.1 (nonempty digits found.0) (plain_leads digits found.2) small) ∙ ap decimal found.4

-- ---- items one after the other

module _ {A : Type 0} (byte : ℕ) (read : List ℕ → Result A LineFault) (show : A → List ℕ) (written : (text : List ℕ) (x : A) → read text ≡ Ok x → text ≡ show x) where
  pub each_is : (texts : List (List ℕ)) (xs : List A) → each read texts ≡ Ok xs → joined (λ part. byte ∷ part) texts ≡ joined (λ x. byte ∷ show x) xs
  each_is [] xs h = let e : xs ≡ [] = cc in rw e refl
  each_is (text ∷ texts) xs h =
      let b = both_is (λ x xs. x ∷ xs) (read text) (each read texts) xs h in
      ap (λ (t : List ℕ). (byte ∷ t) ++ joined (λ part. byte ∷ part) texts) (written text b.0 b.2)
      ∙ ap (λ (r : List ℕ). (byte ∷ show b.0) ++ r) (each_is texts b.1 b.3)
      ∙ ap (λ (ys : List A). joined (λ x. byte ∷ show x) ys) b.4

  pub list_is : (text : List ℕ) (xs : List A) → each read (parts byte text) ≡ Ok xs → byte ∷ text ≡ joined (λ x. byte ∷ show x) xs
  list_is text xs h = joined_parts byte text ∙ each_is (parts byte text) xs h

  -- there is a first one
  pub some_is : (texts : List (List ℕ)) (xs : List A) → ((first : List ℕ) × (more : List (List ℕ)) × (texts ≡ first ∷ more)) → each read texts ≡ Ok xs → (x : A) × (ys : List A) × (xs ≡ x ∷ ys)
  some_is texts xs there h =
      let b = both_is (λ x xs. x ∷ xs) (read there.0) (each read there.1) xs (rw there.2 at h) in
      (b.0, b.1, sym b.4)

module _ {A : Type 0} (read : List ℕ → Result A LineFault) (show : A → List ℕ) (written : (text : List ℕ) (x : A) → read text ≡ Ok x → text ≡ show x) where
  pub spaced_is : (text : List ℕ) (xs : List A) → spaced read text ≡ Ok xs → text ≡ joined (λ x. token (show x)) xs
  spaced_is [] xs h = let e : xs ≡ [] = cc in rw e refl
  spaced_is (space ∷ text) xs h = elim (cases_Bool (space == 32)) [
    | inl hit ↦ let same : space ≡ 32 = eqb-true space 32 hit in rw same (list_is 32 read show written text xs (rw hit at h))
    | inr other ↦ absurd (cc (rw other at h))
  ]

-- ---- literals and hints

signed_is : (positive : Bool) (sign : ℕ) (digits : List ℕ) (l : Lit) → sign ≡ cond positive 43 45 → made (λ v. record { var = v; positive = positive }) (number digits) ≡ Ok l → sign ∷ digits ≡ lit_text l
signed_is positive sign digits l same h =
    let m = made_is (λ v. record { var = v; positive = positive }) (number digits) l h in
    ap (λ (s : ℕ). s ∷ digits) same ∙ ap (λ (ds : List ℕ). cond positive 43 45 ∷ ds) (number_is digits m.0 m.1) ∙ ap lit_text m.2

pub lit_is : (text : List ℕ) (l : Lit) → lit text ≡ Ok l → text ≡ lit_text l
lit_is [] l h = absurd cc
lit_is (sign ∷ digits) l h = elim (cases_Bool (sign == 43)) [
  | inl plus ↦ signed_is true sign digits l (eqb-true sign 43 plus) (rw plus at h)
  | inr not_first ↦ elim (cases_Bool (sign == 45)) [
    | inl minus ↦ signed_is false sign digits l (eqb-true sign 45 minus) (rw (not_first, minus) at h)
    | inr neither ↦ absurd (cc (rw (not_first, neither) at h))
  ]
]

pub tail_is : (b : ℕ) (xs ys : List ℕ) → b ∷ xs ≡ b ∷ ys → xs ≡ ys
tail_is b xs ys h = cc

members_written : (inner : List ℕ) (ms : List ℕ) → ((x : ℕ) × (ys : List ℕ) × (ms ≡ x ∷ ys)) → 44 ∷ inner ≡ joined (λ v. 44 ∷ decimal v) ms → 40 ∷ (inner ++ 41 ∷ []) ≡ members_text ms
members_written inner ms some h =
    let text : inner ≡ decimal some.0 ++ joined later_member some.1 = tail_is 44 inner (decimal some.0 ++ joined later_member some.1) (h ∙ ap (joined later_member) some.2) in
    ap (λ (t : List ℕ). 40 ∷ (t ++ 41 ∷ [])) text ∙ ap members_text (sym some.2)

pub members_is : (text : List ℕ) (ms : List ℕ) → members text ≡ Ok ms → 40 ∷ text ≡ members_text ms
members_is text ms h =
    let t = there_is (before 41 text) (λ inner. each number (parts 44 inner)) ms h in
    ap (λ (x : List ℕ). 40 ∷ x) (before_is 41 text t.0 t.1)
    ∙ members_written t.0 ms (some_is 44 number decimal number_is (parts 44 t.0) ms (parts_there 44 t.0) t.2) (list_is 44 number decimal number_is t.0 ms t.2)

place_of : (text : List ℕ) (around : Option (List ℕ × List ℕ)) (x : ℕ × List ℕ) → cut 40 text ≡ around → place text around ≡ Ok x → text ≡ decimal x.0 ++ members_text x.1
place_of text None x e h =
    let m = made_is (λ c. (c, [])) (number text) x h in
    number_is text m.0 m.1 ∙ sym (append-nil (decimal m.0)) ∙ ap (λ (y : ℕ × List ℕ). decimal y.0 ++ members_text y.1) m.2
place_of text (Some around) x e h =
    let b = both_is (λ c ms. (c, ms)) (number around.0) (members around.1) x h in
    cut_is 40 text around e ∙ ap (λ (t : List ℕ). t ++ 40 ∷ around.1) (number_is around.0 b.0 b.2) ∙ ap (λ (t : List ℕ). decimal b.0 ++ t) (members_is around.1 b.1 b.3)
    ∙ ap (λ (y : ℕ × List ℕ). decimal y.0 ++ members_text y.1) b.4

given_is : (text : List ℕ) (around : List ℕ × List ℕ) (x : Hint) → cut 46 text ≡ Some around → given around ≡ Ok x → 71 ∷ text ≡ hint_text x
given_is text around x e h =
    let m = made_is (λ (x : ℕ × (ℕ × List ℕ)). Given x.0 x.1.0 x.1.1) (both (λ v rest. (v, rest)) (number around.0) (place around.1 (cut 40 around.1))) x h in
    let b = both_is (λ v rest. (v, rest)) (number around.0) (place around.1 (cut 40 around.1)) m.0 m.1 in
    let whole : text ≡ decimal b.0 ++ 46 ∷ (decimal b.1.0 ++ members_text b.1.1) =
    cut_is 46 text around e ∙ ap (λ (t : List ℕ). t ++ 46 ∷ around.1) (number_is around.0 b.0 b.2) ∙ ap (λ (t : List ℕ). decimal b.0 ++ 46 ∷ t) (place_of around.1 (cut 40 around.1) b.1 refl b.3) in
    ap (λ (t : List ℕ). 71 ∷ t) whole
    ∙ ap (λ (t : List ℕ). 71 ∷ t) (sym (append_assoc (decimal b.0) (46 ∷ decimal b.1.0) (members_text b.1.1)))
    ∙ ap (λ (y : ℕ × (ℕ × List ℕ)). hint_text (Given y.0 y.1.0 y.1.1)) b.4
    ∙ ap hint_text m.2

lemma_is : (kind : ℕ) (text : List ℕ) (x : Hint) → kind ≡ 76 → made LemmaHint (number text) ≡ Ok x → kind ∷ text ≡ hint_text x
lemma_is kind text x same h =
    let m = made_is LemmaHint (number text) x h in
    ap (λ (k : ℕ). k ∷ text) same ∙ ap (λ (t : List ℕ). 76 ∷ t) (number_is text m.0 m.1) ∙ ap hint_text m.2

other_is : (kind : ℕ) (text : List ℕ) (x : Hint) → kind ≡ 71 → where_there (cut 46 text) given ≡ Ok x → kind ∷ text ≡ hint_text x
other_is kind text x same h =
    let t = there_is (cut 46 text) given x h in
    ap (λ (k : ℕ). k ∷ text) same ∙ given_is text t.0 x t.1 t.2

pub hint_is : (text : List ℕ) (x : Hint) → hint text ≡ Ok x → text ≡ hint_text x
hint_is [] x h = absurd cc
hint_is (kind ∷ text) x h = elim (cases_Bool (kind == 76)) [
  | inl lemma ↦ lemma_is kind text x (eqb-true kind 76 lemma) (rw lemma at h)
  | inr not_first ↦ elim (cases_Bool (kind == 71)) [
    | inl other ↦ other_is kind text x (eqb-true kind 71 other) (rw (not_first, other) at h)
    | inr neither ↦ absurd (cc (rw (not_first, neither) at h))
  ]
]

-- ---- clauses

lits_is : (text : List ℕ) (ls : List Lit) → lits text ≡ Ok ls → 32 ∷ text ≡ joined (λ l. token (lit_text l)) ls ++ 32 ∷ []
lits_is [] ls h = let e : ls ≡ [] = cc in rw e refl
lits_is (byte ∷ bytes) ls h =
    let t = there_is (before 32 (byte ∷ bytes)) (λ text. each lit (parts 32 text)) ls h in
    ap (λ (x : List ℕ). 32 ∷ x) (before_is 32 (byte ∷ bytes) t.0 t.1) ∙ ap (λ (x : List ℕ). x ++ 32 ∷ []) (list_is 32 lit lit_text lit_is t.0 ls t.2)

pub clause_is : (text : List ℕ) (c : List Lit × List Hint) → clause text ≡ Ok c → 32 ∷ text ≡ clause_text c.0 c.1
clause_is text c h =
    let t = there_is (cut 58 text) (λ around. both (λ ls hs. (ls, hs)) (lits around.0) (spaced hint around.1)) c h in
    let b = both_is (λ ls hs. (ls, hs)) (lits t.0.0) (spaced hint t.0.1) c t.2 in
    let hints : t.0.1 ≡ joined (λ h. token (hint_text h)) b.1 = spaced_is hint hint_text hint_is t.0.1 b.1 b.3 in
    ap (λ (x : List ℕ). 32 ∷ x) (cut_is 58 text t.0 t.1)
    ∙ ap (λ (x : List ℕ). x ++ 58 ∷ t.0.1) (lits_is t.0.0 b.0 b.2)
    ∙ append_assoc (joined (λ l. token (lit_text l)) b.0) (32 ∷ []) (58 ∷ t.0.1)
    ∙ sym (append_assoc (joined (λ l. token (lit_text l)) b.0) (32 ∷ 58 ∷ []) t.0.1)
    ∙ ap (λ (x : List ℕ). (joined (λ l. token (lit_text l)) b.0 ++ codes " :") ++ x) hints
    ∙ ap (λ (y : List Lit × List Hint). clause_text y.0 y.1) b.4
