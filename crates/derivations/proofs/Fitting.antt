-- The numbers of a certificate that was read fit 32 bits.
use Rattle.std.proofs.Common.{◌≡◌, ◌+◌, ◌==◌, ◌^◌, ℕ, List, [], ◌∷◌, Option, Result, Ok, Err, Bool, true, false, Some, None, cond, length, nat_lt, refl, subst, arith, inl, inr}
use Rattle.std.specs.Prelude.{codes, is_some}
use Rattle.std.specs.Char.{is_ascii_digit}
use Rattle.std.specs.List.{list_all, AllByRecursion}
use Rattle.std.proofs.lemmas.Bool.{cases_Bool, ltb-true}
use Rattle.op_constraints.specs.declared.Lit.{Lit}
use Rattle.derivations.specs.declared.Hint.{Hint}
use Rattle.derivations.specs.declared.Hint.TheVariants.{Lemma as LemmaHint, Given}
use Rattle.derivations.specs.declared.Lemma.{Lemma}
use Rattle.derivations.specs.declared.Refutation.{Refutation}
use Rattle.derivations.specs.declared.Certificate.{Certificate}
use Rattle.derivations.specs.declared.Finding.{Finding}
use Rattle.derivations.specs.declared.Finding.TheVariants.{Chosen, Refused, Undecided}
use Rattle.derivations.specs.declared.reading.cert_text.CertText.{CertText}
use Rattle.derivations.specs.declared.reading.tokens.LineFault.{LineFault}
use Rattle.derivations.specs.declared.reading.lines.Kind.{Kind}
use Rattle.derivations.specs.declared.reading.lines.Kind.TheVariants as kinds
use Rattle.derivations.specs.Fits.{NumberFits, LitFits, HintFits, ClauseFits, LemmaFits, StepFits, FindingFits, CertificateFits}
use Rattle.derivations.specs.Reading.{cut, behind, before, parts, number, value_of, is_plain, where_there, made, both, each, lit, members, place, given, hint, spaced, lits, clause, refutation, lemma, candidate, step_text, step, whole, vars, walk, word, at, and_then, line, item, lines_after, lines, finding, ended, body, certificate_of}
use Rattle.derivations.proofs.Written.{both_is, made_is, there_is, number_parts}
use Rattle.derivations.proofs.Again.{then_is, at_is, ok_is, line_is, with_first_is, made_of}

-- ---- items

number_fits : (digits : List ℕ) (n : ℕ) → number digits ≡ Ok n → NumberFits n
number_fits digits n h =
    let found = number_parts (length digits == 0) (list_all is_ascii_digit digits) (is_plain digits) (nat_lt (value_of digits) (2 ^ 32)) (value_of digits) n h in
    omega (arith, ltb-true (value_of digits) (2 ^ 32) found.3, found.4)

module _ {A : Type 0} (read : List ℕ → Result A LineFault) (Fits : A → Type 0) (fits : (text : List ℕ) (x : A) → read text ≡ Ok x → Fits x) where
  each_fits : (texts : List (List ℕ)) (xs : List A) → each read texts ≡ Ok xs → AllByRecursion Fits xs
  each_fits [] xs h = let e : [] ≡ xs = cc in subst (λ (ys : List A). AllByRecursion Fits ys) e tt
  each_fits (text ∷ texts) xs h =
      let b = both_is (λ x xs. x ∷ xs) (read text) (each read texts) xs h in
      subst (λ (ys : List A). AllByRecursion Fits ys) b.4 (fits text b.0 b.2, each_fits texts b.1 b.3)

  spaced_fits : (text : List ℕ) (xs : List A) → spaced read text ≡ Ok xs → AllByRecursion Fits xs
  spaced_fits [] xs h = each_fits [] xs h
  spaced_fits (space ∷ text) xs h = elim (cases_Bool (space == 32)) [
    | inl hit ↦ each_fits (parts 32 text) xs (rw hit at h)
    | inr other ↦ absurd (cc (rw other at h))
  ]

signed_fits : (positive : Bool) (digits : List ℕ) (l : Lit) → made (λ v. record { var = v; positive = positive }) (number digits) ≡ Ok l → LitFits l
signed_fits positive digits l h =
    let m = made_is (λ v. record { var = v; positive = positive }) (number digits) l h in
    subst (λ (x : Lit). LitFits x) m.2 (number_fits digits m.0 m.1)

lit_fits : (text : List ℕ) (l : Lit) → lit text ≡ Ok l → LitFits l
lit_fits [] l h = absurd cc
lit_fits (sign ∷ digits) l h = elim (cases_Bool (sign == 43)) [
  | inl plus ↦ signed_fits true digits l (rw plus at h)
  | inr not_first ↦ elim (cases_Bool (sign == 45)) [
    | inl minus ↦ signed_fits false digits l (rw (not_first, minus) at h)
    | inr neither ↦ absurd (cc (rw (not_first, neither) at h))
  ]
]

members_fit : (text ms : List ℕ) → members text ≡ Ok ms → AllByRecursion NumberFits ms
members_fit text ms h =
    let t = there_is (before 41 text) (λ inner. each number (parts 44 inner)) ms h in
    each_fits number NumberFits number_fits (parts 44 t.0) ms t.2

abbrev PlaceFits : ℕ × List ℕ → Type 0
PlaceFits x = NumberFits x.0 × AllByRecursion NumberFits x.1

place_fits : (text : List ℕ) (around : Option (List ℕ × List ℕ)) (x : ℕ × List ℕ) → place text around ≡ Ok x → PlaceFits x
place_fits text None x h =
    let m = made_is (λ c. (c, [])) (number text) x h in
    subst (λ (y : ℕ × List ℕ). PlaceFits y) m.2 (number_fits text m.0 m.1, tt)
place_fits text (Some around) x h =
    let b = both_is (λ c ms. (c, ms)) (number around.0) (members around.1) x h in
    subst (λ (y : ℕ × List ℕ). PlaceFits y) b.4 (number_fits around.0 b.0 b.2, members_fit around.1 b.1 b.3)

given_fits : (around : List ℕ × List ℕ) (x : Hint) → given around ≡ Ok x → HintFits x
given_fits around x h =
    let m = made_is (λ (x : ℕ × (ℕ × List ℕ)). Given x.0 x.1.0 x.1.1) (both (λ v rest. (v, rest)) (number around.0) (place around.1 (cut 40 around.1))) x h in
    let b = both_is (λ v rest. (v, rest)) (number around.0) (place around.1 (cut 40 around.1)) m.0 m.1 in
    let p = place_fits around.1 (cut 40 around.1) b.1 b.3 in
    let inner : HintFits (Given m.0.0 m.0.1.0 m.0.1.1) = subst (λ (y : ℕ × (ℕ × List ℕ)). HintFits (Given y.0 y.1.0 y.1.1)) b.4 (number_fits around.0 b.0 b.2, p.0, p.1) in
    subst (λ (y : Hint). HintFits y) m.2 inner

lemma_hint_fits : (text : List ℕ) (x : Hint) → made LemmaHint (number text) ≡ Ok x → HintFits x
lemma_hint_fits text x h =
    let m = made_is LemmaHint (number text) x h in
    subst (λ (y : Hint). HintFits y) m.2 (number_fits text m.0 m.1)

other_hint_fits : (text : List ℕ) (x : Hint) → where_there (cut 46 text) given ≡ Ok x → HintFits x
other_hint_fits text x h =
    let t = there_is (cut 46 text) given x h in
    given_fits t.0 x t.2

hint_fits : (text : List ℕ) (x : Hint) → hint text ≡ Ok x → HintFits x
hint_fits [] x h = absurd cc
hint_fits (kind ∷ text) x h = elim (cases_Bool (kind == 76)) [
  | inl lemma ↦ lemma_hint_fits text x (rw lemma at h)
  | inr not_first ↦ elim (cases_Bool (kind == 71)) [
    | inl other ↦ other_hint_fits text x (rw (not_first, other) at h)
    | inr neither ↦ absurd (cc (rw (not_first, neither) at h))
  ]
]

lits_fit : (text : List ℕ) (ls : List Lit) → lits text ≡ Ok ls → AllByRecursion LitFits ls
lits_fit [] ls h = each_fits lit LitFits lit_fits [] ls h
lits_fit (byte ∷ bytes) ls h =
    let t = there_is (before 32 (byte ∷ bytes)) (λ text. each lit (parts 32 text)) ls h in
    each_fits lit LitFits lit_fits (parts 32 t.0) ls t.2

-- ---- lines

abbrev PairFits : List Lit × List Hint → Type 0
PairFits c = ClauseFits c.0 c.1

clause_fits : (text : List ℕ) (c : List Lit × List Hint) → clause text ≡ Ok c → PairFits c
clause_fits text c h =
    let t = there_is (cut 58 text) (λ around. both (λ ls hs. (ls, hs)) (lits around.0) (spaced hint around.1)) c h in
    let b = both_is (λ ls hs. (ls, hs)) (lits t.0.0) (spaced hint t.0.1) c t.2 in
    subst (λ (y : List Lit × List Hint). PairFits y) b.4 (lits_fit t.0.0 b.0 b.2, spaced_fits hint HintFits hint_fits t.0.1 b.1 b.3)

abbrev RefutationFits : Refutation → Type 0
RefutationFits r = ClauseFits r.lits r.hints

refutation_fits : (text : List ℕ) (r : Refutation) → refutation text ≡ Ok r → RefutationFits r
refutation_fits text r h =
    let m = made_is (λ (c : List Lit × List Hint). record { lits = c.0; hints = c.1 }) (clause text) r h in
    subst (λ (y : Refutation). RefutationFits y) m.2 (clause_fits text m.0 m.1)

lemma_fits : (text : List ℕ) (x : Lemma) → lemma text ≡ Ok x → LemmaFits x
lemma_fits text x h =
    let t = there_is (behind (codes "lemma ") text) (λ text. made (λ (c : Refutation). record { lits = c.lits; hints = c.hints }) (refutation text)) x h in
    let m = made_is (λ (c : Refutation). record { lits = c.lits; hints = c.hints }) (refutation t.0) x t.2 in
    subst (λ (y : Lemma). LemmaFits y) m.2 (refutation_fits t.0 m.0 m.1)

whole_fits : (text : List ℕ) (x : Refutation) → whole text ≡ Ok x → RefutationFits x
whole_fits text x h =
    let t = there_is (behind (codes "refute-all ") text) refutation x h in
    refutation_fits t.0 x t.2

vars_fit : (text : List ℕ) (n : ℕ) → vars text ≡ Ok n → NumberFits n
vars_fit text n h =
    let t = there_is (behind (codes "vars ") text) number n h in
    number_fits t.0 n t.2

walk_fits : (text ns : List ℕ) → walk text ≡ Ok ns → AllByRecursion NumberFits ns
walk_fits text ns h =
    let t = there_is (behind (codes "walk") text) (spaced number) ns h in
    spaced_fits number NumberFits number_fits t.0 ns t.2

abbrev CandidateFits : ℕ × Refutation → Type 0
CandidateFits x = NumberFits x.0 × RefutationFits x.1

candidate_fits : (text : List ℕ) (x : ℕ × Refutation) → candidate text ≡ Ok x → CandidateFits x
candidate_fits text x h =
    let t = there_is (cut 32 text) (λ around. both (λ j r. (j, r)) (number around.0) (refutation around.1)) x h in
    let b = both_is (λ j r. (j, r)) (number t.0.0) (refutation t.0.1) x t.2 in
    subst (λ (y : ℕ × Refutation). CandidateFits y) b.4 (number_fits t.0.0 b.0 b.2, refutation_fits t.0.1 b.1 b.3)

step_text_fits : (text : List ℕ) (x : ℕ × ℕ × Refutation) → step_text text ≡ Ok x → StepFits x
step_text_fits text x h =
    let t = there_is (cut 32 text) (λ around. made (λ (x : ℕ × (ℕ × Refutation)). (x.0, x.1.0, x.1.1)) (both (λ i rest. (i, rest)) (number around.0) (candidate around.1))) x h in
    let m = made_is (λ (x : ℕ × (ℕ × Refutation)). (x.0, x.1.0, x.1.1)) (both (λ i rest. (i, rest)) (number t.0.0) (candidate t.0.1)) x t.2 in
    let b = both_is (λ i rest. (i, rest)) (number t.0.0) (candidate t.0.1) m.0 m.1 in
    let p = candidate_fits t.0.1 b.1 b.3 in
    let inner : StepFits (m.0.0, m.0.1.0, m.0.1.1) = subst (λ (y : ℕ × (ℕ × Refutation)). StepFits (y.0, y.1.0, y.1.1)) b.4 (number_fits t.0.0 b.0 b.2, p.0, p.1) in
    subst (λ (y : ℕ × ℕ × Refutation). StepFits y) m.2 inner

step_fits : (text : List ℕ) (x : ℕ × ℕ × Refutation) → step text ≡ Ok x → StepFits x
step_fits text x h =
    let t = there_is (behind (codes "refute ") text) step_text x h in
    step_text_fits t.0 x t.2

module _ {A : Type 0} (words : List ℕ) (read : List ℕ → Result A LineFault) (Fits : A → Type 0) (fits : (text : List ℕ) (x : A) → read text ≡ Ok x → Fits x) where
  item_fits : (b : Bool) (n : ℕ) (text : List ℕ) (y : A) → ◌≡◌ {A = Result (Option A) CertText} (cond b (and_then (at n (read text)) (λ x. Ok (Some x))) (Ok None)) (Ok (Some y)) → Fits y
  item_fits true n text y h =
      let t = then_is (at n (read text)) (λ x. Ok (Some x)) (Some y) h in
      let same : t.0 ≡ y = cc in
      subst (λ (z : A). Fits z) same (fits text t.0 (at_is n (read text) t.0 t.1))
  item_fits false n text y h = absurd cc

  abbrev RowsFit : List A × List (List ℕ) → Type 0
  RowsFit x = AllByRecursion Fits x.0

  one_fits : (r : Result (Option A) CertText) (texts : List (List ℕ)) (others : Result (List A × List (List ℕ)) CertText) (x : List A × List (List ℕ))
      → ((y : A) → r ≡ Ok (Some y) → Fits y)
      → ((o : List A × List (List ℕ)) → others ≡ Ok o → RowsFit o)
      → lines_after r texts others ≡ Ok x → RowsFit x
  one_fits (Ok (Some y)) texts others x this rest h =
      let w = with_first_is y others x h in
      subst (λ (o : List A × List (List ℕ)). RowsFit o) w.2 (this y refl, rest w.0 w.1)
  one_fits (Ok None) texts others x this rest h = subst (λ (o : List A × List (List ℕ)). RowsFit o) (ok_is ([], texts) x h) tt
  one_fits (Err fault) texts others x this rest h = absurd cc

  lines_fit : (n : ℕ) (texts : List (List ℕ)) (x : List A × List (List ℕ)) → lines words read n texts ≡ Ok x → RowsFit x
  lines_fit n [] x h = subst (λ (o : List A × List (List ℕ)). RowsFit o) (ok_is ([], []) x h) tt
  lines_fit n (last ∷ []) x h = subst (λ (o : List A × List (List ℕ)). RowsFit o) (ok_is ([], last ∷ []) x h) tt
  lines_fit n (text ∷ next ∷ more) x h =
      one_fits (item words read n text) (text ∷ next ∷ more) (lines words read (n + 1) (next ∷ more)) x
      (λ y e. item_fits (is_some (behind words text)) n text y e) (λ o e. lines_fit (n + 1) (next ∷ more) o e) h

-- ---- the whole

abbrev FoundFits : Finding × ℕ × List (List ℕ) → Type 0
FoundFits x = FindingFits x.0

found_fits : (k : Kind) (n : ℕ) (texts : List (List ℕ)) (x : Finding × ℕ × List (List ℕ)) → finding k n texts ≡ Ok x → FoundFits x
found_fits kinds.Undecided n texts x h = subst (λ (y : Finding × ℕ × List (List ℕ)). FoundFits y) (ok_is (Undecided, n, texts) x h) tt
found_fits kinds.Refused n texts x h =
    let t = then_is (line whole n texts) (λ found. Ok (Refused found.0, n + 1, found.1)) x h in
    let l = line_is whole n texts t.0 t.1 in
    subst (λ (y : Finding × ℕ × List (List ℕ)). FoundFits y) (ok_is (Refused t.0.0, n + 1, t.0.1) x t.2) (whole_fits l.0 t.0.0 l.1)
found_fits kinds.Chosen n texts x h =
    let t = then_is (line walk n texts) (λ taken. and_then (lines (codes "refute") step (n + 1) taken.1) (λ steps. Ok (Chosen taken.0 steps.0, n + 1 + length steps.0, steps.1))) x h in
    let u = then_is (lines (codes "refute") step (n + 1) t.0.1) (λ steps. Ok (Chosen t.0.0 steps.0, n + 1 + length steps.0, steps.1)) x t.2 in
    let l = line_is walk n texts t.0 t.1 in
    subst (λ (y : Finding × ℕ × List (List ℕ)). FoundFits y) (ok_is (Chosen t.0.0 u.0.0, n + 1 + length u.0.0, u.0.1) x u.2) (walk_fits l.0 t.0.0 l.1, lines_fit (codes "refute") step StepFits step_fits (n + 1) t.0.1 u.0 u.1)

body_fits : (k : Kind) (v : ℕ) (texts : List (List ℕ)) (c : Certificate) → NumberFits v → body k v texts ≡ Ok c → CertificateFits c
body_fits k v texts c f h =
    let t = then_is (lines (codes "lemma") lemma 3 texts) (λ lemmas. and_then (finding k (3 + length lemmas.0) lemmas.1) (λ found. and_then (ended found.1 found.2) (λ _. Ok (made_of v lemmas.0 found.0)))) c h in
    let u = then_is (finding k (3 + length t.0.0) t.0.1) (λ found. and_then (ended found.1 found.2) (λ _. Ok (made_of v t.0.0 found.0))) c t.2 in
    let w = then_is (ended u.0.1 u.0.2) (λ _. Ok (made_of v t.0.0 u.0.0)) c u.2 in
    subst (λ (y : Certificate). CertificateFits y) (ok_is (made_of v t.0.0 u.0.0) c w.2) (f, lines_fit (codes "lemma") lemma LemmaFits lemma_fits 3 texts t.0 t.1, found_fits k (3 + length t.0.0) t.0.1 u.0 u.1)

pub read_fits : (text : List ℕ) (c : Certificate) → certificate_of text ≡ Ok c → CertificateFits c
read_fits text c h =
    let t = then_is (line word 1 (parts 10 text)) (λ first. and_then (line vars 2 first.1) (λ count. body first.0 count.0 count.1)) c h in
    let u = then_is (line vars 2 t.0.1) (λ count. body t.0.0 count.0 count.1) c t.2 in
    let m = line_is vars 2 t.0.1 u.0 u.1 in
    body_fits t.0.0 u.0.0 u.0.1 c (vars_fit m.0 u.0.0 m.1) u.2
