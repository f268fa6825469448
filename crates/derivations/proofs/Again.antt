-- What is read of a text is written so again, line by line.
use Rattle.std.proofs.Common.{◌≡◌, ◌+◌, ℕ, List, [], ◌∷◌, ◌++◌, Option, Result, Ok, Err, Bool, true, false, Some, None, cond, length, refl, sym, ap, ◌∙◌, append_assoc}
use Rattle.std.specs.Prelude.{codes, nat_eq, is_some}
use Rattle.std.specs.Fmt.{decimal}
use Rattle.std.specs.Cmp.Lexicographic.{pointwise}
use Rattle.op_constraints.specs.declared.Lit.{Lit}
use Rattle.derivations.specs.declared.Hint.{Hint}
use Rattle.derivations.specs.declared.Lemma.{Lemma}
use Rattle.derivations.specs.declared.Refutation.{Refutation}
use Rattle.derivations.specs.declared.Certificate.{Certificate}
use Rattle.derivations.specs.declared.Finding.{Finding}
use Rattle.derivations.specs.declared.Finding.TheVariants.{Chosen, Refused, Undecided}
use Rattle.derivations.specs.declared.reading.cert_text.CertText.{CertText}
use Rattle.derivations.specs.declared.reading.tokens.LineFault.{LineFault}
use Rattle.derivations.specs.declared.reading.tokens.LineFault.TheVariants.{Form, Number, Memory}
use Rattle.derivations.specs.declared.reading.lines.Kind.{Kind}
use Rattle.derivations.specs.declared.reading.lines.Kind.TheVariants as kinds
use Rattle.derivations.specs.Text.{joined, token, clause_text, lemma_line, step_line, finding_word, finding_lines, certificate_text}
use Rattle.derivations.specs.Reading.{cut, behind, parts, number, made, both, spaced, clause, refutation, lemma, candidate, step_text, step, whole, vars, walk, word, end, at, and_then, line_at, line, with_first, item, lines_after, lines, chosen, finding, nothing, ended, body, certificate, certificate_of}
use Rattle.derivations.proofs.Pieces.{joined_parts, cut_is, behind_is, same_text}
use Rattle.derivations.proofs.Written.{both_is, made_is, there_is, number_is, spaced_is, clause_is, tail_is}

-- ---- each line

refutation_is : (text : List ℕ) (r : Refutation) → refutation text ≡ Ok r → 32 ∷ text ≡ clause_text r.lits r.hints
refutation_is text r h =
    let m = made_is (λ (c : List Lit × List Hint). record { lits = c.0; hints = c.1 }) (clause text) r h in
    clause_is text m.0 m.1 ∙ ap (λ (x : Refutation). clause_text x.lits x.hints) m.2

-- a line without its line feed
abbrev lemma_text : Lemma → List ℕ
lemma_text x = codes "lemma" ++ clause_text x.lits x.hints

lemma_is : (text : List ℕ) (x : Lemma) → lemma text ≡ Ok x → text ≡ lemma_text x
lemma_is text x h =
    let t = there_is (behind (codes "lemma ") text) (λ text. made (λ (c : Refutation). record { lits = c.lits; hints = c.hints }) (refutation text)) x h in
    let m = made_is (λ (c : Refutation). record { lits = c.lits; hints = c.hints }) (refutation t.0) x t.2 in
    behind_is (codes "lemma ") text t.0 t.1 ∙ ap (λ (c : List ℕ). codes "lemma" ++ c) (refutation_is t.0 m.0 m.1) ∙ ap lemma_text m.2

abbrev whole_text : Refutation → List ℕ
whole_text x = codes "refute-all" ++ clause_text x.lits x.hints

whole_is : (text : List ℕ) (x : Refutation) → whole text ≡ Ok x → text ≡ whole_text x
whole_is text x h =
    let t = there_is (behind (codes "refute-all ") text) refutation x h in
    behind_is (codes "refute-all ") text t.0 t.1 ∙ ap (λ (c : List ℕ). codes "refute-all" ++ c) (refutation_is t.0 x t.2)

vars_is : (text : List ℕ) (n : ℕ) → vars text ≡ Ok n → text ≡ codes "vars " ++ decimal n
vars_is text n h =
    let t = there_is (behind (codes "vars ") text) number n h in
    behind_is (codes "vars ") text t.0 t.1 ∙ ap (λ (c : List ℕ). codes "vars " ++ c) (number_is t.0 n t.2)

walk_is : (text : List ℕ) (ns : List ℕ) → walk text ≡ Ok ns → text ≡ codes "walk" ++ joined (λ n. token (decimal n)) ns
walk_is text ns h =
    let t = there_is (behind (codes "walk") text) (spaced number) ns h in
    behind_is (codes "walk") text t.0 t.1 ∙ ap (λ (c : List ℕ). codes "walk" ++ c) (spaced_is number decimal number_is t.0 ns t.2)

abbrev behind_number : ℕ × Refutation → List ℕ
behind_number x = decimal x.0 ++ clause_text x.1.lits x.1.hints

candidate_is : (text : List ℕ) (x : ℕ × Refutation) → candidate text ≡ Ok x → text ≡ behind_number x
candidate_is text x h =
    let t = there_is (cut 32 text) (λ around. both (λ j r. (j, r)) (number around.0) (refutation around.1)) x h in
    let b = both_is (λ j r. (j, r)) (number t.0.0) (refutation t.0.1) x t.2 in
    cut_is 32 text t.0 t.1
    ∙ ap (λ (d : List ℕ). d ++ 32 ∷ t.0.1) (number_is t.0.0 b.0 b.2)
    ∙ ap (λ (d : List ℕ). decimal b.0 ++ d) (refutation_is t.0.1 b.1 b.3)
    ∙ ap behind_number b.4

abbrev step_in : ℕ × ℕ × Refutation → List ℕ
step_in x = decimal x.0 ++ 32 ∷ (decimal x.1 ++ clause_text x.2.lits x.2.hints)

step_text_is : (text : List ℕ) (x : ℕ × ℕ × Refutation) → step_text text ≡ Ok x → text ≡ step_in x
step_text_is text x h =
    let t = there_is (cut 32 text) (λ around. made (λ (x : ℕ × (ℕ × Refutation)). (x.0, x.1.0, x.1.1)) (both (λ i rest. (i, rest)) (number around.0) (candidate around.1))) x h in
    let m = made_is (λ (x : ℕ × (ℕ × Refutation)). (x.0, x.1.0, x.1.1)) (both (λ i rest. (i, rest)) (number t.0.0) (candidate t.0.1)) x t.2 in
    let b = both_is (λ i rest. (i, rest)) (number t.0.0) (candidate t.0.1) m.0 m.1 in
    cut_is 32 text t.0 t.1
    ∙ ap (λ (d : List ℕ). d ++ 32 ∷ t.0.1) (number_is t.0.0 b.0 b.2)
    ∙ ap (λ (d : List ℕ). decimal b.0 ++ 32 ∷ d) (candidate_is t.0.1 b.1 b.3)
    ∙ ap (λ (y : ℕ × (ℕ × Refutation)). step_in (y.0, y.1.0, y.1.1)) b.4
    ∙ ap step_in m.2

abbrev step_shown : ℕ × ℕ × Refutation → List ℕ
step_shown x = codes "refute" ++ token (decimal x.0) ++ token (decimal x.1) ++ clause_text x.2.lits x.2.hints

step_is : (text : List ℕ) (x : ℕ × ℕ × Refutation) → step text ≡ Ok x → text ≡ step_shown x
step_is text x h =
    let t = there_is (behind (codes "refute ") text) step_text x h in
    behind_is (codes "refute ") text t.0 t.1
    ∙ ap (λ (c : List ℕ). codes "refute " ++ c) (step_text_is t.0 x t.2)
    ∙ ap (λ (c : List ℕ). codes "refute " ++ c) (sym (append_assoc (decimal x.0) (32 ∷ decimal x.1) (clause_text x.2.lits x.2.hints)))

-- ---- lines

-- the text of these parts
abbrev unlined : List (List ℕ) → List ℕ
unlined [] = []
unlined (text ∷ texts) = text ++ joined (λ part. 10 ∷ part) texts

unlined_from : (text : List ℕ) (texts : List (List ℕ)) → 10 ∷ text ≡ joined (λ part. 10 ∷ part) texts → text ≡ unlined texts
unlined_from text [] h = absurd cc
unlined_from text (first ∷ texts) h = tail_is 10 text (first ++ joined (λ part. 10 ∷ part) texts) h

unlined_parts : (text : List ℕ) → text ≡ unlined (parts 10 text)
unlined_parts text = unlined_from text (parts 10 text) (joined_parts 10 text)

pub then_is : {A B : Type 0} (a : Result A CertText) (next : A → Result B CertText) (z : B) → and_then a next ≡ Ok z → (x : A) × (a ≡ Ok x) × (next x ≡ Ok z)
then_is (Ok x) next z h = (x, refl, h)
then_is (Err fault) next z h = absurd cc

pub at_is : {A : Type 0} (n : ℕ) (r : Result A LineFault) (x : A) → at n r ≡ Ok x → r ≡ Ok x
at_is n (Ok y) x h = cc
at_is n (Err Form) x h = absurd cc
at_is n (Err Number) x h = absurd cc
at_is n (Err Memory) x h = absurd cc

abbrev ok_text : {A : Type 0} → A → Result A CertText
ok_text x = Ok x

pub ok_is : {A : Type 0} (x y : A) → ok_text x ≡ ok_text y → x ≡ y
ok_is x y h = cc

line_at_is : (texts : List (List ℕ)) (next : List ℕ × List (List ℕ)) → line_at texts ≡ Ok next → unlined texts ≡ next.0 ++ 10 ∷ unlined next.1
line_at_is [] next h = absurd cc
line_at_is (last ∷ []) next h = absurd cc
line_at_is (text ∷ after ∷ more) next h = ap (λ (n : List ℕ × List (List ℕ)). n.0 ++ 10 ∷ unlined n.1) (ok_is (text, after ∷ more) next h)

-- a line that was read, and the text behind it
pub line_is : {A : Type 0} (read : List ℕ → Result A LineFault) (n : ℕ) (texts : List (List ℕ)) (x : A × List (List ℕ)) → line read n texts ≡ Ok x
    → (text : List ℕ) × (read text ≡ Ok x.0) × (unlined texts ≡ text ++ 10 ∷ unlined x.1)
line_is {A} read n texts x h =
    let a = then_is (line_at texts) (λ next. and_then (at n (read next.0)) (λ y. Ok (y, next.1))) x h in
    let b = then_is (at n (read a.0.0)) (λ y. Ok (y, a.0.1)) x a.2 in
    let e : ◌≡◌ {A = A × List (List ℕ)} (b.0, a.0.1) x = ok_is (b.0, a.0.1) x b.2 in
    (a.0.0, at_is n (read a.0.0) b.0 b.1 ∙ ap (λ (p : A × List (List ℕ)). Ok p.0) e, line_at_is texts a.0 a.1 ∙ ap (λ (p : A × List (List ℕ)). a.0.0 ++ 10 ∷ unlined p.1) e)

pub with_first_is : {A B : Type 0} (y : A) (others : Result (List A × B) CertText) (x : List A × B) → with_first y others ≡ Ok x → (o : List A × B) × (others ≡ Ok o) × ((y ∷ o.0, o.1) ≡ x)
with_first_is y (Ok o) x h = (o, refl, ok_is (y ∷ o.0, o.1) x h)
with_first_is y (Err fault) x h = absurd cc

module _ {A : Type 0} (words : List ℕ) (read : List ℕ → Result A LineFault) (show : A → List ℕ) (written : (text : List ℕ) (x : A) → read text ≡ Ok x → text ≡ show x) where
  item_from : (b : Bool) (n : ℕ) (text : List ℕ) (y : A) → ◌≡◌ {A = Result (Option A) CertText} (cond b (and_then (at n (read text)) (λ x. Ok (Some x))) (Ok None)) (Ok (Some y)) → read text ≡ Ok y
  item_from true n text y h =
      let t = then_is (at n (read text)) (λ x. Ok (Some x)) (Some y) h in
      let same : t.0 ≡ y = cc in
      at_is n (read text) t.0 t.1 ∙ ap (λ (z : A). Ok z) same
  item_from false n text y h = absurd cc

  abbrev shown_all : List A × List (List ℕ) → List ℕ
  shown_all x = joined (λ y. show y ++ 10 ∷ []) x.0 ++ unlined x.1

  one_more : (texts more : List (List ℕ)) (text : List ℕ) (r : Result (Option A) CertText) (others : Result (List A × List (List ℕ)) CertText) (x : List A × List (List ℕ))
      → unlined texts ≡ text ++ 10 ∷ unlined more
      → ((y : A) → r ≡ Ok (Some y) → read text ≡ Ok y)
      → ((o : List A × List (List ℕ)) → others ≡ Ok o → unlined more ≡ shown_all o)
      → lines_after r texts others ≡ Ok x → unlined texts ≡ shown_all x
  one_more texts more text (Ok (Some y)) others x front this rest h =
      let w = with_first_is y others x h in
      front
      ∙ ap (λ (t : List ℕ). t ++ 10 ∷ unlined more) (written text y (this y refl))
      ∙ ap (λ (t : List ℕ). show y ++ 10 ∷ t) (rest w.0 w.1)
      ∙ sym (append_assoc (show y) (10 ∷ []) (shown_all w.0))
      ∙ sym (append_assoc (show y ++ 10 ∷ []) (joined (λ z. show z ++ 10 ∷ []) w.0.0) (unlined w.0.1))
      ∙ ap shown_all w.2
  one_more texts more text (Ok None) others x front this rest h = ap shown_all (ok_is ([], texts) x h)
  one_more texts more text (Err fault) others x front this rest h = absurd cc

  lines_is : (n : ℕ) (texts : List (List ℕ)) (x : List A × List (List ℕ)) → lines words read n texts ≡ Ok x → unlined texts ≡ shown_all x
  lines_is n [] x h = ap shown_all (ok_is ([], []) x h)
  lines_is n (last ∷ []) x h = ap shown_all (ok_is ([], last ∷ []) x h)
  lines_is n (text ∷ next ∷ more) x h =
      one_more (text ∷ next ∷ more) (next ∷ more) text (item words read n text) (lines words read (n + 1) (next ∷ more)) x refl
      (λ y e. item_from (is_some (behind words text)) n text y e) (λ o e. lines_is (n + 1) (next ∷ more) o e) h

-- ---- the first line and the last

abbrev pub kind_line : Kind → List ℕ
kind_line kinds.Chosen = codes "certificate 1 chosen"
kind_line kinds.Refused = codes "certificate 1 refused"
kind_line kinds.Undecided = codes "certificate 1 undecided"

abbrev pub kind_word : Kind → List ℕ
kind_word kinds.Chosen = codes "chosen\n"
kind_word kinds.Refused = codes "refused\n"
kind_word kinds.Undecided = codes "undecided\n"

word_from : (text : List ℕ) (a b c : Bool) (k : Kind)
    → (a ≡ true → text ≡ codes "certificate 1 chosen") → (b ≡ true → text ≡ codes "certificate 1 refused") → (c ≡ true → text ≡ codes "certificate 1 undecided")
    → ◌≡◌ {A = Result Kind LineFault} (cond a (Ok kinds.Chosen) (cond b (Ok kinds.Refused) (cond c (Ok kinds.Undecided) (Err Form)))) (Ok k)
    → text ≡ kind_line k
word_from text true b c k p q r h = let e : kinds.Chosen ≡ k = cc in p refl ∙ ap kind_line e
word_from text false true c k p q r h = let e : kinds.Refused ≡ k = cc in q refl ∙ ap kind_line e
word_from text false false true k p q r h = let e : kinds.Undecided ≡ k = cc in r refl ∙ ap kind_line e
word_from text false false false k p q r h = absurd cc

word_is : (text : List ℕ) (k : Kind) → word text ≡ Ok k → text ≡ kind_line k
word_is text k h =
    word_from text (pointwise nat_eq text (codes "certificate 1 chosen")) (pointwise nat_eq text (codes "certificate 1 refused")) (pointwise nat_eq text (codes "certificate 1 undecided")) k
    (same_text text (codes "certificate 1 chosen")) (same_text text (codes "certificate 1 refused")) (same_text text (codes "certificate 1 undecided")) h

end_from : (text : List ℕ) (b : Bool) (u : Unit {0}) → (b ≡ true → text ≡ codes "end") → ◌≡◌ {A = Result (Unit {0}) LineFault} (cond b (Ok tt) (Err Form)) (Ok u) → text ≡ codes "end"
end_from text true u p h = p refl
end_from text false u p h = absurd cc

nothing_is : (n : ℕ) (texts : List (List ℕ)) (u : Unit {0}) → nothing n texts ≡ Ok u → unlined texts ≡ []
nothing_is n [] u h = absurd cc
nothing_is n ([] ∷ []) u h = refl
nothing_is n ([] ∷ text ∷ texts) u h = absurd cc
nothing_is n ((x ∷ xs) ∷ texts) u h = absurd cc

ended_is : (n : ℕ) (texts : List (List ℕ)) (u : Unit {0}) → ended n texts ≡ Ok u → unlined texts ≡ codes "end\n"
ended_is n texts u h =
    let t = then_is (line end n texts) (λ last. nothing (n + 1) last.1) u h in
    let l = line_is end n texts t.0 t.1 in
    l.2 ∙ ap (λ (s : List ℕ). s ++ 10 ∷ unlined t.0.1) (end_from l.0 (pointwise nat_eq l.0 (codes "end")) t.0.0 (same_text l.0 (codes "end")) l.1)
    ∙ ap (λ (s : List ℕ). codes "end\n" ++ s) (nothing_is (n + 1) t.0.1 u t.2)

-- ---- the finding

abbrev Found : Type 0
Found = Finding × ℕ × List (List ℕ)

abbrev found_text : Found → List ℕ
found_text x = finding_lines x.0 ++ unlined x.2

abbrev walk_text : List ℕ → List ℕ
walk_text ns = codes "walk" ++ joined (λ n. token (decimal n)) ns

chosen_is : (n : ℕ) (texts : List (List ℕ)) (x : Found) → chosen n texts ≡ Ok x → (unlined texts ≡ found_text x) × (codes "chosen\n" ≡ finding_word x.0)
chosen_is n texts x h =
    let t = then_is (line walk n texts) (λ taken. and_then (lines (codes "refute") step (n + 1) taken.1) (λ steps. Ok (Chosen taken.0 steps.0, n + 1 + length steps.0, steps.1))) x h in
    let u = then_is (lines (codes "refute") step (n + 1) t.0.1) (λ steps. Ok (Chosen t.0.0 steps.0, n + 1 + length steps.0, steps.1)) x t.2 in
    let l = line_is walk n texts t.0 t.1 in
    let e : ◌≡◌ {A = Found} (Chosen t.0.0 u.0.0, n + 1 + length u.0.0, u.0.1) x = ok_is _ x u.2 in (
      l.2
          ∙ ap (λ (s : List ℕ). s ++ 10 ∷ unlined t.0.1) (walk_is l.0 t.0.0 l.1)
          ∙ ap (λ (s : List ℕ). walk_text t.0.0 ++ 10 ∷ s) (lines_is (codes "refute") step step_shown step_is (n + 1) t.0.1 u.0 u.1)
          ∙ sym (append_assoc (walk_text t.0.0) (10 ∷ []) (joined step_line u.0.0 ++ unlined u.0.1))
          ∙ sym (append_assoc (walk_text t.0.0 ++ 10 ∷ []) (joined step_line u.0.0) (unlined u.0.1))
          ∙ ap found_text e,
      ap (λ (y : Found). finding_word y.0) e,
    )

finding_is : (k : Kind) (n : ℕ) (texts : List (List ℕ)) (x : Found) → finding k n texts ≡ Ok x → (unlined texts ≡ found_text x) × (kind_word k ≡ finding_word x.0)
finding_is kinds.Undecided n texts x h =
    let e : ◌≡◌ {A = Found} (Undecided, n, texts) x = ok_is _ x h in
    (ap found_text e, ap (λ (y : Found). finding_word y.0) e)
finding_is kinds.Refused n texts x h =
    let t = then_is (line whole n texts) (λ found. Ok (Refused found.0, n + 1, found.1)) x h in
    let l = line_is whole n texts t.0 t.1 in
    let e : ◌≡◌ {A = Found} (Refused t.0.0, n + 1, t.0.1) x = ok_is _ x t.2 in (
      l.2
          ∙ ap (λ (s : List ℕ). s ++ 10 ∷ unlined t.0.1) (whole_is l.0 t.0.0 l.1)
          ∙ sym (append_assoc (whole_text t.0.0) (10 ∷ []) (unlined t.0.1))
          ∙ ap found_text e,
      ap (λ (y : Found). finding_word y.0) e,
    )
finding_is kinds.Chosen n texts x h = chosen_is n texts x h

-- ---- the whole

four : (d j f e : List ℕ) → d ++ 10 ∷ (j ++ (f ++ e)) ≡ d ++ (10 ∷ []) ++ j ++ f ++ e
four d j f e =
    sym (append_assoc d (10 ∷ []) (j ++ (f ++ e)))
    ∙ sym (append_assoc (d ++ 10 ∷ []) j (f ++ e))
    ∙ sym (append_assoc (d ++ (10 ∷ []) ++ j) f e)

pub whole_text_is : (k : Kind) (d j f e : List ℕ) → kind_line k ++ 10 ∷ ((codes "vars " ++ d) ++ 10 ∷ (j ++ (f ++ e))) ≡ codes "certificate 1 " ++ kind_word k ++ codes "vars" ++ token d ++ codes "\n" ++ j ++ f ++ e
whole_text_is kinds.Chosen d j f e = ap (λ (s : List ℕ). codes "certificate 1 chosen\nvars " ++ s) (four d j f e)
whole_text_is kinds.Refused d j f e = ap (λ (s : List ℕ). codes "certificate 1 refused\nvars " ++ s) (four d j f e)
whole_text_is kinds.Undecided d j f e = ap (λ (s : List ℕ). codes "certificate 1 undecided\nvars " ++ s) (four d j f e)

abbrev pub made_of : ℕ → List Lemma → Finding → Certificate
made_of v ls f = record { vars = v; log = record { lemmas = ls }; finding = f }

body_is : (k : Kind) (v : ℕ) (texts : List (List ℕ)) (c : Certificate) → body k v texts ≡ Ok c
    → (ls : List Lemma) × (f : Finding) × (made_of v ls f ≡ c) × (kind_word k ≡ finding_word f) × (unlined texts ≡ joined lemma_line ls ++ (finding_lines f ++ codes "end\n"))
body_is k v texts c h =
    let t = then_is (lines (codes "lemma") lemma 3 texts) (λ lemmas. and_then (finding k (3 + length lemmas.0) lemmas.1) (λ found. and_then (ended found.1 found.2) (λ _. Ok (made_of v lemmas.0 found.0)))) c h in
    let u = then_is (finding k (3 + length t.0.0) t.0.1) (λ found. and_then (ended found.1 found.2) (λ _. Ok (made_of v t.0.0 found.0))) c t.2 in
    let w = then_is (ended u.0.1 u.0.2) (λ _. Ok (made_of v t.0.0 u.0.0)) c u.2 in
    let f = finding_is k (3 + length t.0.0) t.0.1 u.0 u.1 in (
      t.0.0,
      u.0.0,
      ok_is (made_of v t.0.0 u.0.0) c w.2,
      f.1,
      lines_is (codes "lemma") lemma lemma_text lemma_is 3 texts t.0 t.1
          ∙ ap (λ (s : List ℕ). joined lemma_line t.0.0 ++ s) f.0
          ∙ ap (λ (s : List ℕ). joined lemma_line t.0.0 ++ (finding_lines u.0.0 ++ s)) (ended_is u.0.1 u.0.2 w.0 w.1),
    )

certificate_is : (texts : List (List ℕ)) (c : Certificate) → certificate texts ≡ Ok c → unlined texts ≡ certificate_text c
certificate_is texts c h =
    let t = then_is (line word 1 texts) (λ first. and_then (line vars 2 first.1) (λ count. body first.0 count.0 count.1)) c h in
    let u = then_is (line vars 2 t.0.1) (λ count. body t.0.0 count.0 count.1) c t.2 in
    let b = body_is t.0.0 u.0.0 u.0.1 c u.2 in
    let l = line_is word 1 texts t.0 t.1 in
    let m = line_is vars 2 t.0.1 u.0 u.1 in
    l.2
    ∙ ap (λ (s : List ℕ). s ++ 10 ∷ unlined t.0.1) (word_is l.0 t.0.0 l.1)
    ∙ ap (λ (s : List ℕ). kind_line t.0.0 ++ 10 ∷ s) (m.2 ∙ ap (λ (s : List ℕ). s ++ 10 ∷ unlined u.0.1) (vars_is m.0 u.0.0 m.1) ∙ ap (λ (s : List ℕ). (codes "vars " ++ decimal u.0.0) ++ 10 ∷ s) b.4)
    ∙ whole_text_is t.0.0 (decimal u.0.0) (joined lemma_line b.0) (finding_lines b.1) (codes "end\n")
    ∙ ap (λ (s : List ℕ). codes "certificate 1 " ++ s ++ codes "vars" ++ token (decimal u.0.0) ++ codes "\n" ++ joined lemma_line b.0 ++ finding_lines b.1 ++ codes "end\n") b.3
    ∙ ap certificate_text b.2

pub read_is_written : (text : List ℕ) (c : Certificate) → certificate_of text ≡ Ok c → text ≡ certificate_text c
read_is_written text c h = unlined_parts text ∙ certificate_is (parts 10 text) c h
