-- The text that is written of a certificate is read as it, line by line.
use Rattle.std.proofs.Common.{◌≡◌, ◌+◌, ℕ, List, [], ◌∷◌, ◌++◌, Result, Ok, true, false, Some, length, refl, sym, ap, subst, ◌∙◌, append_assoc}
use Rattle.std.specs.Prelude.{codes, is_some}
use Rattle.std.specs.Fmt.{decimal}
use Rattle.std.specs.List.{AllByRecursion}
use Rattle.derivations.specs.declared.Lemma.{Lemma}
use Rattle.derivations.specs.declared.Refutation.{Refutation}
use Rattle.derivations.specs.declared.Certificate.{Certificate}
use Rattle.derivations.specs.declared.Finding.{Finding}
use Rattle.derivations.specs.declared.Finding.TheVariants.{Chosen, Refused, Undecided}
use Rattle.derivations.specs.declared.reading.cert_text.CertText.{CertText}
use Rattle.derivations.specs.declared.reading.tokens.LineFault.{LineFault}
use Rattle.derivations.specs.declared.reading.lines.Kind.{Kind}
use Rattle.derivations.specs.declared.reading.lines.Kind.TheVariants as kinds
use Rattle.derivations.specs.Text.{joined, token, clause_text, lemma_line, step_line, finding_word, finding_lines, certificate_text}
use Rattle.derivations.specs.Fits.{NumberFits, LemmaFits, StepFits, ClauseFits, FindingFits, CertificateFits}
use Rattle.derivations.specs.Reading.{behind, parts, lemma, step, whole, vars, walk, word, and_then, line, item, lines, chosen, finding, body, certificate_of}
use Rattle.derivations.proofs.Parts.{line_there}
use Rattle.derivations.proofs.Rows.{one_line}
use Rattle.derivations.proofs.Again.{kind_line, kind_word, whole_text_is}
use Rattle.derivations.proofs.Apart.{lacks, lacks-append, decimal_lacks, parts_first}
use Rattle.derivations.proofs.Shown.{line_feed, spaced_lacks, clause_lacks, lemma_shown, lemma_back, whole_shown, whole_back, vars_back, walk_shown, walk_back, step_shown, step_back}

-- what a line is read as, and the text's parts behind it
abbrev Line : Type 0 → Type 0
Line A = Result (A × List (List ℕ)) CertText

-- ---- one line

pub line_back : {A : Type 0} (read : List ℕ → Result A LineFault) (n : ℕ) (text rest : List ℕ) (x : A) → lacks 10 text ≡ true → read text ≡ Ok x → line read n (parts 10 (text ++ 10 ∷ rest)) ≡ Ok (x, parts 10 rest)
line_back read n text rest x apart back =
    rw (line_there text rest (text ++ 10 ∷ rest) (parts_first 10 text rest apart), back) refl

clause_line_lacks : (word : List ℕ) (x : Refutation) → lacks 10 word ≡ true → ClauseFits x.lits x.hints → lacks 10 (word ++ clause_text x.lits x.hints) ≡ true
clause_line_lacks word x h f = lacks-append 10 word (clause_text x.lits x.hints) h (clause_lacks 10 line_feed refl refl x.lits x.hints f)

lemma_lacks : (x : Lemma) → LemmaFits x → lacks 10 (lemma_shown x) ≡ true
lemma_lacks x f = clause_line_lacks (codes "lemma") (record { lits = x.lits; hints = x.hints }) refl f

step_lacks : (x : ℕ × ℕ × Refutation) → StepFits x → lacks 10 (step_shown x) ≡ true
step_lacks x f =
    clause_line_lacks (codes "refute" ++ token (decimal x.0) ++ token (decimal x.1)) x.2
    (lacks-append 10 (codes "refute" ++ token (decimal x.0)) (token (decimal x.1)) (decimal_lacks 10 x.0 refl f.0) (decimal_lacks 10 x.1 refl f.1))
    f.2

walk_lacks : (ns : List ℕ) → AllByRecursion NumberFits ns → lacks 10 (walk_shown ns) ≡ true
walk_lacks ns fs = spaced_lacks 10 decimal NumberFits refl (λ n f. decimal_lacks 10 n refl f) ns fs

-- ---- lines that begin alike

module _ {A : Type 0} (words : List ℕ) (read : List ℕ → Result A LineFault) (show : A → List ℕ) (Fits : A → Type 0) (back : (x : A) → Fits x → read (show x) ≡ Ok x) (apart : (x : A) → Fits x → lacks 10 (show x) ≡ true) (begins : (x : A) → is_some (behind words (show x)) ≡ true) where
  item_back : (n : ℕ) (x : A) → Fits x → item words read n (show x) ≡ Ok (Some x)
  item_back n x f = rw (begins x, back x f) refl

  pub rows_back : (n : ℕ) (xs : List A) (rest : List ℕ) → AllByRecursion Fits xs → ((m : ℕ) → lines words read m (parts 10 rest) ≡ Ok ([], parts 10 rest)) → lines words read n (parts 10 (joined (λ y. show y ++ 10 ∷ []) xs ++ rest)) ≡ Ok (xs, parts 10 rest)
  rows_back n [] rest fs stop = stop n
  rows_back n (x ∷ xs) rest fs stop =
      let after = joined (λ y. show y ++ 10 ∷ []) xs ++ rest in
      let same : joined (λ y. show y ++ 10 ∷ []) (x ∷ xs) ++ rest ≡ show x ++ 10 ∷ after =
      append_assoc (show x ++ 10 ∷ []) (joined (λ y. show y ++ 10 ∷ []) xs) rest ∙ append_assoc (show x) (10 ∷ []) after in
      let front = line_there (show x) after (show x ++ 10 ∷ after) (parts_first 10 (show x) after (apart x fs.0)) in
      ap (λ (t : List ℕ). lines words read n (parts 10 t)) same
      ∙ one_line words read n (parts 10 (show x ++ 10 ∷ after)) (show x) (parts 10 after) (sym front)
      ∙ rw (item_back n x fs.0, rows_back (n + 1) xs rest fs.1 stop) refl

-- a line that doesn't begin so
none_there : {A : Type 0} (words : List ℕ) (read : List ℕ → Result A LineFault) (m : ℕ) (text rest : List ℕ) → lacks 10 text ≡ true → is_some (behind words text) ≡ false → lines words read m (parts 10 (text ++ 10 ∷ rest)) ≡ Ok ([], parts 10 (text ++ 10 ∷ rest))
none_there words read m text rest apart other =
    let front = line_there text rest (text ++ 10 ∷ rest) (parts_first 10 text rest apart) in
    one_line words read m (parts 10 (text ++ 10 ∷ rest)) text (parts 10 rest) (sym front) ∙ rw other refl

-- ---- the finding

-- what the first line says of a finding
abbrev kind_of : Finding → Kind
kind_of (Chosen ns steps) = kinds.Chosen
kind_of (Refused refutation) = kinds.Refused
kind_of Undecided = kinds.Undecided

-- the number of a finding's lines
abbrev count_of : Finding → ℕ → ℕ
count_of (Chosen ns steps) n = n + 1 + length steps
count_of (Refused refutation) n = n + 1
count_of Undecided n = n

no_lemma : (f : Finding) → FindingFits f → (m : ℕ) → lines (codes "lemma") lemma m (parts 10 (finding_lines f ++ codes "end\n")) ≡ Ok ([], parts 10 (finding_lines f ++ codes "end\n"))
no_lemma (Chosen ns steps) f m =
    let same : (walk_shown ns ++ 10 ∷ [] ++ joined step_line steps) ++ codes "end\n" ≡ walk_shown ns ++ 10 ∷ (joined step_line steps ++ codes "end\n") =
    append_assoc (walk_shown ns ++ 10 ∷ []) (joined step_line steps) (codes "end\n") ∙ append_assoc (walk_shown ns) (10 ∷ []) (joined step_line steps ++ codes "end\n") in
    subst (λ (t : List ℕ). lines (codes "lemma") lemma m (parts 10 t) ≡ Ok ([], parts 10 t)) (sym same) (none_there (codes "lemma") lemma m (walk_shown ns) (joined step_line steps ++ codes "end\n") (walk_lacks ns f.0) refl)
no_lemma (Refused r) f m =
    subst (λ (t : List ℕ). lines (codes "lemma") lemma m (parts 10 t) ≡ Ok ([], parts 10 t)) (sym (append_assoc (whole_shown r) (10 ∷ []) (codes "end\n"))) (none_there (codes "lemma") lemma m (whole_shown r) (codes "end\n") (clause_line_lacks (codes "refute-all") r refl f) refl)
no_lemma Undecided f m = refl

chosen_back : (n : ℕ) (ns : List ℕ) (steps : List (ℕ × ℕ × Refutation)) → FindingFits (Chosen ns steps) → chosen n (parts 10 (walk_shown ns ++ 10 ∷ (joined step_line steps ++ codes "end\n"))) ≡ Ok (Chosen ns steps, n + 1 + length steps, parts 10 (codes "end\n"))
chosen_back n ns steps f =
    rw (
      line_back walk n (walk_shown ns) (joined step_line steps ++ codes "end\n") ns (walk_lacks ns f.0) (walk_back ns f.0),
      rows_back (codes "refute") step step_shown StepFits step_back step_lacks (λ x. refl) (n + 1) steps (codes "end\n") f.1 (λ m. refl),
    ) refl

finding_back : (f : Finding) (n : ℕ) → FindingFits f → finding (kind_of f) n (parts 10 (finding_lines f ++ codes "end\n")) ≡ Ok (f, count_of f n, parts 10 (codes "end\n"))
finding_back (Chosen ns steps) n f =
    ap (λ (t : List ℕ). chosen n (parts 10 t)) (append_assoc (walk_shown ns ++ 10 ∷ []) (joined step_line steps) (codes "end\n") ∙ append_assoc (walk_shown ns) (10 ∷ []) (joined step_line steps ++ codes "end\n"))
    ∙ chosen_back n ns steps f
finding_back (Refused r) n f =
    ap (λ (t : List ℕ). finding kinds.Refused n (parts 10 t)) (append_assoc (whole_shown r) (10 ∷ []) (codes "end\n"))
    ∙ ap (λ (l : Line Refutation). and_then l (λ found. Ok (Refused found.0, n + 1, found.1))) (line_back whole n (whole_shown r) (codes "end\n") r (clause_line_lacks (codes "refute-all") r refl f) (whole_back r f))
finding_back Undecided n f = refl

-- ---- the whole

word_back : (f : Finding) → word (kind_line (kind_of f)) ≡ Ok (kind_of f)
word_back (Chosen ns steps) = refl
word_back (Refused r) = refl
word_back Undecided = refl

word_lacks : (f : Finding) → lacks 10 (kind_line (kind_of f)) ≡ true
word_lacks (Chosen ns steps) = refl
word_lacks (Refused r) = refl
word_lacks Undecided = refl

word_is : (f : Finding) → kind_word (kind_of f) ≡ finding_word f
word_is (Chosen ns steps) = refl
word_is (Refused r) = refl
word_is Undecided = refl

-- the text behind the first two lines
abbrev rest_of : Certificate → List ℕ
rest_of c = joined lemma_line c.log.lemmas ++ (finding_lines c.finding ++ codes "end\n")

body_back : (c : Certificate) → CertificateFits c → body (kind_of c.finding) c.vars (parts 10 (rest_of c)) ≡ Ok c
body_back c f =
    rw (
      rows_back (codes "lemma") lemma lemma_shown LemmaFits lemma_back lemma_lacks (λ x. refl) 3 c.log.lemmas (finding_lines c.finding ++ codes "end\n") f.1 (no_lemma c.finding f.2),
      finding_back c.finding (3 + length c.log.lemmas) f.2,
    ) refl

text_is : (c : Certificate) → certificate_text c ≡ kind_line (kind_of c.finding) ++ 10 ∷ ((codes "vars " ++ decimal c.vars) ++ 10 ∷ rest_of c)
text_is c =
    sym (
    whole_text_is (kind_of c.finding) (decimal c.vars) (joined lemma_line c.log.lemmas) (finding_lines c.finding) (codes "end\n")
    ∙ ap (λ (w : List ℕ). codes "certificate 1 " ++ w ++ codes "vars" ++ token (decimal c.vars) ++ codes "\n" ++ joined lemma_line c.log.lemmas ++ finding_lines c.finding ++ codes "end\n") (word_is c.finding)
    )

pub written_is_read : (c : Certificate) → CertificateFits c → certificate_of (certificate_text c) ≡ Ok c
written_is_read c f =
    let kind = kind_of c.finding in
    let vars_shown = codes "vars " ++ decimal c.vars in
    ap certificate_of (text_is c)
    ∙ ap (λ (l : Line Kind). and_then l (λ first. and_then (line vars 2 first.1) (λ count. body first.0 count.0 count.1))) (line_back word 1 (kind_line kind) (vars_shown ++ 10 ∷ rest_of c) kind (word_lacks c.finding) (word_back c.finding))
    ∙ ap (λ (l : Line ℕ). and_then l (λ count. body kind count.0 count.1)) (line_back vars 2 vars_shown (rest_of c) c.vars (decimal_lacks 10 c.vars refl f.0) (vars_back c.vars f.0))
    ∙ body_back c f
