-- The one spelling of a certificate. Lines end with a line feed; tokens are divided by one space; numbers are decimal.
use Rattle.std.specs.Prelude.{ℕ, cond, List, [], ◌∷◌, ◌++◌, codes}
use Rattle.std.specs.Fmt.{decimal}
use Rattle.op_constraints.specs.declared.Lit.{Lit}
use Rattle.derivations.specs.declared.Hint.{Hint}
use Rattle.derivations.specs.declared.Hint.TheVariants.{Lemma as LemmaHint, Given}
use Rattle.derivations.specs.declared.Lemma.{Lemma}
use Rattle.derivations.specs.declared.Refutation.{Refutation}
use Rattle.derivations.specs.declared.Certificate.{Certificate}
use Rattle.derivations.specs.declared.Finding.{Finding}
use Rattle.derivations.specs.declared.Finding.TheVariants.{Chosen, Refused, Undecided}

-- the texts of the items, one after the other
abbrev pub joined : {A : Type 0} → (A → List ℕ) → List A → List ℕ
joined text [] = []
joined text (x ∷ xs) = text x ++ joined text xs

-- a token, with the space before it
abbrev pub token : List ℕ → List ℕ
token text = 32 ∷ text

-- `+v` or `-v`
abbrev pub lit_text : Lit → List ℕ
lit_text l = cond l.positive 43 45 ∷ decimal l.var

-- a member after the first, behind its comma
abbrev pub later_member : ℕ → List ℕ
later_member v = 44 ∷ decimal v

-- `(a,b)`; no text where no member is named
abbrev pub members_text : List ℕ → List ℕ
members_text [] = []
members_text (v ∷ vs) = (40 ∷ decimal v) ++ joined later_member vs ++ 41 ∷ []

-- `Lm`, or `Gv.c` with its members
abbrev pub hint_text : Hint → List ℕ
hint_text (LemmaHint number) = 76 ∷ decimal number
hint_text (Given v place members) = (71 ∷ decimal v) ++ (46 ∷ decimal place) ++ members_text members

-- literals and hints, with a colon between them
abbrev pub clause_text : List Lit → List Hint → List ℕ
clause_text lits hints = joined (λ l. token (lit_text l)) lits ++ codes " :" ++ joined (λ h. token (hint_text h)) hints

abbrev pub lemma_line : Lemma → List ℕ
lemma_line lemma = codes "lemma" ++ clause_text lemma.lits lemma.hints ++ codes "\n"

abbrev pub step_line : ℕ × ℕ × Refutation → List ℕ
step_line step = codes "refute" ++ token (decimal step.0) ++ token (decimal step.1) ++ clause_text step.2.lits step.2.hints ++ codes "\n"

abbrev pub finding_word : Finding → List ℕ
finding_word (Chosen numbers steps) = codes "chosen\n"
finding_word (Refused refutation) = codes "refused\n"
finding_word Undecided = codes "undecided\n"

abbrev pub finding_lines : Finding → List ℕ
finding_lines (Chosen numbers steps) = codes "walk" ++ joined (λ n. token (decimal n)) numbers ++ codes "\n" ++ joined step_line steps
finding_lines (Refused refutation) = codes "refute-all" ++ clause_text refutation.lits refutation.hints ++ codes "\n"
finding_lines Undecided = []

-- the whole text: the finding's word, the number of variables, the lemmas, the finding's lines, and the end
abbrev pub certificate_text : Certificate → List ℕ
certificate_text certificate =
    codes "certificate 1 " ++ finding_word certificate.finding
    ++ codes "vars" ++ token (decimal certificate.vars) ++ codes "\n"
    ++ joined lemma_line certificate.log.lemmas
    ++ finding_lines certificate.finding
    ++ codes "end\n"
