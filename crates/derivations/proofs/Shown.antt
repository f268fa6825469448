-- What is written of an item is read as it, and so is a line.
use Rattle.std.proofs.Common.{◌≡◌, ◌<◌, ◌==◌, ◌^◌, ℕ, List, [], ◌∷◌, ◌++◌, Result, Ok, Bool, true, false, cond, refl, sym, ap, ◌∙◌, append_assoc, append-nil}
use Rattle.std.specs.Prelude.{not, codes}
use Rattle.std.specs.Fmt.{decimal}
use Rattle.std.specs.Char.{is_ascii_digit}
use Rattle.std.specs.List.{AllByRecursion}
use Rattle.std.proofs.lemmas.Bool.{and_from}
use Rattle.op_constraints.specs.declared.Lit.{Lit}
use Rattle.derivations.specs.declared.Hint.{Hint}
use Rattle.derivations.specs.declared.Hint.TheVariants.{Lemma as LemmaHint, Given}
use Rattle.derivations.specs.declared.Lemma.{Lemma}
use Rattle.derivations.specs.declared.Refutation.{Refutation}
use Rattle.derivations.specs.Text.{joined, token, lit_text, later_member, members_text, hint_text, clause_text}
use Rattle.derivations.specs.Fits.{NumberFits, LitFits, HintFits, ClauseFits, LemmaFits, StepFits}
use Rattle.derivations.specs.Reading.{cut, number, lit, members, place, given, hint, spaced, lits, clause, refutation, lemma, candidate, step, whole, vars, walk}
use Rattle.derivations.specs.declared.reading.tokens.LineFault.{LineFault}
use Rattle.derivations.proofs.Apart.{lacks, lacks-append, joined_lacks, cut_back, cut_none, before_back, decimal_lacks, number_back, list_back}

-- a byte that stands in no item
pub record IsOutside (byte : ℕ) : Type 0 where
  pub digit : is_ascii_digit byte ≡ false
  pub plus : not (43 == byte) ≡ true
  pub minus : not (45 == byte) ≡ true
  pub lemma : not (76 == byte) ≡ true
  pub given : not (71 == byte) ≡ true
  pub dot : not (46 == byte) ≡ true
  pub comma : not (44 == byte) ≡ true
  pub before : not (40 == byte) ≡ true
  pub behind : not (41 == byte) ≡ true

pub space : IsOutside 32
space = record { digit = refl; plus = refl; minus = refl; lemma = refl; given = refl; dot = refl; comma = refl; before = refl; behind = refl }

pub colon : IsOutside 58
colon = record { digit = refl; plus = refl; minus = refl; lemma = refl; given = refl; dot = refl; comma = refl; before = refl; behind = refl }

pub line_feed : IsOutside 10
line_feed = record { digit = refl; plus = refl; minus = refl; lemma = refl; given = refl; dot = refl; comma = refl; before = refl; behind = refl }

-- a byte before others
more_lacks : (byte x : ℕ) (xs : List ℕ) → not (x == byte) ≡ true → lacks byte xs ≡ true → lacks byte (x ∷ xs) ≡ true
more_lacks byte x xs p q = and_from (not (x == byte)) (lacks byte xs) p q

-- ---- literals

signed_back : (positive : Bool) (v : ℕ) → v < 2 ^ 32 → lit (cond positive 43 45 ∷ decimal v) ≡ Ok (record { var = v; positive = positive })
signed_back true v h = rw (number_back v h) refl
signed_back false v h = rw (number_back v h) refl

pub lit_back : (l : Lit) → LitFits l → lit (lit_text l) ≡ Ok l
lit_back l h = signed_back l.positive l.var h

signed_lacks : (byte : ℕ) (positive : Bool) (v : ℕ) → IsOutside byte → v < 2 ^ 32 → lacks byte (cond positive 43 45 ∷ decimal v) ≡ true
signed_lacks byte true v o h = more_lacks byte 43 (decimal v) o.plus (decimal_lacks byte v o.digit h)
signed_lacks byte false v o h = more_lacks byte 45 (decimal v) o.minus (decimal_lacks byte v o.digit h)

pub lit_lacks : (byte : ℕ) → IsOutside byte → (l : Lit) → LitFits l → lacks byte (lit_text l) ≡ true
lit_lacks byte o l h = signed_lacks byte l.positive l.var o h

-- ---- hints

later_lacks : (byte : ℕ) → is_ascii_digit byte ≡ false → not (44 == byte) ≡ true → (vs : List ℕ) → AllByRecursion NumberFits vs → lacks byte (joined later_member vs) ≡ true
later_lacks byte digit comma vs fs = joined_lacks byte later_member NumberFits (λ v f. more_lacks byte 44 (decimal v) comma (decimal_lacks byte v digit f)) vs fs

members_lack : (byte : ℕ) → IsOutside byte → (vs : List ℕ) → AllByRecursion NumberFits vs → lacks byte (members_text vs) ≡ true
members_lack byte o [] fs = refl
members_lack byte o (v ∷ vs) fs =
    lacks-append byte ((40 ∷ decimal v) ++ joined later_member vs) (41 ∷ [])
    (lacks-append byte (40 ∷ decimal v) (joined later_member vs) (more_lacks byte 40 (decimal v) o.before (decimal_lacks byte v o.digit fs.0)) (later_lacks byte o.digit o.comma vs fs.1))
    (more_lacks byte 41 [] o.behind refl)

pub hint_lacks : (byte : ℕ) → IsOutside byte → (x : Hint) → HintFits x → lacks byte (hint_text x) ≡ true
hint_lacks byte o (LemmaHint number) h = more_lacks byte 76 (decimal number) o.lemma (decimal_lacks byte number o.digit h)
hint_lacks byte o (Given v c vs) h =
    lacks-append byte ((71 ∷ decimal v) ++ (46 ∷ decimal c)) (members_text vs)
    (lacks-append byte (71 ∷ decimal v) (46 ∷ decimal c) (more_lacks byte 71 (decimal v) o.given (decimal_lacks byte v o.digit h.0)) (more_lacks byte 46 (decimal c) o.dot (decimal_lacks byte c o.digit h.1)))
    (members_lack byte o vs h.2)

members_back : (v : ℕ) (vs : List ℕ) → NumberFits v → AllByRecursion NumberFits vs → members ((decimal v ++ joined later_member vs) ++ 41 ∷ []) ≡ Ok (v ∷ vs)
members_back v vs f fs =
    rw (before_back 41 (decimal v ++ joined later_member vs)) (list_back 44 number decimal NumberFits number_back (λ w g. decimal_lacks 44 w refl g) v vs f fs)

place_back : (c : ℕ) (vs : List ℕ) → NumberFits c → AllByRecursion NumberFits vs → place (decimal c ++ members_text vs) (cut 40 (decimal c ++ members_text vs)) ≡ Ok (c, vs)
place_back c [] f fs = rw (append-nil (decimal c), cut_none 40 (decimal c) (decimal_lacks 40 c refl f), number_back c f) refl
place_back c (v ∷ vs) f fs =
    rw (cut_back 40 (decimal c) ((decimal v ++ joined later_member vs) ++ 41 ∷ []) (decimal_lacks 40 c refl f), number_back c f, members_back v vs fs.0 fs.1) refl

given_back : (v c : ℕ) (vs : List ℕ) → NumberFits v → NumberFits c → AllByRecursion NumberFits vs → given (decimal v, decimal c ++ members_text vs) ≡ Ok (Given v c vs)
given_back v c vs f g fs = rw (number_back v f, place_back c vs g fs) refl

pub hint_back : (x : Hint) → HintFits x → hint (hint_text x) ≡ Ok x
hint_back (LemmaHint number) h = rw (number_back number h) refl
hint_back (Given v c vs) h =
    rw (append_assoc (decimal v) (46 ∷ decimal c) (members_text vs), cut_back 46 (decimal v) (decimal c ++ members_text vs) (decimal_lacks 46 v refl h.0)) (given_back v c vs h.0 h.1 h.2)

-- ---- items with a space before each

pub spaced_back : {A : Type 0} (read : List ℕ → Result A LineFault) (show : A → List ℕ) (Fits : A → Type 0) → ((x : A) → Fits x → read (show x) ≡ Ok x) → ((x : A) → Fits x → lacks 32 (show x) ≡ true) → (xs : List A) → AllByRecursion Fits xs → spaced read (joined (λ y. token (show y)) xs) ≡ Ok xs
spaced_back read show Fits back apart [] fs = refl
spaced_back read show Fits back apart (x ∷ xs) fs = list_back 32 read show Fits back apart x xs fs.0 fs.1

pub spaced_lacks : {A : Type 0} (byte : ℕ) (show : A → List ℕ) (Fits : A → Type 0) → not (32 == byte) ≡ true → ((x : A) → Fits x → lacks byte (show x) ≡ true) → (xs : List A) → AllByRecursion Fits xs → lacks byte (joined (λ y. token (show y)) xs) ≡ true
spaced_lacks byte show Fits other apart xs fs = joined_lacks byte (λ y. token (show y)) Fits (λ x f. more_lacks byte 32 (show x) other (apart x f)) xs fs

-- ---- clauses

abbrev hints_shown : List Hint → List ℕ
hints_shown hs = joined (λ h. token (hint_text h)) hs

abbrev lits_shown : List Lit → List ℕ
lits_shown ls = joined (λ l. token (lit_text l)) ls

-- literals that have each a space behind it
abbrev lits_front : List Lit → List ℕ
lits_front [] = []
lits_front (l ∷ ls) = (lit_text l ++ lits_shown ls) ++ 32 ∷ []

-- the text of a clause without its first byte, which is a space
abbrev pub clause_rest : List Lit → List Hint → List ℕ
clause_rest ls hs = lits_front ls ++ 58 ∷ hints_shown hs

front_is : (ls : List Lit) → 32 ∷ lits_front ls ≡ lits_shown ls ++ 32 ∷ []
front_is [] = refl
front_is (l ∷ ls) = refl

pub rest_is : (ls : List Lit) (hs : List Hint) → clause_text ls hs ≡ 32 ∷ clause_rest ls hs
rest_is ls hs =
    append_assoc (lits_shown ls) (32 ∷ 58 ∷ []) (hints_shown hs)
    ∙ sym (append_assoc (lits_shown ls) (32 ∷ []) (58 ∷ hints_shown hs))
    ∙ sym (ap (λ (t : List ℕ). t ++ 58 ∷ hints_shown hs) (front_is ls))

front_lacks : (ls : List Lit) → AllByRecursion LitFits ls → lacks 58 (lits_front ls) ≡ true
front_lacks [] fs = refl
front_lacks (l ∷ ls) fs =
    lacks-append 58 (lit_text l ++ lits_shown ls) (32 ∷ [])
    (lacks-append 58 (lit_text l) (lits_shown ls) (lit_lacks 58 colon l fs.0) (spaced_lacks 58 lit_text LitFits refl (lit_lacks 58 colon) ls fs.1))
    refl

lits_back : (ls : List Lit) → AllByRecursion LitFits ls → lits (lits_front ls) ≡ Ok ls
lits_back [] fs = refl
lits_back (l ∷ ls) fs =
    rw (before_back 32 (lit_text l ++ lits_shown ls)) (list_back 32 lit lit_text LitFits lit_back (lit_lacks 32 space) l ls fs.0 fs.1)

hints_back : (hs : List Hint) → AllByRecursion HintFits hs → spaced hint (hints_shown hs) ≡ Ok hs
hints_back hs fs = spaced_back hint hint_text HintFits hint_back (hint_lacks 32 space) hs fs

pub clause_back : (ls : List Lit) (hs : List Hint) → ClauseFits ls hs → clause (clause_rest ls hs) ≡ Ok (ls, hs)
clause_back ls hs f = rw (cut_back 58 (lits_front ls) (hints_shown hs) (front_lacks ls f.0), lits_back ls f.0, hints_back hs f.1) refl

pub clause_lacks : (byte : ℕ) → IsOutside byte → not (32 == byte) ≡ true → not (58 == byte) ≡ true → (ls : List Lit) (hs : List Hint) → ClauseFits ls hs → lacks byte (clause_text ls hs) ≡ true
clause_lacks byte o other second ls hs f =
    lacks-append byte (lits_shown ls ++ codes " :") (hints_shown hs)
    (lacks-append byte (lits_shown ls) (codes " :") (spaced_lacks byte lit_text LitFits other (lit_lacks byte o) ls f.0) (more_lacks byte 32 (58 ∷ []) other (more_lacks byte 58 [] second refl)))
    (spaced_lacks byte hint_text HintFits other (hint_lacks byte o) hs f.1)

-- ---- lines, without their line feed

refutation_back : (r : Refutation) → ClauseFits r.lits r.hints → refutation (clause_rest r.lits r.hints) ≡ Ok r
refutation_back r f = rw (clause_back r.lits r.hints f) refl

abbrev pub lemma_shown : Lemma → List ℕ
lemma_shown x = codes "lemma" ++ clause_text x.lits x.hints

pub lemma_back : (x : Lemma) → LemmaFits x → lemma (lemma_shown x) ≡ Ok x
lemma_back x f = rw (rest_is x.lits x.hints, clause_back x.lits x.hints f) refl

abbrev pub whole_shown : Refutation → List ℕ
whole_shown x = codes "refute-all" ++ clause_text x.lits x.hints

pub whole_back : (x : Refutation) → ClauseFits x.lits x.hints → whole (whole_shown x) ≡ Ok x
whole_back x f = rw (rest_is x.lits x.hints, refutation_back x f) refl

pub vars_back : (n : ℕ) → NumberFits n → vars (codes "vars " ++ decimal n) ≡ Ok n
vars_back n f = rw (number_back n f) refl

abbrev pub walk_shown : List ℕ → List ℕ
walk_shown ns = codes "walk" ++ joined (λ n. token (decimal n)) ns

pub walk_back : (ns : List ℕ) → AllByRecursion NumberFits ns → walk (walk_shown ns) ≡ Ok ns
walk_back ns fs = spaced_back number decimal NumberFits number_back (λ n f. decimal_lacks 32 n refl f) ns fs

abbrev Step : Type 0
Step = ℕ × ℕ × Refutation

abbrev pub step_shown : Step → List ℕ
step_shown x = codes "refute" ++ token (decimal x.0) ++ token (decimal x.1) ++ clause_text x.2.lits x.2.hints

abbrev candidate_shown : Step → List ℕ
candidate_shown x = decimal x.1 ++ 32 ∷ clause_rest x.2.lits x.2.hints

shown_is : (x : Step) → step_shown x ≡ codes "refute " ++ (decimal x.0 ++ 32 ∷ candidate_shown x)
shown_is x =
    ap (λ (c : List ℕ). codes "refute" ++ token (decimal x.0) ++ token (decimal x.1) ++ c) (rest_is x.2.lits x.2.hints)
    ∙ ap (λ (c : List ℕ). codes "refute " ++ c) (append_assoc (decimal x.0) (32 ∷ decimal x.1) (32 ∷ clause_rest x.2.lits x.2.hints))

candidate_back : (x : Step) → StepFits x → candidate (candidate_shown x) ≡ Ok (x.1, x.2)
candidate_back x f = rw (cut_back 32 (decimal x.1) (clause_rest x.2.lits x.2.hints) (decimal_lacks 32 x.1 refl f.1), number_back x.1 f.1, refutation_back x.2 f.2) refl

pub step_back : (x : Step) → StepFits x → step (step_shown x) ≡ Ok x
step_back x f =
    rw (shown_is x, cut_back 32 (decimal x.0) (candidate_shown x) (decimal_lacks 32 x.0 refl f.0), number_back x.0 f.0, candidate_back x f) refl
