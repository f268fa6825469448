-- The reading of a certificate's text. A line has a right form, in which each number is digits; where the form is right, the numbers may still be written wrong. The first line that is wrong is the fault.
use Rattle.std.specs.Prelude.{ℕ, ◌+◌, ◌-◌, ◌*◌, ◌^◌, ◌==◌, ◌&&◌, ◌||◌, Bool, true, false, not, nat_eq, nat_lt, if◌then◌else◌, List, [], ◌∷◌, fold, codes, length, take, drop, Option, Some, None, Result, Ok, Err}
use Rattle.std.specs.Char.{is_ascii_digit}
use Rattle.std.specs.Cmp.Lexicographic.{pointwise}
use Rattle.std.specs.List.{list_all, position, slice_split}
use Rattle.std.specs.Option.{option_map, is_some}
use Rattle.op_constraints.specs.declared.Lit.{Lit}
use Rattle.derivations.specs.declared.Hint.{Hint}
use Rattle.derivations.specs.declared.Hint.TheVariants.{Lemma as LemmaHint, Given}
use Rattle.derivations.specs.declared.Lemma.{Lemma}
use Rattle.derivations.specs.declared.Refutation.{Refutation}
use Rattle.derivations.specs.declared.Certificate.{Certificate}
use Rattle.derivations.specs.declared.Finding.{Finding}
use Rattle.derivations.specs.declared.Finding.TheVariants.{Chosen, Refused, Undecided}
use Rattle.derivations.specs.declared.reading.cert_text.CertText.{CertText}
use Rattle.derivations.specs.declared.reading.cert_text.CertText.TheVariants as text_faults
use Rattle.derivations.specs.declared.reading.tokens.LineFault.{LineFault}
use Rattle.derivations.specs.declared.reading.tokens.LineFault.TheVariants.{Form, Number, Memory}
use Rattle.derivations.specs.declared.reading.lines.Kind.{Kind}
use Rattle.derivations.specs.declared.reading.lines.Kind.TheVariants as kinds

-- want of memory alone is free
abbrev pub is_free : CertText → Bool
is_free (text_faults.BadLine line) = false
is_free (text_faults.BadNumber line) = false
is_free text_faults.CutShort = false
is_free text_faults.Memory = true

abbrev pub is_free_in_line : LineFault → Bool
is_free_in_line Form = false
is_free_in_line Number = false
is_free_in_line Memory = true

-- Two parts of a line. A wrong form in either comes before a wrong number in either.
abbrev pub both : {A B C : Type 0} → (A → B → C) → Result A LineFault → Result B LineFault → Result C LineFault
both f (Ok x) (Ok y) = Ok (f x y)
both f (Ok x) (Err fault) = Err fault
both f (Err Form) second = Err Form
both f (Err Memory) second = Err Memory
both f (Err Number) (Ok y) = Err Number
both f (Err Number) (Err fault) = Err fault

-- what is made of a part
abbrev pub made : {A B : Type 0} → (A → B) → Result A LineFault → Result B LineFault
made f (Ok x) = Ok (f x)
made f (Err fault) = Err fault

-- the text's parts between the bytes
abbrev pub parts : ℕ → List ℕ → List (List ℕ)
parts byte text = slice_split (λ b. b == byte) text

-- what stands before the first such byte, and what stands behind it
abbrev pub cut : ℕ → List ℕ → Option (List ℕ × List ℕ)
cut byte text = option_map (λ at. (take at text, drop (at + 1) text)) (position (λ b. b == byte) text)

-- what stands behind these words, where the text begins with them
abbrev pub behind : List ℕ → List ℕ → Option (List ℕ)
behind words text = if pointwise nat_eq (take (length words) text) words then Some (drop (length words) text) else None

-- what stands before this byte, where the text ends with it
abbrev pub before : ℕ → List ℕ → Option (List ℕ)
before byte text = if pointwise nat_eq (drop (length text - 1) text) (byte ∷ []) then Some (take (length text - 1) text) else None

-- the reading of what is there; where nothing is, the form is wrong
abbrev pub where_there : {A B : Type 0} → Option A → (A → Result B LineFault) → Result B LineFault
where_there None read = Err Form
where_there (Some x) read = read x

-- each part, in order
abbrev pub each : {A : Type 0} → (List ℕ → Result A LineFault) → List (List ℕ) → Result (List A) LineFault
each read [] = Ok []
each read (text ∷ texts) = both (λ x xs. x ∷ xs) (read text) (each read texts)

-- what digits stand for
abbrev pub value_after : ℕ → ℕ → ℕ
value_after value digit = value * 10 + (digit - 48)

abbrev pub value_of : List ℕ → ℕ
value_of digits = fold value_after 0 digits

-- no digit stands behind a zero that begins the number
abbrev pub is_plain : List ℕ → Bool
is_plain [] = true
is_plain (digit ∷ digits) = not (digit == 48) || length digits == 0

-- A number is digits, one or more. It is written wrong with a zero before other digits, and where 32 bits don't hold it.
abbrev pub number : List ℕ → Result ℕ LineFault
number digits =
    if length digits == 0 || not (list_all is_ascii_digit digits) then Err Form
    else if is_plain digits && nat_lt (value_of digits) (2 ^ 32) then Ok (value_of digits)
    else Err Number

-- `+v` or `-v`
abbrev pub lit : List ℕ → Result Lit LineFault
lit [] = Err Form
lit (sign ∷ digits) =
    if sign == 43 then made (λ v. record { var = v; positive = true }) (number digits)
    else if sign == 45 then made (λ v. record { var = v; positive = false }) (number digits)
    else Err Form

-- `a,b)`: one member or more, and the bracket
abbrev pub members : List ℕ → Result (List ℕ) LineFault
members text = where_there (before 41 text) (λ inner. each number (parts 44 inner))

-- `c`, or `c(a,b)` with its members
abbrev pub place : List ℕ → Option (List ℕ × List ℕ) → Result (ℕ × List ℕ) LineFault
place text None = made (λ c. (c, [])) (number text)
place text (Some around) = both (λ c members. (c, members)) (number around.0) (members around.1)

-- `Lm`, or `Gv.c` with its members
abbrev pub given : List ℕ × List ℕ → Result Hint LineFault
given around = made (λ (x : ℕ × (ℕ × List ℕ)). Given x.0 x.1.0 x.1.1) (both (λ v rest. (v, rest)) (number around.0) (place around.1 (cut 40 around.1)))

abbrev pub hint : List ℕ → Result Hint LineFault
hint [] = Err Form
hint (kind ∷ text) =
    if kind == 76 then made LemmaHint (number text)
    else if kind == 71 then where_there (cut 46 text) given
    else Err Form

-- items that have each a space before it
abbrev pub spaced : {A : Type 0} → (List ℕ → Result A LineFault) → List ℕ → Result (List A) LineFault
spaced read [] = Ok []
spaced read (space ∷ text) = if space == 32 then each read (parts 32 text) else Err Form

-- literals that have each a space behind it
abbrev pub lits : List ℕ → Result (List Lit) LineFault
lits [] = Ok []
lits (byte ∷ bytes) = where_there (before 32 (byte ∷ bytes)) (λ text. each lit (parts 32 text))

-- literals and hints, with a colon between them
abbrev pub clause : List ℕ → Result (List Lit × List Hint) LineFault
clause text = where_there (cut 58 text) (λ around. both (λ ls hs. (ls, hs)) (lits around.0) (spaced hint around.1))

abbrev pub refutation : List ℕ → Result Refutation LineFault
refutation text = made (λ c. record { lits = c.0; hints = c.1 }) (clause text)

-- `lemma LITS : HINTS`
abbrev pub lemma : List ℕ → Result Lemma LineFault
lemma line = where_there (behind (codes "lemma ") line) (λ text. made (λ c. record { lits = c.lits; hints = c.hints }) (refutation text))

-- the second number of a step, and its clause
abbrev pub candidate : List ℕ → Result (ℕ × Refutation) LineFault
candidate text = where_there (cut 32 text) (λ around. both (λ j r. (j, r)) (number around.0) (refutation around.1))

-- `I J LITS : HINTS`
abbrev pub step_text : List ℕ → Result (ℕ × ℕ × Refutation) LineFault
step_text text = where_there (cut 32 text) (λ around. made (λ (x : ℕ × (ℕ × Refutation)). (x.0, x.1.0, x.1.1)) (both (λ i rest. (i, rest)) (number around.0) (candidate around.1)))

-- `refute I J LITS : HINTS`
abbrev pub step : List ℕ → Result (ℕ × ℕ × Refutation) LineFault
step line = where_there (behind (codes "refute ") line) step_text

-- `refute-all LITS : HINTS`
abbrev pub whole : List ℕ → Result Refutation LineFault
whole line = where_there (behind (codes "refute-all ") line) refutation

-- `vars N`
abbrev pub vars : List ℕ → Result ℕ LineFault
vars line = where_there (behind (codes "vars ") line) number

-- `walk NUMBERS`
abbrev pub walk : List ℕ → Result (List ℕ) LineFault
walk line = where_there (behind (codes "walk") line) (spaced number)

-- the first line
abbrev pub word : List ℕ → Result Kind LineFault
word line =
    if pointwise nat_eq line (codes "certificate 1 chosen") then Ok kinds.Chosen
    else if pointwise nat_eq line (codes "certificate 1 refused") then Ok kinds.Refused
    else if pointwise nat_eq line (codes "certificate 1 undecided") then Ok kinds.Undecided
    else Err Form

-- the last line
abbrev pub end : List ℕ → Result (Unit {0}) LineFault
end line = if pointwise nat_eq line (codes "end") then Ok tt else Err Form

-- ---- lines, of which the text's last part is none: no line feed ends it

-- the answer for the line with this number
abbrev pub at : {A : Type 0} → ℕ → Result A LineFault → Result A CertText
at line (Ok x) = Ok x
at line (Err Form) = Err (text_faults.BadLine line)
at line (Err Number) = Err (text_faults.BadNumber line)
at line (Err Memory) = Err text_faults.Memory

abbrev pub and_then : {A B : Type 0} → Result A CertText → (A → Result B CertText) → Result B CertText
and_then (Ok x) next = next x
and_then (Err fault) next = Err fault

-- the next line, and the text's parts behind it
abbrev pub line_at : List (List ℕ) → Result (List ℕ × List (List ℕ)) CertText
line_at [] = Err text_faults.CutShort
line_at (last ∷ []) = Err text_faults.CutShort
line_at (text ∷ next ∷ more) = Ok (text, next ∷ more)

-- what the next line is read as, and the text's parts behind it
abbrev pub line : {A : Type 0} → (List ℕ → Result A LineFault) → ℕ → List (List ℕ) → Result (A × List (List ℕ)) CertText
line read number text = and_then (line_at text) (λ next. and_then (at number (read next.0)) (λ x. Ok (x, next.1)))

-- one item more before the others
abbrev pub with_first : {A B : Type 0} → A → Result (List A × B) CertText → Result (List A × B) CertText
with_first x (Ok others) = Ok (x ∷ others.0, others.1)
with_first x (Err fault) = Err fault

-- what a line is read as that begins with these words; none where it doesn't
abbrev pub item : {A : Type 0} → List ℕ → (List ℕ → Result A LineFault) → ℕ → List ℕ → Result (Option A) CertText
item words read number text =
    if is_some (behind words text) then and_then (at number (read text)) (λ x. Ok (Some x)) else Ok None

-- the rest of the lines that begin so, after one of them or none
abbrev pub lines_after : {A : Type 0} → Result (Option A) CertText → List (List ℕ) → Result (List A × List (List ℕ)) CertText → Result (List A × List (List ℕ)) CertText
lines_after (Ok (Some x)) text others = with_first x others
lines_after (Ok None) text others = Ok ([], text)
lines_after (Err fault) text others = Err fault

-- the next lines that begin with these words, and the text's parts behind them
abbrev pub lines : {A : Type 0} → List ℕ → (List ℕ → Result A LineFault) → ℕ → List (List ℕ) → Result (List A × List (List ℕ)) CertText
lines words read number [] = Ok ([], [])
lines words read number (last ∷ []) = Ok ([], last ∷ [])
lines words read number (text ∷ next ∷ more) =
    lines_after (item words read number text) (text ∷ next ∷ more) (lines words read (number + 1) (next ∷ more))

-- the walk's line, and those of the steps
abbrev pub chosen : ℕ → List (List ℕ) → Result (Finding × ℕ × List (List ℕ)) CertText
chosen number text =
    and_then (line walk number text) (λ taken.
    and_then (lines (codes "refute") step (number + 1) taken.1) (λ steps.
    Ok (Chosen taken.0 steps.0, number + 1 + length steps.0, steps.1)))

-- the lines of the finding, the number of the line behind them, and the text's parts behind them
abbrev pub finding : Kind → ℕ → List (List ℕ) → Result (Finding × ℕ × List (List ℕ)) CertText
finding kinds.Undecided number text = Ok (Undecided, number, text)
finding kinds.Refused number text = and_then (line whole number text) (λ found. Ok (Refused found.0, number + 1, found.1))
finding kinds.Chosen number text = chosen number text

-- nothing stands there
abbrev pub nothing : ℕ → List (List ℕ) → Result (Unit {0}) CertText
nothing number ([] ∷ []) = Ok tt
nothing number _ = Err (text_faults.BadLine number)

-- the last line, and nothing behind it
abbrev pub ended : ℕ → List (List ℕ) → Result (Unit {0}) CertText
ended number text = and_then (line end number text) (λ last. nothing (number + 1) last.1)

-- the lines behind the first two
abbrev pub body : Kind → ℕ → List (List ℕ) → Result Certificate CertText
body says count text =
    and_then (lines (codes "lemma") lemma 3 text) (λ lemmas.
    and_then (finding says (3 + length lemmas.0) lemmas.1) (λ found.
    and_then (ended found.1 found.2) (λ _.
    Ok (record { vars = count; log = record { lemmas = lemmas.0 }; finding = found.0 }))))

-- the certificate that the text's parts between line feeds write, or the first fault
abbrev pub certificate : List (List ℕ) → Result Certificate CertText
certificate text =
    and_then (line word 1 text) (λ first.
    and_then (line vars 2 first.1) (λ count.
    body first.0 count.0 count.1))

-- what a text reads as: lines end with a line feed
abbrev pub certificate_of : List ℕ → Result Certificate CertText
certificate_of text = certificate (parts 10 text)
