-- The reading of a range's text, from the left to the right. A place is a number of bytes from the text's
-- beginning, and the rest is what stands from there on.
use Rattle.std.specs.Prelude.{ℕ, zero, suc, ◌+◌, ◌==◌, ◌&&◌, Bool, true, false, if◌then◌else◌, List, [], ◌∷◌, ◌++◌, length, drop, Result, Ok, Err}
use Rattle.std.specs.List.{prefix_len, take_while}
use Rattle.std.specs.Option.{ok_or}
use Rattle.version_ranges.specs.Terms.{Bound, Term}
use Rattle.version_ranges.specs.Words.{is_operator_byte, is_space, is_word_byte, operator_of, read_word}
use Rattle.version_ranges.specs.declared.condition.Operator.{Operator}
use Rattle.version_ranges.specs.declared.fault.RangeFault.{RangeFault}
use Rattle.version_ranges.specs.declared.fault.RangeFault.TheVariants.{BadOperator, Empty}

-- What comes after a step, unless the step was a fault.
abbrev pub and_then : {A B : Type 0} → Result A RangeFault → (A → Result B RangeFault) → Result B RangeFault
and_then (Ok value) next = next value
and_then (Err fault) next = Err fault

-- How many spaces stand next.
abbrev pub spaces : List ℕ → ℕ
spaces rest = prefix_len is_space rest

-- An alternative ends at the end of the text and at `||`.
abbrev pub ends : List ℕ → Bool
ends [] = true
ends (byte ∷ []) = false
ends (byte ∷ next ∷ _) = byte == 124 && next == 124

-- The longest run of `<`, `>`, `=` and `!` that stands next.
abbrev pub operator_run : List ℕ → List ℕ
operator_run rest = take_while is_operator_byte rest

-- How many bytes stand before the word: the operator and the spaces behind it.
abbrev pub word_start : List ℕ → ℕ
word_start rest = length (operator_run rest) + spaces (drop (length (operator_run rest)) rest)

-- The longest run of a word's bytes behind the operator and the spaces.
abbrev pub word_run : List ℕ → List ℕ
word_run rest = take_while is_word_byte (drop (word_start rest) rest)

-- The operator that stands next.
abbrev pub operator_at : ℕ → List ℕ → Result Operator RangeFault
operator_at place rest = ok_or (operator_of (operator_run rest)) (BadOperator place)

-- What the word that stands next is.
abbrev pub word_at : ℕ → List ℕ → Result Bound RangeFault
word_at place rest = read_word (place + word_start rest) (word_run rest)

-- The condition that stands next, and the number of its bytes.
unfoldable pub condition_at : ℕ → List ℕ → Result (Term × ℕ) RangeFault
condition_at place rest =
    and_then (operator_at place rest) (λ operator.
    and_then (word_at place rest) (λ bound.
    Ok (record { operator = operator; bound = bound }, word_start rest + length (word_run rest))))

-- These conditions, of so many bytes, before those that follow.
abbrev pub after_conditions : List Term → ℕ → Result (List Term × ℕ) RangeFault → Result (List Term × ℕ) RangeFault
after_conditions terms count (Ok read) = Ok (terms ++ read.0, count + read.1)
after_conditions terms count (Err fault) = Err fault

-- One turn: spaces are passed; where the alternative doesn't end there, a condition stands there, and others follow.
abbrev pub conditions_turn : (ℕ → List ℕ → Result (List Term × ℕ) RangeFault) → ℕ → List ℕ → Result (List Term × ℕ) RangeFault
conditions_turn others place rest =
    if ends (drop (spaces rest) rest) then Ok ([], spaces rest)
    else and_then (condition_at (place + spaces rest) (drop (spaces rest) rest)) (λ first.
    after_conditions (first.0 ∷ []) (spaces rest + first.1)
    (others (place + (spaces rest + first.1)) (drop (spaces rest + first.1) rest)))

-- The conditions in so many turns.
unfoldable pub conditions_from : ℕ → ℕ → List ℕ → Result (List Term × ℕ) RangeFault
conditions_from zero place rest = Ok ([], 0)
conditions_from (suc turns) place rest = conditions_turn (conditions_from turns) place rest

-- The conditions up to the end of their alternative, and the number of bytes before that end. Each condition
-- has a byte at least, so as many turns as there are bytes, and one, are enough.
abbrev pub conditions : ℕ → List ℕ → Result (List Term × ℕ) RangeFault
conditions place rest = conditions_from (suc (length rest)) place rest

-- An alternative has a condition; the fault of one that has none is at its end.
abbrev pub filled : ℕ → List Term → ℕ → Result (List Term × ℕ) RangeFault
filled place [] count = Err (Empty (place + count))
filled place (term ∷ terms) count = Ok (term ∷ terms, count)

-- The alternative that stands next, and the number of bytes before its end.
abbrev pub alternative_at : ℕ → List ℕ → Result (List Term × ℕ) RangeFault
alternative_at place rest = and_then (conditions place rest) (λ read. filled place read.0 read.1)

-- These alternatives before those that follow.
abbrev pub after_alternatives : List (List Term) → Result (List (List Term)) RangeFault → Result (List (List Term)) RangeFault
after_alternatives alternatives (Ok others) = Ok (alternatives ++ others)
after_alternatives alternatives (Err fault) = Err fault

-- What follows an alternative: nothing at the end of the text, and others behind `||`.
abbrev pub and_others : (List ℕ → Result (List (List Term)) RangeFault) → List Term → List ℕ → Result (List (List Term)) RangeFault
and_others others alternative [] = Ok (alternative ∷ [])
and_others others alternative (byte ∷ rest) = after_alternatives (alternative ∷ []) (others (drop 2 (byte ∷ rest)))

-- One turn: an alternative stands next, and others follow behind its end.
abbrev pub alternatives_turn : (ℕ → List ℕ → Result (List (List Term)) RangeFault) → ℕ → List ℕ → Result (List (List Term)) RangeFault
alternatives_turn others place rest =
    and_then (alternative_at place rest) (λ read. and_others (others (place + (read.1 + 2))) read.0 (drop read.1 rest))

-- The alternatives in so many turns.
unfoldable pub alternatives_from : ℕ → ℕ → List ℕ → Result (List (List Term)) RangeFault
alternatives_from zero place rest = Ok []
alternatives_from (suc turns) place rest = alternatives_turn (alternatives_from turns) place rest

-- The alternatives up to the end of the text. Each takes a byte at least, so as many turns as there are bytes,
-- and one, are enough.
abbrev pub alternatives : ℕ → List ℕ → Result (List (List Term)) RangeFault
alternatives place rest = alternatives_from (suc (length rest)) place rest

-- A range's alternatives, each a list of its conditions, or the fault that comes first.
abbrev pub reading : List ℕ → Result (List (List Term)) RangeFault
reading text = alternatives 0 text
