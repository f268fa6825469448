-- The pieces of a range's text: operators, and the words beside them. All texts are bytes.
use Rattle.std.specs.Prelude.{ℕ, ◌+◌, ◌-◌, ◌*◌, ◌^◌, ◌==◌, ◌&&◌, ◌||◌, Bool, false, not, nat_eq, nat_lt, if◌then◌else◌, List, [], ◌∷◌, fold, codes, length, Option, Some, None, Result}
use Rattle.std.specs.Char.{is_ascii_digit}
use Rattle.std.specs.Cmp.Lexicographic.{pointwise}
use Rattle.std.specs.List.{list_all, list_any, slice_split}
use Rattle.std.specs.Option.{ok_or, option_and_then, option_map, option_or}
use Rattle.std.specs.Result.{result_ok}
use Rattle.semver.specs.Parse.{Parts, version_parts}
use Rattle.version_ranges.specs.Terms.{Bound, Exact, Span}
use Rattle.version_ranges.specs.declared.condition.Operator.{Operator}
use Rattle.version_ranges.specs.declared.condition.Operator.TheVariants.{Equal, Unequal, Below, AtMost, Above, AtLeast}
use Rattle.version_ranges.specs.declared.condition.Wildcard.{Wildcard}
use Rattle.version_ranges.specs.declared.condition.Wildcard.TheVariants.{OfMajor, OfMinor}
use Rattle.version_ranges.specs.declared.fault.RangeFault.{RangeFault}
use Rattle.version_ranges.specs.declared.fault.RangeFault.TheVariants.{BadVersion, BadWildcard}

-- Two texts are the same.
abbrev pub is_text : List ℕ → List ℕ → Bool
is_text wanted text = pointwise nat_eq text wanted

-- Only the space is a blank.
abbrev pub is_space : ℕ → Bool
is_space byte = byte == 32

-- `<`, `>`, `=` and `!`
abbrev pub is_operator_byte : ℕ → Bool
is_operator_byte byte = byte == 60 || byte == 62 || byte == 61 || byte == 33

-- A word has no space, no `|` and none of the operators' bytes.
abbrev pub is_word_byte : ℕ → Bool
is_word_byte byte = not (is_space byte || byte == 124 || is_operator_byte byte)

-- Nothing, `=` and `==` ask for an equal version, `!` and `!=` for another one.
abbrev pub operator_of : List ℕ → Option Operator
operator_of run =
    if is_text [] run || is_text (codes "=") run || is_text (codes "==") run then Some Equal
    else if is_text (codes "!") run || is_text (codes "!=") run then Some Unequal
    else if is_text (codes "<") run then Some Below
    else if is_text (codes "<=") run then Some AtMost
    else if is_text (codes ">") run then Some Above
    else if is_text (codes ">=") run then Some AtLeast
    else None

-- A number with one more digit.
abbrev pub value_after : ℕ → ℕ → ℕ
value_after value digit = value * 10 + (digit - 48)

-- What digits stand for in decimal, a whole number without a limit.
abbrev pub value_of : List ℕ → ℕ
value_of digits = fold value_after 0 digits

-- Digits, at least one, with no zero before others.
abbrev pub is_plain : List ℕ → Bool
is_plain [] = false
is_plain (digit ∷ more) = list_all is_ascii_digit (digit ∷ more) && (not (digit == 48) || length more == 0)

-- A number of 64 bits without leading zeros.
abbrev pub number_of : List ℕ → Option ℕ
number_of digits = if is_plain digits && nat_lt (value_of digits) (2 ^ 64) then Some (value_of digits) else None

abbrev pub is_dot : ℕ → Bool
is_dot byte = byte == 46

abbrev pub is_x : List ℕ → Bool
is_x piece = is_text (codes "x") piece

-- `M.x`
abbrev pub of_major : List ℕ → Option Wildcard
of_major major = option_map OfMajor (number_of major)

-- `M.m.x`
abbrev pub of_minor : List ℕ → List ℕ → Option Wildcard
of_minor major minor = option_and_then (λ first. option_map (OfMinor first) (number_of minor)) (number_of major)

-- The wildcard of these pieces between dots: `M.x`, `M.x.x` or `M.m.x`, and nothing else.
abbrev pub wildcard_of_pieces : List (List ℕ) → Option Wildcard
wildcard_of_pieces (major ∷ last ∷ []) = if is_x last then of_major major else None
wildcard_of_pieces (major ∷ middle ∷ last ∷ []) =
    if is_x last then (if is_x middle then of_major major else of_minor major middle) else None
wildcard_of_pieces _ = None

abbrev pub wildcard_of : List ℕ → Option Wildcard
wildcard_of word = wildcard_of_pieces (slice_split is_dot word)

-- The version that a word writes: by the grammar of Semantic Versioning 2.0.0, with major, minor and patch
-- numbers of 64 bits, while a number in a pre-release has no limit.
unfoldable pub version_of : List ℕ → Option Parts
version_of word = result_ok (version_parts word)

-- A word is a version or a wildcard.
abbrev pub bound_of_word : List ℕ → Option Bound
bound_of_word word = option_or (option_map Exact (version_of word)) (option_map Span (wildcard_of word))

-- Digits, dots and `x`
abbrev pub is_wildcard_byte : ℕ → Bool
is_wildcard_byte byte = is_ascii_digit byte || is_dot byte || byte == 120

-- A word that is neither is a bad wildcard where it has only digits, dots and `x` and has an `x`, and else a
-- bad version.
abbrev pub word_fault : ℕ → List ℕ → RangeFault
word_fault place word =
    if list_all is_wildcard_byte word && list_any (λ byte. byte == 120) word then BadWildcard place
    else BadVersion place

-- What the word at this place stands for.
abbrev pub read_word : ℕ → List ℕ → Result Bound RangeFault
read_word place word = ok_or (bound_of_word word) (word_fault place word)
