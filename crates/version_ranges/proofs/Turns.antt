-- The turns of reading a range: the number of turns doesn't matter once it is above the number of bytes.
use Rattle.std.proofs.Common.{◌≡◌, ◌+◌, ◌<◌, ℕ, zero, suc, List, [], ◌∷◌, Bool, true, false, Result, Ok, Err, length, drop, refl, sym, ap, arith}
use Rattle.std.specs.Prelude.{if◌then◌else◌}
use Rattle.std.proofs.lemmas.List.{length-drop}
use Rattle.version_ranges.specs.Reading.{after_alternatives, after_conditions, alternative_at, alternatives, alternatives_from, alternatives_turn, and_others, and_then, condition_at, conditions, conditions_from, conditions_turn, ends, operator_at, spaces, word_at, word_run, word_start}
use Rattle.version_ranges.specs.Terms.{Bound, Term}
use Rattle.version_ranges.specs.Words.{read_word, version_of}
use Rattle.version_ranges.specs.declared.condition.Operator.{Operator}
use Rattle.version_ranges.specs.declared.fault.RangeFault.{RangeFault}

-- what reading conditions, and alternatives, gives
abbrev pub Read : Type 0
Read = Result (List Term × ℕ) RangeFault

abbrev pub Found : Type 0
Found = Result (List (List Term)) RangeFault

-- ---- steps that gave no fault

pub same_value : {A : Type 0} (x y : A) → ◌≡◌ {A = Result A RangeFault} (Ok x) (Ok y) → x ≡ y
same_value x y e = cc e

-- a step that gave no fault, in a chain
pub step_there : {A B : Type 0} (r : Result A RangeFault) (next : A → Result B RangeFault) (y : B) → and_then r next ≡ Ok y → (x : A) × (r ≡ Ok x) × (next x ≡ Ok y)
step_there (Ok x) next y e = (x, refl, e)
step_there (Err fault) next y e = cc e

-- chains that go on in the same way
pub same_next : {A B : Type 0} (r : Result A RangeFault) (f g : A → Result B RangeFault) → ((x : A) → r ≡ Ok x → f x ≡ g x) → and_then r f ≡ and_then r g
same_next (Ok x) f g h = h x refl
same_next (Err fault) f g h = refl

-- ---- a condition has a byte at least

-- the parts of a condition that was read
pub record Parted (place : ℕ) (rest : List ℕ) (first : Term × ℕ) : Type 0 where
  pub operator : Operator
  pub bound : Bound
  pub first_is : operator_at place rest ≡ Ok operator
  pub then_is : word_at place rest ≡ Ok bound
  pub value_is : first ≡ (record { operator = operator; bound = bound }, word_start rest + length (word_run rest))

pub parted : (place : ℕ) (rest : List ℕ) (first : Term × ℕ) → condition_at place rest ≡ Ok first → Parted place rest first
unfolding condition_at
parted place rest first h =
    let a = step_there (operator_at place rest) (λ operator. and_then (word_at place rest) (λ bound. Ok (record { operator = operator; bound = bound }, word_start rest + length (word_run rest)))) first h in
    let b = step_there (word_at place rest) (λ bound. Ok (record { operator = a.0; bound = bound }, word_start rest + length (word_run rest))) first a.2 in
    record { operator = a.0; bound = b.0; first_is = a.1; then_is = b.1; value_is = sym (same_value _ _ b.2) }

-- the empty word is none
pub no_word : (place : ℕ) (bound : Bound) → read_word place [] ≡ Ok bound → ⊥
unfolding version_of
no_word place bound h = cc h

word_there : (place : ℕ) (word : List ℕ) (bound : Bound) → read_word place word ≡ Ok bound → 0 < length word
word_there place [] bound h = absurd (no_word place bound h)
word_there place (byte ∷ word) bound h = omega arith

pub has_bytes : (place : ℕ) (rest : List ℕ) (first : Term × ℕ) → condition_at place rest ≡ Ok first → 0 < first.1
has_bytes place rest first h =
    let p = parted place rest first h in
    let some : 0 < length (word_run rest) = word_there (place + word_start rest) (word_run rest) p.bound p.then_is in
    rw p.value_is (omega arith)

-- ---- conditions

-- one turn, by whether the alternative ends there
same_pick : (e : Bool) (s : ℕ) (r : Result (Term × ℕ) RangeFault) (f g : Term × ℕ → Read)
    → (e ≡ false → (first : Term × ℕ) → r ≡ Ok first → f first ≡ g first)
    → ◌≡◌ {A = Read} (if e then Ok ([], s) else and_then r f) (if e then Ok ([], s) else and_then r g)
same_pick true s r f g h = refl
same_pick false s r f g h = same_next r f g (h refl)

-- where the alternative goes on, there are bytes
not_at_end : (rest : List ℕ) → ends (drop (spaces rest) rest) ≡ false → 0 < length rest
not_at_end [] h = cc h
not_at_end (byte ∷ rest) h = omega arith

conditions_same : (f g : ℕ → List ℕ → Read) (place : ℕ) (rest : List ℕ)
    → ((later : ℕ) (shorter : List ℕ) → length shorter < length rest → f later shorter ≡ g later shorter)
    → conditions_turn f place rest ≡ conditions_turn g place rest
conditions_same f g place rest h =
    same_pick (ends (drop (spaces rest) rest)) (spaces rest) (condition_at (place + spaces rest) (drop (spaces rest) rest)) _ _
    (λ on first there.
    let some = has_bytes (place + spaces rest) (drop (spaces rest) rest) first there in
    let bytes = not_at_end rest on in
    let count = length-drop (spaces rest + first.1) rest in
    let shorter : length (drop (spaces rest + first.1) rest) < length rest = omega (arith, count) in
    ap (after_conditions (first.0 ∷ []) (spaces rest + first.1)) (h (place + (spaces rest + first.1)) (drop (spaces rest + first.1) rest) shorter))

pub conditions_enough : (n m place : ℕ) (rest : List ℕ) → length rest < n → length rest < m → conditions_from n place rest ≡ conditions_from m place rest
unfolding conditions_from
conditions_enough zero m place rest h k = absurd (omega arith)
conditions_enough (suc n) zero place rest h k = absurd (omega arith)
conditions_enough (suc n) (suc m) place rest h k =
    conditions_same (conditions_from n) (conditions_from m) place rest
    (λ later shorter less. conditions_enough n m later shorter (omega arith) (omega arith))

-- the conditions by one turn, with no count of turns
pub conditions_by_turn : (place : ℕ) (rest : List ℕ) → conditions place rest ≡ conditions_turn conditions place rest
unfolding conditions_from
conditions_by_turn place rest =
    conditions_same (conditions_from (length rest)) conditions place rest
    (λ later shorter less. conditions_enough (length rest) (suc (length shorter)) later shorter less (omega arith))

-- ---- alternatives

same_others : (f g : List ℕ → Found) (first : List Term) (behind : List ℕ)
    → ((byte : ℕ) (more : List ℕ) → behind ≡ byte ∷ more → f (drop 2 (byte ∷ more)) ≡ g (drop 2 (byte ∷ more)))
    → and_others f first behind ≡ and_others g first behind
same_others f g first [] h = refl
same_others f g first (byte ∷ more) h = ap (after_alternatives (first ∷ [])) (h byte more refl)

alternatives_same : (f g : ℕ → List ℕ → Found) (place : ℕ) (rest : List ℕ)
    → ((later : ℕ) (shorter : List ℕ) → length shorter < length rest → f later shorter ≡ g later shorter)
    → alternatives_turn f place rest ≡ alternatives_turn g place rest
alternatives_same f g place rest h =
    same_next (alternative_at place rest) _ _ (λ read there.
    same_others (f (place + (read.1 + 2))) (g (place + (read.1 + 2))) read.0 (drop read.1 rest) (λ byte more behind.
    let count = length-drop read.1 rest in
    let whole : length (drop read.1 rest) ≡ suc (length more) = ap length behind in
    let left = length-drop 2 (byte ∷ more) in
    let shorter : length (drop 2 (byte ∷ more)) < length rest = omega (arith, count, whole, left) in
    h (place + (read.1 + 2)) (drop 2 (byte ∷ more)) shorter))

pub alternatives_enough : (n m place : ℕ) (rest : List ℕ) → length rest < n → length rest < m → alternatives_from n place rest ≡ alternatives_from m place rest
unfolding alternatives_from
alternatives_enough zero m place rest h k = absurd (omega arith)
alternatives_enough (suc n) zero place rest h k = absurd (omega arith)
alternatives_enough (suc n) (suc m) place rest h k =
    alternatives_same (alternatives_from n) (alternatives_from m) place rest
    (λ later shorter less. alternatives_enough n m later shorter (omega arith) (omega arith))

-- the alternatives by one turn, with no count of turns
pub alternatives_by_turn : (place : ℕ) (rest : List ℕ) → alternatives place rest ≡ alternatives_turn alternatives place rest
unfolding alternatives_from
alternatives_by_turn place rest =
    alternatives_same (alternatives_from (length rest)) alternatives place rest
    (λ later shorter less. alternatives_enough (length rest) (suc (length shorter)) later shorter less (omega arith))
