-- The measure of a search: each partial walk has a value, which grows as the search goes on and stays below a bound.
use Rattle.std.proofs.Common.{◌≡◌, ℕ, zero, suc, ◌+◌, ◌-◌, ◌*◌, ◌≤◌, ◌<◌, List, [], ◌∷◌, length, ap, arith, inl, inr}
use Rattle.std.specs.List.{AllByRecursion}
use Rattle.std.proofs.Math.Nat.{mul-le-mul_left, mul-le-mul_right}
use Rattle.op_constraints.specs.Walks.{IsBefore}

-- how many lists of so many numbers below the base there are
pub power : ℕ → ℕ → ℕ
power base zero = 1
power base (suc n) = base * power base n

-- the value of a list of at most n numbers, as digits that are one more than they
pub value : ℕ → ℕ → List ℕ → ℕ
value base zero ks = 0
value base (suc n) [] = 0
value base (suc n) (k ∷ ks) = (k + 1) * power base n + value base n ks

pub measure : ℕ → ℕ → List ℕ → ℕ
measure base n ks = power base n - value base n ks

power-some : (base n : ℕ) → 0 < base → 0 < power base n
unfolding power
power-some base zero h = omega arith
power-some base (suc n) h = let rest = power-some base n h in let m = mul-le-mul_left base rest in omega (arith, m, h)

value-low : (base n : ℕ) (ks : List ℕ) → 0 < base → AllByRecursion (λ k. k + 1 < base) ks → value base n ks < power base n
unfolding power value
value-low base zero ks h a = omega arith
value-low base (suc n) [] h a = let rest = power-some base n h in let m = mul-le-mul_left base rest in omega (arith, m, h)
value-low base (suc n) (k ∷ ks) h a =
    let p : ℕ = power base n in
    let digit = a.0 in
    let more : k + 2 ≤ base = omega (arith, digit) in
    let m : (k + 2) * p ≤ base * p = mul-le-mul_right p more in
    let rest = value-low base n ks h a.1 in
    omega (arith, m, rest)

value-more : (base n : ℕ) (js ks : List ℕ) → 0 < base → AllByRecursion (λ k. k + 1 < base) js → length js ≤ n → length ks ≤ n → IsBefore js ks → value base n js < value base n ks
unfolding value
value-more base zero [] [] z a l m h = absurd h
value-more base zero (j ∷ js) ks z a l m h = absurd (omega (arith, l))
value-more base zero js (k ∷ ks) z a l m h = absurd (omega (arith, m))
value-more base (suc n) [] [] z a l m h = absurd h
value-more base (suc n) (j ∷ js) [] z a l m h = absurd h
value-more base (suc n) [] (k ∷ ks) z a l m h = let p : ℕ = power base n in let some = power-some base n z in omega (arith, some)
value-more base (suc n) (j ∷ js) (k ∷ ks) z a l m (inl less) =
    let p : ℕ = power base n in
    let low = value-low base n js z a.1 in
    let next : j + 1 ≤ k = omega (arith, less) in
    let more : (j + 1) * p ≤ k * p = mul-le-mul_right p next in
    omega (arith, low, more)
value-more base (suc n) (j ∷ js) (k ∷ ks) z a l m (inr (same, b)) =
    let p : ℕ = power base n in
    let rest = value-more base n js ks z a.1 (omega (arith, l)) (omega (arith, m)) b in
    let first : (j + 1) * p ≡ (k + 1) * p = ap (λ i. (i + 1) * p) same in
    omega (arith, rest, first)

pub measure-less : (base n : ℕ) (js ks : List ℕ) → 0 < base → AllByRecursion (λ k. k + 1 < base) js → AllByRecursion (λ k. k + 1 < base) ks → length js ≤ n → length ks ≤ n → IsBefore js ks → measure base n ks < measure base n js
unfolding measure
measure-less base n js ks h a b l m before =
    let one = value-more base n js ks h a l m before in
    let two = value-low base n ks h b in
    omega (arith, one, two)
