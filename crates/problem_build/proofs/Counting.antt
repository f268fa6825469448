-- How many numbers there are of items that pass, and which.
use Rattle.std.proofs.Common.{◌≡◌, ◌+◌, ◌<◌, ◌≤◌, ◌==◌, ℕ, suc, Bool, true, false, not, if◌then◌else◌, List, [], ◌∷◌, length, refl, sym, ap, ◌∙◌, arith}
use Rattle.std.specs.List.{AllByRecursion, filter}
use Rattle.std.proofs.lemmas.Bool.{ne_eqb}
use Rattle.op_constraints.specs.Kept.{each_once}
use Rattle.problem_build.specs.Numbers.{numbers_where}

module _ {T : Type 0} (p : T → Bool) where
  pub few_where : (n : ℕ) (xs : List T) → length (numbers_where n p xs) ≤ length xs
  few_where n [] = omega arith
  few_where n (x ∷ xs) =
      let rest : length (numbers_where (n + 1) p xs) ≤ length xs = few_where (n + 1) xs in
      let go : (b : Bool) → length (if b then n ∷ numbers_where (n + 1) p xs else numbers_where (n + 1) p xs) ≤ suc (length xs) =
      λ b. elim b as (λ b. length (if b then n ∷ numbers_where (n + 1) p xs else numbers_where (n + 1) p xs) ≤ suc (length xs)) [
        | true ↦ omega arith
        | false ↦ omega arith
      ] in
      go (p x)

  pub where_all : (P : ℕ → Type 0) (n : ℕ) (xs : List T) → ((m : ℕ) → n ≤ m → m < n + length xs → P m) → AllByRecursion P (numbers_where n p xs)
  where_all P n [] h = tt
  where_all P n (x ∷ xs) h =
      let rest : AllByRecursion P (numbers_where (n + 1) p xs) = where_all P (n + 1) xs (λ m low high. h m (omega arith) (omega arith)) in
      let go : (b : Bool) → AllByRecursion P (if b then n ∷ numbers_where (n + 1) p xs else numbers_where (n + 1) p xs) =
      λ b. elim b as (λ b. AllByRecursion P (if b then n ∷ numbers_where (n + 1) p xs else numbers_where (n + 1) p xs)) [
        | true ↦ (h n (omega arith) (omega arith), rest)
        | false ↦ rest
      ] in
      go (p x)

  -- a smaller number isn't among them
  fresh : (m n : ℕ) (xs : List T) → m < n → filter (λ w. not (w == m)) (numbers_where n p xs) ≡ numbers_where n p xs
  fresh m n [] h = refl
  fresh m n (x ∷ xs) h =
      let rest : filter (λ w. not (w == m)) (numbers_where (n + 1) p xs) ≡ numbers_where (n + 1) p xs = fresh m (n + 1) xs (omega arith) in
      let other : (n == m) ≡ false = ne_eqb n m (λ e. omega arith) in
      let first : filter (λ w. not (w == m)) (n ∷ numbers_where (n + 1) p xs) ≡ n ∷ numbers_where (n + 1) p xs = rw other (ap (λ l. n ∷ l) rest) in
      let go : (b : Bool) → filter (λ w. not (w == m)) (if b then n ∷ numbers_where (n + 1) p xs else numbers_where (n + 1) p xs)
      ≡ (if b then n ∷ numbers_where (n + 1) p xs else numbers_where (n + 1) p xs) =
      λ b. elim b as (λ b. filter (λ w. not (w == m)) (if b then n ∷ numbers_where (n + 1) p xs else numbers_where (n + 1) p xs)
      ≡ (if b then n ∷ numbers_where (n + 1) p xs else numbers_where (n + 1) p xs)) [
        | true ↦ first
        | false ↦ rest
      ] in
      go (p x)

  pub once_where : (n : ℕ) (xs : List T) → each_once (numbers_where n p xs) ≡ numbers_where n p xs
  once_where n [] = refl
  once_where n (x ∷ xs) =
      let rest : each_once (numbers_where (n + 1) p xs) ≡ numbers_where (n + 1) p xs = once_where (n + 1) xs in
      let first : each_once (n ∷ numbers_where (n + 1) p xs) ≡ n ∷ numbers_where (n + 1) p xs =
      ap (λ l. n ∷ filter (λ w. not (w == n)) l) rest ∙ ap (λ l. n ∷ l) (fresh n (n + 1) xs (omega arith)) in
      let go : (b : Bool) → each_once (if b then n ∷ numbers_where (n + 1) p xs else numbers_where (n + 1) p xs)
      ≡ (if b then n ∷ numbers_where (n + 1) p xs else numbers_where (n + 1) p xs) =
      λ b. elim b as (λ b. each_once (if b then n ∷ numbers_where (n + 1) p xs else numbers_where (n + 1) p xs)
      ≡ (if b then n ∷ numbers_where (n + 1) p xs else numbers_where (n + 1) p xs)) [
        | true ↦ first
        | false ↦ rest
      ] in
      go (p x)

-- of two tests of which an item passes one at most
pub few_of_two : {T : Type 0} (p q : T → Bool) (n m : ℕ) (xs : List T) → ((x : T) → p x ≡ true → q x ≡ false)
    → length (numbers_where n p xs) + length (numbers_where m q xs) ≤ length xs
few_of_two p q n m [] apart = omega arith
few_of_two p q n m (x ∷ xs) apart =
    let rest : length (numbers_where (n + 1) p xs) + length (numbers_where (m + 1) q xs) ≤ length xs = few_of_two p q (n + 1) (m + 1) xs apart in
    let go : (b c : Bool) → p x ≡ b → q x ≡ c
    → length (if b then n ∷ numbers_where (n + 1) p xs else numbers_where (n + 1) p xs)
    + length (if c then m ∷ numbers_where (m + 1) q xs else numbers_where (m + 1) q xs) ≤ suc (length xs) =
    λ b c. elim b as (λ b. p x ≡ b → q x ≡ c
    → length (if b then n ∷ numbers_where (n + 1) p xs else numbers_where (n + 1) p xs)
    + length (if c then m ∷ numbers_where (m + 1) q xs else numbers_where (m + 1) q xs) ≤ suc (length xs)) [
      | true ↦ λ h. elim c as (λ c. q x ≡ c → suc (length (numbers_where (n + 1) p xs))
          + length (if c then m ∷ numbers_where (m + 1) q xs else numbers_where (m + 1) q xs) ≤ suc (length xs)) [
            | true ↦ λ k. absurd (let bad : true ≡ false = sym k ∙ apart x h in cc)
            | false ↦ λ k. omega arith
          ]
      | false ↦ λ h. elim c as (λ c. q x ≡ c → length (numbers_where (n + 1) p xs)
          + length (if c then m ∷ numbers_where (m + 1) q xs else numbers_where (m + 1) q xs) ≤ suc (length xs)) [
            | true ↦ λ k. omega arith
            | false ↦ λ k. omega arith
          ]
    ] in
    go (p x) (q x) refl refl
