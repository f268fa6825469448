-- Lists and those that extend them, in the order of lists.
use Rattle.std.proofs.Common.{◌≡◌, ℕ, ◌+◌, ◌<◌, ◌≤◌, ◌⊎◌, List, [], ◌∷◌, ◌++◌, length, refl, ap, ◌∙◌, subst, arith, inl, inr}
use Rattle.std.specs.List.{AllByRecursion}
use Rattle.std.proofs.lemmas.Bool.{cases_order}
use Rattle.op_constraints.specs.Walks.{IsBefore, AreRising}
use Rattle.op_constraints.proofs.Order.{before_onward, before_one_way}

-- a list comes before those that extend it
pub before-extended : (ks : List ℕ) (k : ℕ) (rest : List ℕ) → IsBefore ks (ks ++ k ∷ rest)
before-extended [] k rest = tt
before-extended (j ∷ ks) k rest = inr (refl, before-extended ks k rest)

-- and an extension with a smaller number comes before one with a larger number
pub before-number : (ks : List ℕ) (j k : ℕ) (js rest : List ℕ) → j < k → IsBefore (ks ++ j ∷ js) (ks ++ k ∷ rest)
before-number [] j k js rest h = inl h
before-number (i ∷ ks) j k js rest h = inr (refl, before-number ks j k js rest h)

-- what comes before the list comes before its extensions
pub before-more : (js ks rest : List ℕ) → IsBefore js ks → IsBefore js (ks ++ rest)
before-more js [] rest b = absurd b
before-more [] (k ∷ ks) rest b = tt
before-more (j ∷ js) (k ∷ ks) rest (inl less) = inl less
before-more (j ∷ js) (k ∷ ks) rest (inr (same, b)) = inr (same, before-more js ks rest b)

-- what comes before the next number comes before this one, or extends it
pub before-next : (js ks : List ℕ) (k : ℕ) → IsBefore js (ks ++ (k + 1) ∷ []) → IsBefore js (ks ++ k ∷ []) ⊎ ((rest : List ℕ) × (js ≡ ks ++ k ∷ rest))
before-next [] [] k b = inl tt
before-next [] (i ∷ ks) k b = inl tt
before-next (j ∷ js) [] k (inl less) =
    elim (cases_order j k) [
      | inl same ↦ inr (js, ap (λ n. n ∷ js) same)
      | inr (inl low) ↦ inl (inl low)
      | inr (inr high) ↦ absurd (omega (arith, less, high))
    ]
before-next (j ∷ js) [] k (inr (same, b)) = absurd b
before-next (j ∷ js) (i ∷ ks) k (inl less) = inl (inl less)
before-next (j ∷ js) (i ∷ ks) k (inr (same, b)) =
    elim (before-next js ks k b) [
      | inl c ↦ inl (inr (same, c))
      | inr (rest, e) ↦ inr (rest, ap (λ n. n ∷ js) same ∙ ap (λ ns. i ∷ ns) e)
    ]

-- what comes before the first extension comes before the list, or is it
pub before-first : (js ks : List ℕ) → IsBefore js (ks ++ 0 ∷ []) → IsBefore js ks ⊎ (js ≡ ks)
before-first [] [] b = inr refl
before-first [] (k ∷ ks) b = inl tt
before-first (j ∷ js) [] (inl less) = absurd (omega (arith, less))
before-first (j ∷ js) [] (inr (same, b)) = absurd b
before-first (j ∷ js) (k ∷ ks) (inl less) = inl (inl less)
before-first (j ∷ js) (k ∷ ks) (inr (same, b)) =
    elim (before-first js ks b) [
      | inl c ↦ inl (inr (same, c))
      | inr e ↦ inr (ap (λ n. n ∷ js) same ∙ ap (λ ns. k ∷ ns) e)
    ]

-- one list more, after all that are there
pub rising-push : (walks : List (List ℕ)) (ks : List ℕ) → AreRising walks → AllByRecursion (λ js. IsBefore js ks) walks → AreRising (walks ++ ks ∷ [])
rising-push [] ks r a = tt
rising-push (js ∷ []) ks r a = (a.0, tt)
rising-push (js ∷ ls ∷ rest) ks r a = (r.0, rising-push (ls ∷ rest) ks r.1 a.1)

-- all come before what comes later
pub all-before : (walks : List (List ℕ)) (ks ls : List ℕ) → AllByRecursion (λ js. IsBefore js ks) walks → IsBefore ks ls → AllByRecursion (λ js. IsBefore js ls) walks
all-before [] ks ls a b = tt
all-before (js ∷ rest) ks ls a b = (before_onward js ks ls a.0 b, all-before rest ks ls a.1 b)

-- Parts of a list

pub all-front : {X : Type 0} (P : X → Type 0) (xs ys : List X) → AllByRecursion P (xs ++ ys) → AllByRecursion P xs
all-front P [] ys a = tt
all-front P (x ∷ xs) ys a = (a.0, all-front P xs ys a.1)

rising-tail : (ks : List ℕ) (rest : List (List ℕ)) → AreRising (ks ∷ rest) → AreRising rest
rising-tail ks [] r = tt
rising-tail ks (js ∷ rest) r = r.1

pub rising-front : (xs ys : List (List ℕ)) → AreRising (xs ++ ys) → AreRising xs
rising-front [] ys r = tt
rising-front (ks ∷ []) ys r = tt
rising-front (ks ∷ js ∷ rest) ys r = (r.0, rising-front (js ∷ rest) ys r.1)

-- nothing comes after the list and before its first extension
none-between : (m js ks : List ℕ) → ks ≡ m → IsBefore ks js → IsBefore js (m ++ 0 ∷ []) → ⊥
none-between m js ks same after b =
    let P : List ℕ → Type 0 = λ xs. IsBefore xs js in
    let later : IsBefore m js = subst P same after in
    elim (before-first js m b) [
      | inl c ↦ before_one_way js m c later
      | inr e ↦ (let Q : List ℕ → Type 0 = λ xs. IsBefore m xs in let self : IsBefore m m = subst Q e later in before_one_way m m self self)
    ]

-- of rising lists before the first extension, all come before the list itself, but for one at most
pub split-last : (m : List ℕ) (others : List (List ℕ)) → AreRising others → AllByRecursion (λ ks. IsBefore ks (m ++ 0 ∷ [])) others → (front : List (List ℕ)) × (last : List (List ℕ)) × (others ≡ front ++ last) × AllByRecursion (λ ks. IsBefore ks m) front × (length last ≤ 1)
split-last m [] r a = ([], [], refl, tt, omega arith)
split-last m (ks ∷ []) r a =
    elim (before-first ks m a.0) [
      | inl b ↦ (ks ∷ [], [], refl, (b, tt), omega arith)
      | inr same ↦ ([], ks ∷ [], refl, tt, omega arith)
    ]
split-last m (ks ∷ js ∷ rest) r a =
    elim (before-first ks m a.0) [
      | inl b ↦
          (let (front, last, e, all, few) = split-last m (js ∷ rest) r.1 a.1 in
          (ks ∷ front, last, ap (λ xs. ks ∷ xs) e, (b, all), few))
      | inr same ↦ absurd (none-between m js ks same r.0 a.1.0)
    ]
