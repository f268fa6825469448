-- Each clause as a number in base 3, with a digit for each variable.
use Rattle.std.proofs.Common.{◌≡◌, ℕ, zero, suc, ◌+◌, ◌*◌, ◌^◌, ◌<◌, ◌≤◌, ◌==◌, nat_lt, Bool, true, false, not, cond, ◌&&◌, ◌||◌, List, [], ◌∷◌, ◌++◌, length, map, refl, sym, ap, ◌∙◌, subst, arith, inl, inr, ◌⊎◌, Some, None, pow-suc, IsTrue}
use Rattle.std.specs.List.{list_any, list_all, AllByRecursion}
use Rattle.std.proofs.lemmas.Bool.{cases_Bool, cases_lt, or_cases, or_left, or_right, and_parts, and_from, both_ways, false_from_ne_true, not_from_false, or_from, eqb-true, eq-eqb, ltb-true, cond-true, cond-false}
use Rattle.std.proofs.lemmas.List.{length-map}
use mathlib.Core.Bool.{beq}
use Rattle.op_constraints.specs.declared.Lit.{Lit}
use Rattle.op_constraints.specs.declared.Constraint.{Constraint}
use Rattle.op_constraints.specs.Walks.{is_among}
use Rattle.op_constraints.specs.Kept.{is_distinct}
use Rattle.op_constraints.proofs.Standing.{few_distinct}
use Rattle.derivations.specs.declared.Lemma.{Lemma}
use Rattle.derivations.specs.Clauses.{positive, negative, denial, is_same, is_in}
use Rattle.derivations.specs.Follows.{is_nothing, clauses, is_clause, LogFollows}
use Rattle.derivations.specs.Accepted.{contains_clause, is_tautology, IsIrredundant}
use Rattle.derivation_check.proofs.LogSteps.{log_within}
use Rattle.lemma_bound.specs.Laws.{NoneEmpty, FewLemmas}

abbrev digit_of : Bool → Bool → ℕ
digit_of a b = cond a 1 (cond b 2 0)

abbrev digit : List Lit → ℕ → ℕ
digit clause v = digit_of (is_in clause (positive v)) (is_in clause (negative v))

abbrev code : List Lit → ℕ → ℕ
code clause zero = 0
code clause (suc n) = digit clause n + 3 * code clause n

cond-small : (a b : Bool) → digit_of a b ≤ 2
cond-small true b = omega arith
cond-small false true = omega arith
cond-small false false = omega arith

digit-small : (clause : List Lit) (v : ℕ) → digit clause v ≤ 2
digit-small clause v = cond-small (is_in clause (positive v)) (is_in clause (negative v))

code-below : (clause : List Lit) (n : ℕ) → code clause n < 3 ^ n
code-below clause zero = omega arith
code-below clause (suc n) =
    let rest = code-below clause n in
    let here = digit-small clause n in
    let next = pow-suc 3 n in
    omega (arith, rest, here, next)

split : (x y a b : ℕ) → x ≤ 2 → y ≤ 2 → x + 3 * a ≡ y + 3 * b → (x ≡ y) × (a ≡ b)
split x y a b hx hy e =
    elim (cases_lt a b) [
      | inl less ↦ absurd (omega (arith, hx, hy, e, less))
      | inr rest ↦
          elim (cases_lt b a) [
            | inl less ↦ absurd (omega (arith, hx, hy, e, less))
            | inr more ↦ (omega (arith, e, rest, more), omega (arith, rest, more))
          ]
    ]

same-digits : (c d : List Lit) (n v : ℕ) → code c n ≡ code d n → v < n → digit c v ≡ digit d v
same-digits c d zero v e h = absurd (omega arith)
same-digits c d (suc n) v e h =
    let parts = split (digit c n) (digit d n) (code c n) (code d n) (digit-small c n) (digit-small d n) e in
    elim (cases_lt v n) [
      | inl less ↦ same-digits c d n v parts.1 less
      | inr more ↦ (let at : n ≡ v = omega (arith, h, more) in subst (λ (k : ℕ). digit c k ≡ digit d k) at parts.0)
    ]

one_digit : (a b : Bool) → digit_of a b ≡ 1 → a ≡ true
one_digit true b e = refl
one_digit false true e = absurd (omega (arith, e))
one_digit false false e = absurd (omega (arith, e))

two_digit : (a b : Bool) → digit_of a b ≡ 2 → b ≡ true
two_digit true b e = absurd (omega (arith, e))
two_digit false true e = refl
two_digit false false e = absurd (omega (arith, e))

positive-in : (c : List Lit) (v : ℕ) → digit c v ≡ 1 → is_in c (positive v) ≡ true
positive-in c v e = one_digit (is_in c (positive v)) (is_in c (negative v)) e

negative-in : (c : List Lit) (v : ℕ) → digit c v ≡ 2 → is_in c (negative v) ≡ true
negative-in c v e = two_digit (is_in c (positive v)) (is_in c (negative v)) e

positive-digit : (c : List Lit) (v : ℕ) → is_in c (positive v) ≡ true → digit c v ≡ 1
positive-digit c v i = cond-true (is_in c (positive v)) 1 (cond (is_in c (negative v)) 2 0) i

negative-digit : (c : List Lit) (v : ℕ) → is_in c (positive v) ≡ false → is_in c (negative v) ≡ true → digit c v ≡ 2
negative-digit c v n i = cond-false (is_in c (positive v)) 1 (cond (is_in c (negative v)) 2 0) n ∙ cond-true (is_in c (negative v)) 2 0 i

beq_refl : (b : Bool) → beq b b ≡ true
beq_refl true = refl
beq_refl false = refl

same_itself : (l : Lit) → is_same l l ≡ true
same_itself l = and_from (l.var == l.var) (beq l.positive l.positive) (eq-eqb l.var l.var refl) (beq_refl l.positive)

beq_same : (a b : Bool) → beq a b ≡ true → a ≡ b
beq_same true true e = refl
beq_same true false e = cc
beq_same false true e = cc
beq_same false false e = refl

same_lit : (k l : Lit) → is_same k l ≡ true → k ≡ l
same_lit k l e =
    let parts = and_parts (k.var == l.var) (beq k.positive l.positive) e in
    let with_var : ℕ → Lit = λ v. record { var = v; positive = k.positive } in
    let with_sign : Bool → Lit = λ b. record { var = l.var; positive = b } in
    ap with_var (eqb-true k.var l.var parts.0) ∙ ap with_sign (beq_same k.positive l.positive parts.1)

found : (clause ls : List Lit) (l : Lit) → is_in ls l ≡ true → is_in clause (denial l) ≡ true → list_any (λ k. is_in clause (denial k)) ls ≡ true
found clause [] l i d = i
found clause (k ∷ ks) l i d =
    elim (or_cases (is_same k l) (is_in ks l) i) [
      | inl same ↦ or_left (is_in clause (denial k)) (list_any (λ k. is_in clause (denial k)) ks) (subst (λ (m : Lit). is_in clause (denial m) ≡ true) (sym (same_lit k l same)) d)
      | inr rest ↦ or_right (is_in clause (denial k)) (list_any (λ k. is_in clause (denial k)) ks) (found clause ks l rest d)
    ]

-- a clause that is no tautology has no literal with its denial
apart : (clause ls : List Lit) (l : Lit) → list_any (λ k. is_in clause (denial k)) ls ≡ false → is_in ls l ≡ true → is_in clause (denial l) ≡ false
apart clause ls l t i =
    false_from_ne_true (is_in clause (denial l)) (λ d. both_ways (list_any (λ k. is_in clause (denial k)) ls) t (found clause ls l i d))

-- of two clauses with one number, each literal of the one is in the other
one-in : (c d : List Lit) (n : ℕ) (l : Lit) → code c n ≡ code d n → is_tautology d ≡ false → is_in d l ≡ true → l.var < n → (b : Bool) → b ≡ l.positive → is_in c l ≡ true
one-in c d n l e t i h true p =
    let with_sign : Bool → Lit = λ b. record { var = l.var; positive = b } in
    let there : is_in d (positive l.var) ≡ true = subst (λ (b : Bool). is_in d (with_sign b) ≡ true) (sym p) i in
    let here : is_in c (positive l.var) ≡ true = positive-in c l.var (same-digits c d n l.var e h ∙ positive-digit d l.var there) in
    subst (λ (b : Bool). is_in c (with_sign b) ≡ true) p here
one-in c d n l e t i h false p =
    let with_sign : Bool → Lit = λ b. record { var = l.var; positive = b } in
    let there : is_in d (negative l.var) ≡ true = subst (λ (b : Bool). is_in d (with_sign b) ≡ true) (sym p) i in
    let none : is_in d (positive l.var) ≡ false = apart d d (negative l.var) t there in
    let here : is_in c (negative l.var) ≡ true = negative-in c l.var (same-digits c d n l.var e h ∙ negative-digit d l.var none there) in
    subst (λ (b : Bool). is_in c (with_sign b) ≡ true) p here

both-contain : (c d ls : List Lit) (n : ℕ) → code c n ≡ code d n → is_tautology d ≡ false
    → ((l : Lit) → is_in ls l ≡ true → is_in d l ≡ true) → ((l : Lit) → is_in ls l ≡ true → l.var < n)
    → contains_clause c ls ≡ true
both-contain c d [] n e t inside low = refl
both-contain c d (l ∷ ls) n e t inside low =
    let here : is_in (l ∷ ls) l ≡ true = or_left (is_same l l) (is_in ls l) (same_itself l) in
    and_from (is_in c l) (contains_clause c ls)
    (one-in c d n l e t (inside l here) (low l here) l.positive refl)
    (both-contain c d ls n e t (λ m i. inside m (or_right (is_same l m) (is_in ls m) i)) (λ m i. low m (or_right (is_same l m) (is_in ls m) i)))

below-in : (n : ℕ) (ls : List Lit) (l : Lit) → list_all (λ v. nat_lt v n) (map (λ k. k.var) ls) ≡ true → is_in ls l ≡ true → l.var < n
below-in n [] l a i = absurd (let bad : false ≡ true = i in cc)
below-in n (k ∷ ks) l a i =
    let parts = and_parts (nat_lt k.var n) (list_all (λ v. nat_lt v n) (map (λ k. k.var) ks)) a in
    elim (or_cases (is_same k l) (is_in ks l) i) [
      | inl same ↦ (let inner = and_parts (k.var == l.var) (beq k.positive l.positive) same in subst (λ (v : ℕ). v < n) (eqb-true k.var l.var inner.0) (ltb-true k.var n parts.0))
      | inr rest ↦ below-in n ks l parts.1 rest
    ]

clause-below : (problem : List (List Constraint)) (c : List Lit) (l : Lit) → is_clause problem c ≡ true → is_in c l ≡ true → l.var < length problem
clause-below problem c l g i =
    let parts = and_parts (list_all (λ v. nat_lt v (length problem)) (map (λ k. k.var) c)) (is_distinct (map (λ k. k.var) c)) g in
    below-in (length problem) c l parts.0 i

abbrev codes : ℕ → List (List Lit) → List ℕ
codes n cs = map (λ c. code c n) cs

all-left : (P : List Lit → Type 0) (xs ys : List (List Lit)) → AllByRecursion P (xs ++ ys) → AllByRecursion P xs
all-left P [] ys a = tt
all-left P (x ∷ xs) ys a = (a.0, all-left P xs ys a.1)

all-last : (P : List Lit → Type 0) (xs : List (List Lit)) (y : List Lit) → AllByRecursion P (xs ++ y ∷ []) → P y
all-last P [] y a = a.0
all-last P (x ∷ xs) y a = all-last P xs y a.1

-- a clause that no later one contains has a number that no later one has
absent : (problem : List (List Constraint)) (c : List Lit) (earlier later : List (List Lit))
    → is_clause problem c ≡ true → is_tautology c ≡ false
    → ((lits : List Lit) → AllByRecursion (λ k. contains_clause lits k ≡ false) earlier → contains_clause lits c ≡ false)
    → IsIrredundant problem earlier later
    → is_among (codes (length problem) later) (code c (length problem)) ≡ false
absent problem c earlier [] g t free i = refl
absent problem c earlier (d ∷ ds) g t free i =
    let n : ℕ = length problem in
    let rest = absent problem c (earlier ++ d ∷ []) ds g t
    (λ lits a. free lits (all-left (λ k. contains_clause lits k ≡ false) earlier (d ∷ []) a)) i.3 in
    or_from (code d n == code c n) (is_among (codes n ds) (code c n))
    (false_from_ne_true (code d n == code c n) (λ e.
    both_ways (contains_clause d c) (free d i.2)
    (both-contain d c c n (eqb-true (code d n) (code c n) e) t (λ l h. h) (λ l h. clause-below problem c l g h))))
    rest

distinct : (problem : List (List Constraint)) (earlier cs : List (List Lit)) → AllByRecursion (λ c. is_clause problem c ≡ true) cs → IsIrredundant problem earlier cs → is_distinct (codes (length problem) cs) ≡ true
distinct problem earlier [] g i = refl
distinct problem earlier (c ∷ cs) g i =
    let n : ℕ = length problem in
    and_from (not (is_among (codes n cs) (code c n))) (is_distinct (codes n cs))
    (not_from_false (is_among (codes n cs) (code c n))
    (absent problem c (earlier ++ c ∷ []) cs g.0 i.0 (λ lits a. all-last (λ k. contains_clause lits k ≡ false) earlier c a) i.3))
    (distinct problem (earlier ++ c ∷ []) cs g.1 i.3)

below : (n : ℕ) (cs : List (List Lit)) → AllByRecursion (λ v. v < 3 ^ n) (codes n cs)
below n [] = tt
below n (c ∷ cs) = (code-below c n, below n cs)

-- a clause that isn't empty has a number other than 0
code-some : (c : List Lit) (n v : ℕ) → v < n → (digit c v ≡ 0 → ⊥) → code c n ≡ 0 → ⊥
code-some c zero v h s e = omega arith
code-some c (suc n) v h s e =
    elim (cases_lt v n) [
      | inl less ↦ code-some c n v less s (omega (arith, e))
      | inr more ↦ (let at : n ≡ v = omega (arith, h, more) in s (subst (λ (k : ℕ). digit c k ≡ 0) at (omega (arith, e))))
    ]

digit-some : (c : List Lit) (l : Lit) → is_in c l ≡ true → (b : Bool) → b ≡ l.positive → digit c l.var ≡ 0 → ⊥
digit-some c l i true e z =
    let with_sign : Bool → Lit = λ b. record { var = l.var; positive = b } in
    let one = positive-digit c l.var (subst (λ (b : Bool). is_in c (with_sign b) ≡ true) (sym e) i) in omega (arith, one, z)
digit-some c l i false e z =
    let with_sign : Bool → Lit = λ b. record { var = l.var; positive = b } in
    let there : is_in c (negative l.var) ≡ true = subst (λ (b : Bool). is_in c (with_sign b) ≡ true) (sym e) i in
    elim (cases_Bool (is_in c (positive l.var))) [
      | inl here ↦ (let one = positive-digit c l.var here in omega (arith, one, z))
      | inr other ↦ (let two = negative-digit c l.var other there in omega (arith, two, z))
    ]

code-nonempty : (problem : List (List Constraint)) (c : List Lit) → is_clause problem c ≡ true → is_nothing c ≡ false → code c (length problem) ≡ 0 → ⊥
code-nonempty problem [] g s e = both_ways true s refl
code-nonempty problem (l ∷ ls) g s e =
    let here : is_in (l ∷ ls) l ≡ true = or_left (is_same l l) (is_in ls l) (same_itself l) in
    code-some (l ∷ ls) (length problem) l.var (clause-below problem (l ∷ ls) l g here) (digit-some (l ∷ ls) l here l.positive refl) e

no-zero : (problem : List (List Constraint)) (cs : List (List Lit)) → AllByRecursion (λ c. is_clause problem c ≡ true) cs → AllByRecursion (λ c. is_nothing c ≡ false) cs → is_among (codes (length problem) cs) 0 ≡ false
no-zero problem [] g s = refl
no-zero problem (c ∷ cs) g s =
    let n : ℕ = length problem in
    or_from (code c n == 0) (is_among (codes n cs) 0)
    (false_from_ne_true (code c n == 0) (λ e. code-nonempty problem c g.0 s.0 (eqb-true (code c n) 0 e)))
    (no-zero problem cs g.1 s.1)

few : (problem : List (List Constraint)) (cs : List (List Lit)) → AllByRecursion (λ c. is_clause problem c ≡ true) cs → AllByRecursion (λ c. is_nothing c ≡ false) cs → IsIrredundant problem [] cs → length cs < 3 ^ length problem
few problem cs g s i =
    let n : ℕ = length problem in
    let numbers : List ℕ = 0 ∷ codes n cs in
    let once : is_distinct numbers ≡ true = and_from (not (is_among (codes n cs) 0)) (is_distinct (codes n cs)) (not_from_false (is_among (codes n cs) 0) (no-zero problem cs g s)) (distinct problem [] cs g i) in
    let low : AllByRecursion (λ v. v < 3 ^ n) numbers = ((let some = code-below [] n in omega (arith, some)), below n cs) in
    let most = few_distinct (3 ^ n) numbers once low in
    let size = length-map cs (λ c. code c n) in
    omega (arith, most, size)

good : (problem : List (List Constraint)) (log : List Lemma) → AllByRecursion (λ l. IsTrue (is_clause problem l.lits)) log → AllByRecursion (λ c. is_clause problem c ≡ true) (clauses log)
good problem [] a = tt
good problem (l ∷ ls) a = (a.0, good problem ls a.1)

pub few_lemmas : FewLemmas
few_lemmas problem log f i s =
    let size = length-map log (λ (l : Lemma). l.lits) in
    let some = few problem (clauses log) (good problem log (log_within problem [] log f)) s i in
    omega (arith, size, some)
