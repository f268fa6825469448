-- Lists that are looked up by variable, and why the clauses that name the last variable are enough to look at.
use Rattle.std.proofs.Common.{◌≡◌, ℕ, zero, suc, ◌+◌, ◌<◌, ◌⊎◌, Bool, true, false, ◌==◌, ◌&&◌, List, [], ◌∷◌, ◌++◌, length, map, take, get_or, set, refl, sym, ap, ◌∙◌, subst, arith, inl, inr, Option, Some, None, Result, Ok, Err, IfOk, IfSome, OnOk, OnErr, slice_get}
use Rattle.std.specs.List.{list_all, AllByRecursion}
use Rattle.std.proofs.lemmas.Bool.{cases_Bool, cases_eq, or_from, and_parts, both_ways, false_from_ne_true, eqb-true}
use Rattle.std.proofs.lemmas.List.{get_or-set_same, get_or-set_other, length-set, take_more}
use Rattle.op_constraints.specs.declared.Lit.{Lit}
use Rattle.op_constraints.specs.declared.Constraint.{Constraint}
use Rattle.op_constraints.specs.declared.Constraint.TheVariants.{Mandatory, Prohibited, Dependency, Conflict, AtMost}
use Rattle.op_constraints.specs.Meets.{constraints_of, constraint_at, at, IsWithin, IsClosed}
use Rattle.op_constraints.specs.Walks.{is_among}
use Rattle.op_constraints.specs.Kept.{is_distinct, HasDistinctMembers, IsKept}
use Rattle.derivations.specs.declared.Hint.TheVariants.{Lemma as LemmaHint}
use Rattle.derivations.specs.declared.Lemma.{Lemma}
use Rattle.derivations.specs.declared.Refutation.{Refutation}
use Rattle.derivations.specs.Follows.{clauses, LogFollows}
use Rattle.derivations.specs.Clauses.{positive, negative, is_in, is_too_many, given_clause}
use Rattle.preference_search.specs.declared.naming.Place.{Place}
use Rattle.preference_search.specs.Denials.{is_denied, IsDenial, IsGivenDenial, IsAllowed, AllowsSet, NoLemmaDenies}
use Rattle.preference_search.specs.Naming.{may_deny, list_of, IsListed, IsGrown, IsIndexed, AreNamed}
use Rattle.preference_search.proofs.Denying.{in_negatives, among-pushed, unnamed-denied}
use Rattle.preference_search.proofs.Giving.{named-clause, given-is-denial}
use Rattle.preference_search.proofs.Logs.{lemma-denies}

-- Growing

pub grown-itself : {T : Type 0} (lists : List (List T)) → IsGrown lists lists
grown-itself lists = record { size = refl; kept = λ v item h. h }

pub grown-onward : {T : Type 0} (a b c : List (List T)) → IsGrown a b → IsGrown b c → IsGrown a c
grown-onward a b c g h = record { size = h.size ∙ g.size; kept = λ v item l. h.kept v item (g.kept v item l) }

get-front : {T : Type 0} (xs : List T) (y x : T) (i : ℕ) → slice_get xs i ≡ Some x → slice_get (xs ++ y ∷ []) i ≡ Some x
get-front [] y x i e = absurd (let bad : None ≡ Some x = e in cc)
get-front (z ∷ zs) y x zero e = e
get-front (z ∷ zs) y x (suc i) e = get-front zs y x i e

get-last : {T : Type 0} (xs : List T) (y : T) → slice_get (xs ++ y ∷ []) (length xs) ≡ Some y
get-last [] y = refl
get-last (z ∷ zs) y = get-last zs y

-- one item more in the list of a variable
pub add-listed : {T : Type 0} (lists : List (List T)) (v : ℕ) (item : T) (more : List T) → v < length lists → more ≡ list_of lists v ++ item ∷ [] → IsListed (set lists v more) v item
add-listed lists v item more h e = λ _. (
  length (list_of lists v),
  ap (λ xs. slice_get xs (length (list_of lists v))) (get_or-set_same lists v more [] h ∙ e) ∙ get-last (list_of lists v) item,
)

pub add-grown : {T : Type 0} (lists : List (List T)) (v : ℕ) (item : T) (more : List T) → v < length lists → more ≡ list_of lists v ++ item ∷ [] → IsGrown lists (set lists v more)
add-grown lists v item more h e = record {
  size = length-set lists v more;
  kept = λ w other l.
      elim (cases_eq w v) [
        | inl same ↦ (λ _.
            let (i, at) = l (omega (arith, h, same)) in (
              i,
              ap (λ u. slice_get (list_of (set lists v more) u) i) same
                  ∙ (ap (λ xs. slice_get xs i) (get_or-set_same lists v more [] h ∙ e)
                  ∙ get-front (list_of lists v) item other i (ap (λ u. slice_get (list_of lists u) i) (sym same) ∙ at)),
            ))
        | inr apart ↦ (λ low.
            let (i, at) = l (let size = length-set lists v more in omega (arith, low, size)) in
            (i, ap (λ xs. slice_get xs i) (get_or-set_other lists v w more [] apart) ∙ at))
      ];
}

pub add-same : {T : Type 0} (lists : List (List T)) (v : ℕ) (more : List T) → v < length lists → more ≡ list_of lists v → IsGrown lists (set lists v more)
add-same lists v more h e = record {
  size = length-set lists v more;
  kept = λ w other l.
      elim (cases_eq w v) [
        | inl same ↦ (λ _.
            let (i, at) = l (omega (arith, h, same)) in (
              i,
              ap (λ u. slice_get (list_of (set lists v more) u) i) same
                  ∙ (ap (λ xs. slice_get xs i) (get_or-set_same lists v more [] h ∙ e)
                  ∙ (ap (λ u. slice_get (list_of lists u) i) (sym same) ∙ at)),
            ))
        | inr apart ↦ (λ low.
            let (i, at) = l (let size = length-set lists v more in omega (arith, low, size)) in
            (i, ap (λ xs. slice_get xs i) (get_or-set_other lists v w more [] apart) ∙ at))
      ];
}

-- the item is listed at one variable more
pub all-listed : {T : Type 0} (before more : List (List T)) (vs : List ℕ) (i v : ℕ) (item : T) → i < length vs → v ≡ get_or vs i v
    → ((w : ℕ) → is_among (take i vs) w ≡ true → IsListed before w item)
    → IsGrown before more
    → IsListed more v item
    → (w : ℕ) → is_among (take (i + 1) vs) w ≡ true → IsListed more w item
all-listed before more vs i v item h is a g last w e =
    let parts : take (i + 1) vs ≡ take i vs ++ v ∷ [] = take_more vs i v h ∙ ap (λ u. take i vs ++ u ∷ []) (sym is) in
    elim (among-pushed (take i vs) v w (sym (ap (λ us. is_among us w) parts) ∙ e)) [
      | inl here ↦ g.kept w item (a w here)
      | inr same ↦ (let P : ℕ → Type 0 = λ u. IsListed more u item in subst P same last)
    ]

-- What may deny

within-none : (members named : List ℕ) (w : ℕ) → list_all (λ u. is_among members u) named ≡ true → is_among members w ≡ false → is_among named w ≡ false
within-none members [] w a n = refl
within-none members (v ∷ vs) w a n =
    let parts = and_parts (is_among members v) (list_all (λ u. is_among members u) vs) a in
    or_from (v == w) (is_among vs w)
    (false_from_ne_true (v == w) (λ e. both_ways (is_among members w) n (ap (is_among members) (sym (eqb-true v w e)) ∙ parts.0)))
    (within-none members vs w parts.1 n)

not-among : (vs : List ℕ) (w : ℕ) (clause : List Lit) → map negative vs ≡ clause → is_among vs w ≡ false → is_in clause (negative w) ≡ false
not-among vs w clause e n = ap (λ ls. is_in ls (negative w)) (sym e) ∙ (in_negatives vs (negative w) ∙ n)

-- a clause that denies a set, of a constraint that may not deny this variable, doesn't name it
pub unnamed : (set : ℕ → Bool) (v w : ℕ) (c : Constraint) (named : List ℕ) (clause : List Lit) → given_clause v c named ≡ Some clause → may_deny v w c ≡ false → is_denied set clause ≡ true → is_in clause (negative w) ≡ false
unnamed set v w Mandatory [] clause given n d =
    let is : (positive v ∷ []) ≡ clause = cc in
    let bad : is_denied set (positive v ∷ []) ≡ true = ap (is_denied set) is ∙ d in
    absurd (both_ways false refl bad)
unnamed set v w Mandatory (x ∷ xs) clause given n d = absurd (let bad : None ≡ Some clause = given in cc)
unnamed set v w Prohibited [] clause given n d =
    let is : (negative v ∷ []) ≡ clause = cc in not-among (v ∷ []) w clause is (or_from (v == w) false n refl)
unnamed set v w Prohibited (x ∷ xs) clause given n d = absurd (let bad : None ≡ Some clause = given in cc)
unnamed set v w (Dependency []) [] clause given n d =
    let is : (negative v ∷ []) ≡ clause = cc in not-among (v ∷ []) w clause is (or_from (v == w) false n refl)
unnamed set v w (Dependency (m ∷ ms)) [] clause given n d =
    let is : (negative v ∷ map positive (m ∷ ms)) ≡ clause = cc in
    let all : is_denied set (negative v ∷ map positive (m ∷ ms)) ≡ true = ap (is_denied set) is ∙ d in
    let parts = and_parts (set v) (is_denied set (map positive (m ∷ ms))) all in
    absurd (both_ways false refl parts.1)
unnamed set v w (Dependency []) (x ∷ xs) clause given n d = absurd (let bad : None ≡ Some clause = given in cc)
unnamed set v w (Dependency (m ∷ ms)) (x ∷ xs) clause given n d = absurd (let bad : None ≡ Some clause = given in cc)
unnamed set v w (Conflict other) [] clause given n d =
    let is : (negative v ∷ negative other ∷ []) ≡ clause = cc in not-among (v ∷ other ∷ []) w clause is n
unnamed set v w (Conflict other) (x ∷ xs) clause given n d = absurd (let bad : None ≡ Some clause = given in cc)
unnamed set v w (AtMost most members) named clause given n d =
    let parts = named-clause (is_too_many most members named) (map negative named) clause given in
    let many = and_parts (length named == (most + 1)) (is_distinct named && list_all (λ u. is_among members u) named) parts.0 in
    let more = and_parts (is_distinct named) (list_all (λ u. is_among members u) named) many.1 in
    not-among named w clause parts.1 (within-none members named w more.1 n)

-- a set is allowed where it is without its last variable and each constraint that may deny that one allows it
pub allowed-more : (problem : List (List Constraint)) (lists : List (List Place)) (before : List ℕ) (w : ℕ)
    → w < length lists
    → AllowsSet problem (is_among before)
    → IsIndexed problem lists
    → ((i : ℕ) (place : Place) (c : Constraint) → slice_get (list_of lists w) i ≡ Some place → constraint_at problem place.owner place.constraint ≡ Some c → IsAllowed (is_among (before ++ w ∷ [])) place.owner c)
    → AllowsSet problem (is_among (before ++ w ∷ []))
allowed-more problem lists before w low a x here = λ v number c at named clause given.
    let set : ℕ → Bool = is_among (before ++ w ∷ []) in
    elim (cases_Bool (may_deny v w c)) [
      | inl yes' ↦ (let (i, listed) = x v number w c at yes' low in here i (record { owner = v; constraint = number }) c listed at named clause given)
      | inr no' ↦
          false_from_ne_true (is_denied set clause) (λ d.
          both_ways (is_denied (is_among before) clause) (a v number c at named clause given)
          (unnamed-denied before w clause (unnamed set v w c named clause given no' d) d))
    ]

-- What is read

all-read : {A : Type 0} (P : A → Type 0) (xs : List A) (n : ℕ) (x : A) → AllByRecursion P xs → slice_get xs n ≡ Some x → P x
all-read P [] n x a e = absurd (let bad : None ≡ Some x = e in cc)
all-read P (y ∷ ys) zero x a e = let same : y ≡ x = cc in subst P same a.0
all-read P (y ∷ ys) (suc n) x a e = all-read P ys n x a.1 e

all-of : (P : Constraint → Type 0) (problem : List (List Constraint)) (v : ℕ) → AllByRecursion (λ cs. AllByRecursion P cs) problem → AllByRecursion P (constraints_of problem v)
all-of P [] v a = tt
all-of P (cs ∷ css) zero a = a.0
all-of P (cs ∷ css) (suc v) a = all-of P css v a.1

pub within-found : (problem : List (List Constraint)) (bits : List Bool) (v number : ℕ) (c : Constraint) → IsClosed problem → length bits ≡ length problem → constraint_at problem v number ≡ Some c → IsWithin (length bits) c
within-found problem bits v number c closed size at =
    let P : ℕ → Type 0 = λ n. IsWithin n c in
    subst P (sym size) (all-read (λ k. IsWithin (length problem) k) (constraints_of problem v) number c (all-of (λ k. IsWithin (length problem) k) problem v closed) at)

pub distinct-found : (problem : List (List Constraint)) (v number : ℕ) (c : Constraint) → IsKept problem → constraint_at problem v number ≡ Some c → HasDistinctMembers c
distinct-found problem v number c kept at = all-read HasDistinctMembers (constraints_of problem v) number c (all-of HasDistinctMembers problem v kept.distinct_members) at

pub given-answer : {E : Type 0} (problem : List (List Constraint)) (bits : List Bool) (v number : ℕ) (c : Constraint) (r : Result (Option Refutation) E) → length bits ≡ length problem → constraint_at problem v number ≡ Some c
    → IfOk r (λ found. IfSome found (λ d. IsGivenDenial (at bits) v number c d))
    → IfOk r (λ found. IfSome found (λ d. (log : List Lemma) → IsDenial problem log (at bits) d))
given-answer problem bits v number c (Ok (Some d)) size found g = λ log. given-is-denial problem log bits v d size (record { place = number; constraint = c; at = found; gives = g })
given-answer problem bits v number c (Ok None) size found g = tt
given-answer problem bits v number c (Err error) size found g = tt

read-lemma : (log : List Lemma) (n : ℕ) (lemma : Lemma) → slice_get log n ≡ Some lemma → (n < length log) × (lemma ≡ get_or log n lemma)
read-lemma [] n lemma e = absurd (let bad : None ≡ Some lemma = e in cc)
read-lemma (l ∷ ls) zero lemma e = (omega arith, let same : l ≡ lemma = cc in sym same)
read-lemma (l ∷ ls) (suc n) lemma e = let (low, is) = read-lemma ls n lemma e in (omega (arith, low), is)

clause-read : (log : List Lemma) (n : ℕ) (lemma : Lemma) (clause : List Lit) → slice_get log n ≡ Some lemma → slice_get (clauses log) n ≡ Some clause → clause ≡ lemma.lits
clause-read [] n lemma clause e f = absurd (let bad : None ≡ Some lemma = e in cc)
clause-read (l ∷ ls) zero lemma clause e f = let same : l ≡ lemma = cc in let is : l.lits ≡ clause = cc in sym is ∙ ap (λ (k : Lemma). k.lits) same
clause-read (l ∷ ls) (suc n) lemma clause e f = clause-read ls n lemma clause e f

clause-none : (log : List Lemma) (n : ℕ) (clause : List Lit) → slice_get log n ≡ None → slice_get (clauses log) n ≡ Some clause → ⊥
clause-none [] n clause e f = let bad : None ≡ Some clause = f in cc
clause-none (l ∷ ls) zero clause e f = let bad : Some l ≡ None = e in cc
clause-none (l ∷ ls) (suc n) clause e f = clause-none ls n clause e f

-- the lemma with this number denies the set, or no clause with this number does
pub numbered-denies : (problem : List (List Constraint)) (log : List Lemma) (set : ℕ → Bool) (lemma : Lemma) (n : ℕ) (d : Refutation) → LogFollows problem log → slice_get log n ≡ Some lemma → is_denied set lemma.lits ≡ true → d.lits ≡ lemma.lits → d.hints ≡ LemmaHint n ∷ [] → IsDenial problem log set d
numbered-denies problem log set lemma n d l e i lits hints = let (low, is) = read-lemma log n lemma e in lemma-denies problem log set lemma n d l low is i lits hints

pub numbered-undenied : (log : List Lemma) (set : ℕ → Bool) (lemma : Lemma) (n : ℕ) → slice_get log n ≡ Some lemma → is_denied set lemma.lits ≡ false → (clause : List Lit) → slice_get (clauses log) n ≡ Some clause → is_denied set clause ≡ false
numbered-undenied log set lemma n e i clause f = ap (is_denied set) (clause-read log n lemma clause e f) ∙ i

pub unnumbered-undenied : (log : List Lemma) (set : ℕ → Bool) (n : ℕ) → slice_get log n ≡ None → (clause : List Lit) → slice_get (clauses log) n ≡ Some clause → is_denied set clause ≡ false
unnumbered-undenied log set n e clause f = absurd (clause-none log n clause e f)

-- Lemmas

all-from : (P : List Lit → Type 0) (cs : List (List Lit)) → ((n : ℕ) (clause : List Lit) → slice_get cs n ≡ Some clause → P clause) → AllByRecursion P cs
all-from P [] h = tt
all-from P (c ∷ cs) h = (h 0 c refl, all-from P cs (λ n clause e. h (suc n) clause e))

-- the same of lemmas
pub undenied-more : (log : List Lemma) (before : List ℕ) (w : ℕ)
    → NoLemmaDenies log (is_among before)
    → ((number : ℕ) (clause : List Lit) → slice_get (clauses log) number ≡ Some clause → is_in clause (negative w) ≡ true → is_denied (is_among (before ++ w ∷ [])) clause ≡ false)
    → NoLemmaDenies log (is_among (before ++ w ∷ []))
undenied-more log before w a here =
    all-from (λ clause. is_denied (is_among (before ++ w ∷ [])) clause ≡ false) (clauses log) (λ n clause at.
    elim (cases_Bool (is_in clause (negative w))) [
      | inl yes' ↦ here n clause at yes'
      | inr no' ↦
          false_from_ne_true (is_denied (is_among (before ++ w ∷ [])) clause) (λ d.
          both_ways (is_denied (is_among before) clause) (all-read (λ c. is_denied (is_among before) c ≡ false) (clauses log) n clause a at)
          (unnamed-denied before w clause no' d))
    ])

-- from the lists of numbers to all lemmas
pub numbers-enough : (log : List Lemma) (lists : List (List ℕ)) (set : ℕ → Bool) (w : ℕ)
    → w < length lists
    → AreNamed log lists
    → ((i number : ℕ) (clause : List Lit) → slice_get (list_of lists w) i ≡ Some number → slice_get (clauses log) number ≡ Some clause → is_denied set clause ≡ false)
    → (number : ℕ) (clause : List Lit) → slice_get (clauses log) number ≡ Some clause → is_in clause (negative w) ≡ true → is_denied set clause ≡ false
numbers-enough log lists set w low named here number clause at is = let (i, listed) = named number w clause at is low in here i number clause listed at

-- all of them
pub any-undenied : (log : List Lemma) (set : ℕ → Bool) (w : ℕ) → NoLemmaDenies log set → (number : ℕ) (clause : List Lit) → slice_get (clauses log) number ≡ Some clause → is_in clause (negative w) ≡ true → is_denied set clause ≡ false
any-undenied log set w a number clause at is = all-read (λ c. is_denied set c ≡ false) (clauses log) number clause a at

-- the clauses of a longer log
pub get-clause : (log : List Lemma) (lemma : Lemma) (n : ℕ) (clause : List Lit) → slice_get (clauses (log ++ lemma ∷ [])) n ≡ Some clause → (slice_get (clauses log) n ≡ Some clause) ⊎ ((n ≡ length log) × (clause ≡ lemma.lits))
get-clause [] lemma zero clause e = inr (refl, let same : lemma.lits ≡ clause = cc in sym same)
get-clause [] lemma (suc n) clause e = absurd (let bad : None ≡ Some clause = e in cc)
get-clause (l ∷ ls) lemma zero clause e = inl e
get-clause (l ∷ ls) lemma (suc n) clause e =
    elim (get-clause ls lemma n clause e) [
      | inl here ↦ inl here
      | inr (last, is) ↦ inr (ap suc last, is)
    ]

-- a lemma whose number was listed at each variable that it denies may come to the log
pub named-push : (log : List Lemma) (lists more : List (List ℕ)) (lemma : Lemma) (number : ℕ)
    → AreNamed log lists
    → IsGrown lists more
    → ((w : ℕ) → is_in lemma.lits (negative w) ≡ true → IsListed more w number)
    → number ≡ length log
    → AreNamed (log ++ lemma ∷ []) more
named-push log lists more lemma number a g listed e = λ n w clause at is.
    elim (get-clause log lemma n clause at) [
      | inl here ↦ g.kept w n (a n w clause here is)
      | inr (last, same) ↦
          (let P : ℕ → Type 0 = λ k. IsListed more w k in
          subst P (e ∙ sym last) (listed w (ap (λ ls. is_in ls (negative w)) (sym same) ∙ is)))
    ]

pub named-grown : (log : List Lemma) (lists more : List (List ℕ)) → AreNamed log lists → IsGrown lists more → AreNamed log more
named-grown log lists more a g = λ n w clause at is. g.kept w n (a n w clause at is)

pub push-named : {E : Type 0} (r : Result ℕ E) (log later : List Lemma) (lists more : List (List ℕ)) (lemma : Lemma) (number : ℕ)
    → AreNamed log lists
    → IsGrown lists more
    → ((w : ℕ) → is_in lemma.lits (negative w) ≡ true → IsListed more w number)
    → number ≡ length log
    → OnOk r (later ≡ log ++ lemma ∷ [])
    → OnErr r (later ≡ log)
    → AreNamed later more
push-named (Ok x) log later lists more lemma number a g listed e added kept =
    let P : List Lemma → Type 0 = λ l. AreNamed l more in subst P (sym added) (named-push log lists more lemma number a g listed e)
push-named (Err error) log later lists more lemma number a g listed e added kept =
    let P : List Lemma → Type 0 = λ l. AreNamed l more in subst P (sym kept) (named-grown log lists more a g)
