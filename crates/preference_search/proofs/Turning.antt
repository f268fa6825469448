-- What a search keeps as it takes a number, goes back, and denies a walk.
use Rattle.std.proofs.Common.{◌≡◌, ℕ, zero, suc, ◌+◌, ◌≤◌, ◌<◌, ◌==◌, Bool, true, false, cond, List, [], ◌∷◌, ◌++◌, length, map, take, drop, get_or, set, refl, sym, ap, ◌∙◌, subst, arith, inl, inr, Some, None, slice_get, append_assoc}
use Rattle.std.specs.List.{AllByRecursion}
use Rattle.std.proofs.lemmas.Bool.{cases_Bool, or_cases, and_parts, both_ways, false_from_ne_true, eqb-true, cond-true, cond-false}
use Rattle.std.proofs.lemmas.List.{length-append, get_or_default}
use Rattle.op_constraints.specs.declared.Constraint.{Constraint}
use Rattle.op_constraints.specs.declared.TheConstants.{VAR_LIMIT}
use Rattle.op_constraints.specs.Walks.{is_among, mandatory, waiting, member, walk, IsBefore, IsWide, FirstSucceeds}
use Rattle.op_constraints.specs.WalkInvariant.{Stands}
use Rattle.op_constraints.proofs.WalkLaws.{among_append_left, among_push}
use Rattle.op_constraints.proofs.Standing.{distinct-pop}
use Rattle.op_constraints.specs.Kept.{is_distinct}
use Rattle.op_constraints.proofs.Steps.{walk-pop}
use Rattle.op_constraints.proofs.Taking.{stands-take, stands-back, picked-new}
use Rattle.derivations.specs.declared.Hint.{Hint}
use Rattle.derivations.specs.declared.Lemma.{Lemma}
use Rattle.derivations.specs.declared.Refutation.{Refutation}
use Rattle.derivations.specs.Clauses.{negative, is_in}
use Rattle.derivations.specs.Follows.{clauses, Follows}
use Rattle.derivations.specs.Accepted.{Refutes}
use Rattle.preference_search.specs.Denials.{is_denied, IsDenial, IsUndenied}
use Rattle.preference_search.specs.Lists.{IsNext}
use Rattle.preference_search.specs.Searching.{ArePassedOver, HasTried, IsLog, IsUndeniedBefore, IsAt, IsTrying}
use Rattle.op_constraints.proofs.Extending.{before-number}
use Rattle.op_constraints.specs.Trails.{NoneBefore}
use Rattle.preference_search.proofs.Denying.{undenied-less, allowed-less, denial-without, denial-refutes}
use Rattle.op_constraints.proofs.Keeping.{all-push}
use Rattle.op_constraints.proofs.Standing.{all-pop}
use Rattle.preference_search.proofs.Passing.{snoc-same, LastStep, passed-down, passed-next, passed-grows, passed-cut, steps-enough}
use Rattle.preference_search.proofs.Trying.{none-down, none-next, none-up, first-fails, tried-enter, tried-later, tried-wide}
use Rattle.preference_search.proofs.Logs.{all-denied, log-push, last-denies}
use Rattle.derivations.specs.declared.Hint.TheVariants.{Lemma as LemmaHint}
use Rattle.op_constraints.specs.declared.Lit.{Lit}
use Rattle.op_constraints.specs.Meets.{at}
use Rattle.preference_search.proofs.Hints.{AreOut, out-again, out-more}

-- Members

member-get : (members : List ℕ) (k : ℕ) → k < length members → slice_get members k ≡ Some (get_or members k 0)
member-get [] k h = absurd (omega arith)
member-get (m ∷ ms) zero h = refl
member-get (m ∷ ms) (suc k) h = member-get ms k (omega arith)

pub get-member : (members : List ℕ) (k v : ℕ) → slice_get members k ≡ Some v → (k < length members) × (v ≡ get_or members k 0) × (drop k members ≡ v ∷ drop (suc k) members)
get-member [] k v e = absurd (let bad : None ≡ Some v = e in cc)
get-member (m ∷ ms) zero v e = let same : m ≡ v = cc in (omega arith, sym same, ap (λ u. u ∷ ms) same)
get-member (m ∷ ms) (suc k) v e = let (low, is, rest) = get-member ms k v e in (omega (arith, low), is, rest)

-- the member that the number picks of the first list
pub offered-at : (problem : List (List Constraint)) (chosen members : List ℕ) (rest : List (List ℕ)) (k v : ℕ) → waiting problem chosen ≡ members ∷ rest → member (waiting problem chosen) k ≡ Some v → slice_get members k ≡ Some v
offered-at problem chosen members rest k v w m = ap (λ lists. member lists k) (sym w) ∙ m

-- Down

-- a candidate is taken
pub at-taken : (problem : List (List Constraint)) (budget : ℕ) (log : List Lemma) (numbers chosen : List ℕ) (bits : List Bool) (steps : List (ℕ × ℕ × Refutation)) (k v owner place : ℕ) (members : List ℕ)
    → IsTrying problem budget log numbers chosen bits steps k
    → IsNext problem chosen owner place members
    → length members ≤ VAR_LIMIT
    → k < length members
    → v ≡ get_or members k v
    → IsAt problem budget log (numbers ++ k ∷ []) (chosen ++ v ∷ []) (set bits v true) steps 0 (length log + length (numbers ++ k ∷ []))
at-taken problem budget log numbers chosen bits steps k v owner place members t n few h is =
    let stands = stands-take problem bits chosen numbers members n.rest k v t.stands n.waits h is in
    record {
      stands = stands;
      small = all-push (λ i. i < VAR_LIMIT) numbers k t.small (omega (arith, few, h));
      sound = t.sound;
      passed = t.passed;
      none_before = t.none_before;
      tried = (let one = length-append numbers (k ∷ []) in
          let sum : (length log + length numbers) + 1 ≡ length log + length (numbers ++ k ∷ []) = omega (arith, one) in
          let P : ℕ → Type 0 = λ i. HasTried problem ((numbers ++ k ∷ []) ++ 0 ∷ []) i in
          subst P sum (tried-enter problem numbers (chosen ++ v ∷ []) k (length log + length numbers) t.tried stands.walked t.none_before));
      undenied = λ before w j ks c e.
          let same = snoc-same chosen before v w c in
          let P : List ℕ → Type 0 = λ vs. IsUndenied problem log (is_among vs) in
          subst P same.0 t.undenied;
    }

-- a choice begins
pub trying-begun : (problem : List (List Constraint)) (budget : ℕ) (log : List Lemma) (numbers chosen : List ℕ) (bits : List Bool) (steps : List (ℕ × ℕ × Refutation)) (owner place : ℕ) (members : List ℕ)
    → IsAt problem budget log numbers chosen bits steps 0 (length log + length numbers)
    → IsNext problem chosen owner place members
    → IsUndenied problem log (is_among chosen)
    → IsTrying problem budget log numbers chosen bits steps 0
trying-begun problem budget log numbers chosen bits steps owner place members a n undenied = record {
  stands = a.stands;
  small = a.small;
  sound = a.sound;
  passed = passed-down problem log numbers steps a.passed;
  none_before = none-down problem numbers chosen members n.rest a.none_before a.stands.walked n.waits;
  tried = a.tried;
  undenied = undenied;
}

-- Back

-- the last number is one that a list offered
record Left (problem : List (List Constraint)) (ks chosen : List ℕ) (k v : ℕ) : Type 0 where
  walked : walk problem ks ≡ Some chosen
  offered : member (waiting problem chosen) k ≡ Some v

left-from : (problem : List (List Constraint)) (numbers ks end chosen : List ℕ) (k v : ℕ) → walk problem numbers ≡ Some end → numbers ≡ ks ++ k ∷ [] → end ≡ chosen ++ v ∷ [] → Left problem ks chosen k v
left-from problem numbers ks end chosen k v w e c =
    let (stood, u, is, at, last) = walk-pop problem ks end k (ap (walk problem) (sym e) ∙ w) in
    let same = snoc-same stood chosen u v (sym last ∙ c) in
    let P : List ℕ → Type 0 = λ vs. member (waiting problem vs) k ≡ Some v in
    record {
      walked = is ∙ ap Some same.0;
      offered = subst P same.0 (at ∙ ap Some same.1);
    }

stood-before : (problem : List (List Constraint)) (bits : List Bool) (end numbers ks chosen : List ℕ) (k v : ℕ) → Stands problem bits end numbers → numbers ≡ ks ++ k ∷ [] → end ≡ chosen ++ v ∷ [] → Stands problem (set bits v false) chosen ks
stood-before problem bits end numbers ks chosen k v s e c =
    let P : List ℕ → Type 0 = λ ns. Stands problem bits end ns in
    stands-back problem bits end ks k v chosen (subst P e s) c

among-before : (chosen : List ℕ) (v u : ℕ) → is_among chosen u ≡ true → is_among (chosen ++ v ∷ []) u ≡ true
among-before chosen v u h = among_append_left chosen (v ∷ []) u h

undenied-fewer : (problem : List (List Constraint)) (log : List Lemma) (f g : ℕ → Bool) → ((v : ℕ) → g v ≡ true → f v ≡ true) → IsUndenied problem log f → IsUndenied problem log g
undenied-fewer problem log f g h u = record { given = allowed-less problem f g h u.given; lemmas = less (clauses log) u.lemmas }
  where
    less : (cs : List (List Lit)) → AllByRecursion (λ clause. is_denied f clause ≡ false) cs → AllByRecursion (λ clause. is_denied g clause ≡ false) cs
    less [] a = tt
    less (c ∷ cs) a = (undenied-less f g c h a.0, less cs a.1)

-- the denied walk is left for the one before it, at whose choice the next candidate is to be tried, or for one that the same clause denies
record Gone (problem : List (List Constraint)) (budget : ℕ) (log : List Lemma) (numbers chosen : List ℕ) (bits : List Bool) (steps : List (ℕ × ℕ × Refutation)) (k v : ℕ) : Type 0 where
  stands : Stands problem bits chosen numbers
  small : AllByRecursion (λ i. i < VAR_LIMIT) numbers
  low : k < VAR_LIMIT
  sound : IsLog problem budget log
  passed : ArePassedOver problem log (numbers ++ k ∷ []) steps
  none_before : NoneBefore problem (numbers ++ (k + 1) ∷ [])
  tried : HasTried problem (numbers ++ (k + 1) ∷ []) (length log + length numbers)
  undenied : IsUndenied problem log (is_among chosen)
  left : Left problem numbers chosen k v

gone : (problem : List (List Constraint)) (budget : ℕ) (log : List Lemma) (numbers ks end chosen : List ℕ) (bits : List Bool) (steps : List (ℕ × ℕ × Refutation)) (k v after count : ℕ) (d : Refutation)
    → IsAt problem budget log numbers end bits steps after count
    → length log + length numbers ≤ count + 1
    → IsDenial problem log (is_among end) d
    → numbers ≡ ks ++ k ∷ []
    → end ≡ chosen ++ v ∷ []
    → Gone problem budget log ks chosen (set bits v false) steps k v
gone problem budget log numbers ks end chosen bits steps k v after count d a enough i e c =
    let P : List ℕ → Type 0 = λ ns. AllByRecursion (λ i. i < VAR_LIMIT) ns in
    let Q : List ℕ → Type 0 = λ ns. ArePassedOver problem log ns steps in
    let R : List ℕ → Type 0 = λ ns. NoneBefore problem ns in
    let T : List ℕ → Type 0 = λ ns. HasTried problem (ns ++ after ∷ []) count in
    let small = all-pop (λ i. i < VAR_LIMIT) ks k (subst P e a.small) in
    let one = length-append ks (k ∷ []) in
    let walked : walk problem (ks ++ k ∷ []) ≡ Some end = ap (walk problem) (sym e) ∙ a.stands.walked in
    let later : IsBefore ((ks ++ k ∷ []) ++ after ∷ []) (ks ++ (k + 1) ∷ []) =
    (let parts : ks ++ k ∷ after ∷ [] ≡ (ks ++ k ∷ []) ++ after ∷ [] = sym (append_assoc ks (k ∷ []) (after ∷ [])) in
    let B : List ℕ → Type 0 = λ ns. IsBefore ns (ks ++ (k + 1) ∷ []) in
    subst B parts (before-number ks k (k + 1) (after ∷ []) [] (omega arith))) in
    record {
      stands = stood-before problem bits end numbers ks chosen k v a.stands e c;
      small = small.0;
      low = small.1;
      sound = a.sound;
      passed = subst Q e a.passed;
      none_before = none-next problem log ks end k d (subst R e a.none_before) a.sound.follows walked (denial-refutes problem log end d i);
      tried = tried-later problem ((ks ++ k ∷ []) ++ after ∷ []) (ks ++ (k + 1) ∷ []) count (length log + length ks) (subst T e a.tried) later (let size = ap length e in omega (arith, one, enough, size));
      undenied = a.undenied chosen v k ks c e;
      left = left-from problem numbers ks end chosen k v a.stands.walked e c;
    }

-- the candidate that was denied is passed over
pub trying-next : (problem : List (List Constraint)) (budget : ℕ) (log : List Lemma) (numbers ks end chosen : List ℕ) (bits : List Bool) (steps : List (ℕ × ℕ × Refutation)) (k v after count n : ℕ) (d : Refutation)
    → IsAt problem budget log numbers end bits steps after count
    → length log + length numbers ≤ count + 1
    → IsDenial problem log (is_among end) d
    → numbers ≡ ks ++ k ∷ []
    → end ≡ chosen ++ v ∷ []
    → is_in d.lits (negative v) ≡ true
    → n ≡ length ks
    → IsTrying problem budget log ks chosen (set bits v false) (steps ++ (n, k, d) ∷ []) (k + 1)
trying-next problem budget log numbers ks end chosen bits steps k v after count n d a enough i e c named size =
    let g = gone problem budget log numbers ks end chosen bits steps k v after count d a enough i e c in
    let P : List ℕ → Type 0 = λ vs. IsDenial problem log (is_among vs) d in
    let Q : ℕ → Type 0 = λ m. ArePassedOver problem log (ks ++ (k + 1) ∷ []) (steps ++ (m, k, d) ∷ []) in
    record {
      stands = g.stands;
      small = g.small;
      sound = g.sound;
      passed = subst Q (sym size) (passed-next problem log ks chosen k v steps d g.passed g.left.walked g.left.offered (subst P c i) named);
      none_before = g.none_before;
      tried = g.tried;
      undenied = g.undenied;
    }

-- a number was small
pub number-small : (problem : List (List Constraint)) (budget : ℕ) (log : List Lemma) (numbers ks end : List ℕ) (bits : List Bool) (steps : List (ℕ × ℕ × Refutation)) (k after count : ℕ)
    → IsAt problem budget log numbers end bits steps after count
    → numbers ≡ ks ++ k ∷ []
    → k < VAR_LIMIT
number-small problem budget log numbers ks end bits steps k after count a e =
    let P : List ℕ → Type 0 = λ ns. AllByRecursion (λ i. i < VAR_LIMIT) ns in
    (all-pop (λ i. i < VAR_LIMIT) ks k (subst P e a.small)).1

-- a clause that doesn't name the last candidate denies the walk before it too
pub record IsBackAt (problem : List (List Constraint)) (budget : ℕ) (log : List Lemma) (numbers chosen : List ℕ) (bits : List Bool) (steps : List (ℕ × ℕ × Refutation)) (k : ℕ) (d : Refutation) : Type 0 where
  pub here : IsAt problem budget log numbers chosen bits steps k (length log + length numbers)
  pub denial : IsDenial problem log (is_among chosen) d

pub back-denied : (problem : List (List Constraint)) (budget : ℕ) (log : List Lemma) (numbers ks end chosen : List ℕ) (bits : List Bool) (steps : List (ℕ × ℕ × Refutation)) (k v after count n : ℕ) (d : Refutation)
    → IsAt problem budget log numbers end bits steps after count
    → length log + length numbers ≤ count + 1
    → IsDenial problem log (is_among end) d
    → numbers ≡ ks ++ k ∷ []
    → end ≡ chosen ++ v ∷ []
    → is_in d.lits (negative v) ≡ false
    → n + k ≡ length steps
    → IsBackAt problem budget log ks chosen (set bits v false) (take n steps) (k + 1) d
back-denied problem budget log numbers ks end chosen bits steps k v after count n d a enough i e c unnamed size =
    let g = gone problem budget log numbers ks end chosen bits steps k v after count d a enough i e c in
    let P : List ℕ → Type 0 = λ vs. IsDenial problem log (is_among vs) d in
    record {
      here = record {
        stands = g.stands;
        small = g.small;
        sound = g.sound;
        passed = passed-cut problem log ks k n steps g.passed size;
        none_before = none-up problem ks ((k + 1) ∷ []) g.none_before;
        tried = g.tried;
        undenied = λ before u j js c' e'.
            undenied-fewer problem log (is_among chosen) (is_among before)
            (λ w h. subst (λ (vs : List ℕ). is_among vs w ≡ true) (sym c') (among-before before u w h)) g.undenied;
      };
      denial = denial-without problem log chosen v d unnamed (subst P c i);
    }

-- the steps of the last choice are enough to cut
pub cut-enough : (problem : List (List Constraint)) (budget : ℕ) (log : List Lemma) (numbers ks end : List ℕ) (bits : List Bool) (steps : List (ℕ × ℕ × Refutation)) (k after count : ℕ)
    → IsAt problem budget log numbers end bits steps after count
    → numbers ≡ ks ++ k ∷ []
    → k ≤ length steps
cut-enough problem budget log numbers ks end bits steps k after count a e =
    let Q : List ℕ → Type 0 = λ ns. ArePassedOver problem log ns steps in
    steps-enough problem log ks k steps (subst Q e a.passed)

-- a denial at the walk without numbers refutes the mandatory variables
pub root-refutes : (problem : List (List Constraint)) (budget : ℕ) (log : List Lemma) (numbers chosen : List ℕ) (bits : List Bool) (steps : List (ℕ × ℕ × Refutation)) (after count : ℕ) (d : Refutation)
    → IsAt problem budget log numbers chosen bits steps after count
    → IsDenial problem log (is_among chosen) d
    → numbers ≡ []
    → Refutes problem log (mandatory problem) d
root-refutes problem budget log numbers chosen bits steps after count d a i e =
    let w : Some (mandatory problem) ≡ Some chosen = ap (walk problem) (sym e) ∙ a.stands.walked in
    let same : chosen ≡ mandatory problem = cc in
    let P : List ℕ → Type 0 = λ vs. Refutes problem log vs d in
    subst P same (denial-refutes problem log chosen d i)

-- Closing a choice

-- the hints of a choice, from its last candidate on
pub conclude-step : (problem : List (List Constraint)) (log : List Lemma) (ks chosen members : List ℕ) (rest : List (List ℕ)) (k : ℕ) (steps : List (ℕ × ℕ × Refutation)) (s : ℕ × ℕ × Refutation) (hints : List Hint)
    → waiting problem chosen ≡ members ∷ rest
    → LastStep problem log ks chosen k steps s
    → AreOut problem log chosen (drop (suc k) members) hints
    → AreOut problem log chosen (drop k members) (cond (is_among (drop (suc k) members) (get_or members k 0)) hints (hints ++ s.2.hints))
conclude-step problem log ks chosen members rest k steps s hints w last out =
    let v = last.candidate in
    let (low, is, parts) = get-member members k v (offered-at problem chosen members rest k v w last.offered) in
    let later = drop (suc k) members in
    let P : List ℕ → Type 0 = λ vs. AreOut problem log chosen vs (cond (is_among later (get_or members k 0)) hints (hints ++ s.2.hints)) in
    subst P (sym parts)
    (elim (cases_Bool (is_among later v)) [
      | inl again ↦
          (let Q : List Hint → Type 0 = λ hs. AreOut problem log chosen (v ∷ later) hs in
          let here : is_among later (get_or members k 0) ≡ true = ap (is_among later) (sym is) ∙ again in
          subst Q (sym (cond-true (is_among later (get_or members k 0)) hints (hints ++ s.2.hints) here)) (out-again problem log chosen later hints v again out))
      | inr new ↦
          (let Q : List Hint → Type 0 = λ hs. AreOut problem log chosen (v ∷ later) hs in
          let here : is_among later (get_or members k 0) ≡ false = ap (is_among later) (sym is) ∙ new in
          let at : v ≡ get_or members k v = is ∙ get_or_default members k 0 v low in
          let free = picked-new problem chosen members rest k v w low at in
          subst Q (sym (cond-false (is_among later (get_or members k 0)) hints (hints ++ s.2.hints) here))
          (out-more problem log chosen later hints v s.2 new free last.denial last.named out))
    ])

-- the walk whose choice is closed
pub closed-at : (problem : List (List Constraint)) (budget : ℕ) (log : List Lemma) (numbers chosen : List ℕ) (bits : List Bool) (steps : List (ℕ × ℕ × Refutation)) (n count : ℕ)
    → Stands problem bits chosen numbers
    → AllByRecursion (λ i. i < VAR_LIMIT) numbers
    → IsLog problem budget log
    → ArePassedOver problem log numbers steps
    → NoneBefore problem (numbers ++ n ∷ [])
    → HasTried problem (numbers ++ n ∷ []) count
    → IsUndeniedBefore problem log chosen numbers
    → IsAt problem budget log numbers chosen bits steps n count
closed-at problem budget log numbers chosen bits steps n count stands small sound passed none tried undenied = record {
  stands = stands;
  small = small;
  sound = sound;
  passed = passed;
  none_before = none-up problem numbers (n ∷ []) none;
  tried = tried;
  undenied = undenied;
}

-- what is in the set of a denied clause of denials
denied-each : (set : ℕ → Bool) (vs : List ℕ) (v : ℕ) → is_denied set (map negative vs) ≡ true → is_among vs v ≡ true → set v ≡ true
denied-each set [] v d i = absurd (both_ways false refl i)
denied-each set (w ∷ ws) v d i =
    let parts = and_parts (set w) (is_denied set (map negative ws)) d in
    elim (or_cases (w == v) (is_among ws v) i) [
      | inl same ↦ ap set (sym (eqb-true w v same)) ∙ parts.0
      | inr later ↦ denied-each set ws v parts.1 later
    ]

all-clauses-push : (P : List Lit → Type 0) (log : List Lemma) (lemma : Lemma) → AllByRecursion P (clauses log) → P lemma.lits → AllByRecursion P (clauses (log ++ lemma ∷ []))
all-clauses-push P [] lemma a p = (p, tt)
all-clauses-push P (l ∷ ls) lemma a p = (a.0, all-clauses-push P ls lemma a.1 p)

-- a walk's own lemma doesn't deny what was chosen before its last number
undenied-learnt : (problem : List (List Constraint)) (log : List Lemma) (numbers chosen : List ℕ) (hints : List Hint) → is_distinct chosen ≡ true → IsUndenied problem log (is_among chosen) → IsUndeniedBefore problem (log ++ record { lits = map negative chosen; hints = hints } ∷ []) chosen numbers
undenied-learnt problem log numbers chosen hints once u = λ before v j js c e.
    let less : (w : ℕ) → is_among before w ≡ true → is_among chosen w ≡ true =
    (λ w h. subst (λ (vs : List ℕ). is_among vs w ≡ true) (sym c) (among-before before v w h)) in
    let fewer = undenied-fewer problem log (is_among chosen) (is_among before) less u in
    let (_, gone) = distinct-pop before v (ap is_distinct (sym c) ∙ once) in
    let last : is_among chosen v ≡ true = ap (λ vs. is_among vs v) c ∙ among_push before v in
    record {
      given = fewer.given;
      lemmas = all-clauses-push (λ clause. is_denied (is_among before) clause ≡ false) log (record { lits = map negative chosen; hints = hints }) fewer.lemmas
          (false_from_ne_true (is_denied (is_among before) (map negative chosen)) (λ d. both_ways (is_among before v) gone (denied-each (is_among before) chosen v d last)));
    }

pub last-number : (numbers : List ℕ) → 0 < length numbers → (ks : List ℕ) × (k : ℕ) × (numbers ≡ ks ++ k ∷ [])
last-number [] h = absurd (omega arith)
last-number (k ∷ []) h = ([], k, refl)
last-number (k ∷ j ∷ js) h = let (ks, i, e) = last-number (j ∷ js) (omega arith) in (k ∷ ks, i, ap (λ ns. k ∷ ns) e)

-- where a lemma is wanted above the budget, the search may give up
pub record MayGiveUp (problem : List (List Constraint)) (budget : ℕ) (log : List Lemma) : Type 0 where
  pub spent : length log ≡ budget
  pub first_fails : FirstSucceeds problem → ⊥
  pub wide : IsWide problem budget

pub closed-spent : (problem : List (List Constraint)) (budget : ℕ) (log : List Lemma) (numbers chosen : List ℕ) (bits : List Bool) (n : ℕ) (r : Refutation)
    → 0 < length numbers
    → budget ≤ length log
    → Stands problem bits chosen numbers
    → IsLog problem budget log
    → NoneBefore problem (numbers ++ n ∷ [])
    → HasTried problem (numbers ++ n ∷ []) (length log + length numbers)
    → r.lits ≡ map negative chosen
    → Follows problem log r.lits r.hints
    → MayGiveUp problem budget log
closed-spent problem budget log numbers chosen bits n r some full stands sound none tried lits follows =
    let (ks, k, e) = last-number numbers some in
    let within = sound.within in
    let P : List ℕ → Type 0 = λ ns. NoneBefore problem ns in
    let refutes : Refutes problem log chosen r = (ap (is_denied (is_among chosen)) lits ∙ all-denied chosen chosen (λ v i. i), follows) in
    record {
      spent = omega (arith, full, within);
      first_fails = first-fails problem ks k
          (none-next problem log ks chosen k r (subst P e (none-up problem numbers (n ∷ []) none)) sound.follows (ap (walk problem) (sym e) ∙ stands.walked) refutes);
      wide = tried-wide problem (numbers ++ n ∷ []) (length log + length numbers) budget tried (omega (arith, some, full));
    }

-- where no number is taken, the clause denies mandatory variables alone
pub root-closed : (problem : List (List Constraint)) (log : List Lemma) (numbers chosen : List ℕ) (bits : List Bool) (r : Refutation) → length numbers ≡ 0 → Stands problem bits chosen numbers → r.lits ≡ map negative chosen → Follows problem log r.lits r.hints → Refutes problem log (mandatory problem) r
root-closed problem log [] chosen bits r none stands lits follows =
    let w : Some (mandatory problem) ≡ Some chosen = stands.walked in
    let same : chosen ≡ mandatory problem = cc in
    let P : List ℕ → Type 0 = λ vs. Refutes problem log vs r in
    subst P same (ap (is_denied (is_among chosen)) lits ∙ all-denied chosen chosen (λ v i. i), follows)
root-closed problem log (k ∷ ks) chosen bits r none stands lits follows = absurd (omega (arith, none))

pub set-denial : (problem : List (List Constraint)) (log : List Lemma) (bits cs : List Bool) (chosen : List ℕ) (d : Refutation) → cs ≡ bits → at bits ≡ is_among chosen → IsDenial problem log (at cs) d → IsDenial problem log (is_among chosen) d
set-denial problem log bits cs chosen d e same i =
    let P : (ℕ → Bool) → Type 0 = λ f. IsDenial problem log f d in
    subst P (ap at e ∙ same) i

-- the lemma that was pushed denies the walk
pub record IsLearnt (problem : List (List Constraint)) (budget : ℕ) (log : List Lemma) (numbers chosen : List ℕ) (bits : List Bool) (steps : List (ℕ × ℕ × Refutation)) (n : ℕ) (d : Refutation) : Type 0 where
  pub count : ℕ
  pub here : IsAt problem budget log numbers chosen bits steps n count
  pub enough : length log + length numbers ≤ count + 1
  pub denial : IsDenial problem log (is_among chosen) d

pub closed-learnt : (problem : List (List Constraint)) (budget : ℕ) (log later : List Lemma) (numbers chosen : List ℕ) (bits : List Bool) (steps : List (ℕ × ℕ × Refutation)) (n number : ℕ) (lits : List Lit) (hints : List Hint) (r d : Refutation)
    → Stands problem bits chosen numbers
    → AllByRecursion (λ i. i < VAR_LIMIT) numbers
    → IsLog problem budget log
    → ArePassedOver problem log numbers steps
    → NoneBefore problem (numbers ++ n ∷ [])
    → HasTried problem (numbers ++ n ∷ []) (length log + length numbers)
    → IsUndenied problem log (is_among chosen)
    → r.lits ≡ map negative chosen
    → Follows problem log r.lits r.hints
    → length log < budget
    → lits ≡ r.lits
    → hints ≡ r.hints
    → later ≡ log ++ record { lits = lits; hints = hints } ∷ []
    → number ≡ length log
    → d.lits ≡ lits
    → d.hints ≡ LemmaHint number ∷ []
    → IsLearnt problem budget later numbers chosen bits steps n d
closed-learnt problem budget log later numbers chosen bits steps n number lits hints r d stands small sound passed none tried undenied full follows more same_lits same_hints is numbered d_lits d_hints =
    let lemma : Lemma = record { lits = map negative chosen; hints = r.hints } in
    let wanted : List Lemma = log ++ lemma ∷ [] in
    let P : List Lemma → Type 0 = λ l. IsLearnt problem budget l numbers chosen bits steps n d in
    let parts : later ≡ wanted = is ∙ (ap (λ ls. log ++ record { lits = ls; hints = hints } ∷ []) (same_lits ∙ full) ∙ ap (λ hs. log ++ record { lits = map negative chosen; hints = hs } ∷ []) same_hints) in
    let F : List Lit → Type 0 = λ ls. Follows problem log ls r.hints in
    let next = log-push problem budget log chosen r.hints sound more undenied.given undenied.lemmas (subst F full follows) in
    subst P (sym parts) (record {
      count = length log + length numbers;
      here = closed-at problem budget wanted numbers chosen bits steps n (length log + length numbers) stands small next (passed-grows problem log lemma numbers steps passed) none tried (undenied-learnt problem log numbers chosen r.hints stands.once undenied);
      enough = (let size = length-append log (lemma ∷ []) in omega (arith, size));
      denial = last-denies problem log chosen r.hints number d stands.within stands.once numbered (d_lits ∙ (same_lits ∙ full)) d_hints;
    })

-- the number that was taken back is offered
pub offered-left : (problem : List (List Constraint)) (bits : List Bool) (numbers ks end chosen : List ℕ) (k v : ℕ) → Stands problem bits end numbers → numbers ≡ ks ++ k ∷ [] → end ≡ chosen ++ v ∷ [] → member (waiting problem chosen) k ≡ Some v
offered-left problem bits numbers ks end chosen k v s e c = (left-from problem numbers ks end chosen k v s.walked e c).offered
