-- What a walk keeps as it begins, takes a number and gives one back.
use Rattle.std.proofs.Common.{◌≡◌, ℕ, zero, suc, ◌+◌, ◌<◌, ◌≤◌, Bool, true, false, not, cond, List, [], ◌∷◌, ◌++◌, refl, sym, ap, ◌∙◌, subst, arith, inl, inr, Some, None, slice_get, length, take, drop, get_or, set, append_assoc, add-zero, eqb}
use Rattle.std.specs.List.{list_any, AllByRecursion}
use Rattle.std.proofs.lemmas.Bool.{cases_Bool, and_from, or_parts, or_cases, or_left, or_right, not_from_false, ne_eqb, or_from, cond-true, cond-false}
use Rattle.std.proofs.lemmas.List.{length-append, length-set, length-take, append-nil, take_more}
use Rattle.std.proofs.lemmas.Option.{slice_get_read}
use Rattle.op_constraints.specs.declared.Constraint.{Constraint}
use Rattle.op_constraints.specs.declared.Constraint.TheVariants.{Dependency}
use Rattle.op_constraints.specs.Meets.{constraints_of, constraint_at, at, IsClosed, IsWithin}
use Rattle.op_constraints.specs.Walks.{is_among, is_mandatory, mandatory_from, mandatory, dependencies, agenda, passed, waiting, first_of, member}
use Rattle.op_constraints.specs.Kept.{is_distinct}
use Rattle.op_constraints.specs.WalkInvariant.{rest_of, rest, Stands, Looks}
use Rattle.op_constraints.proofs.Keeping.{all-push}
use Rattle.op_constraints.proofs.Testing.{all-at, none_past}
use Rattle.op_constraints.proofs.WalkLaws.{among_append_left}
use Rattle.op_constraints.proofs.Full.{list_passed, agenda_place}
use Rattle.op_constraints.proofs.Looking.{rest_of-zero}
use Rattle.op_constraints.proofs.Steps.{walk-push, walk-pop, walk-length}
use Rattle.op_constraints.proofs.Standing.{at-add, at-remove, distinct-push, distinct-pop, all-pop, few_distinct}

-- The list that waits

-- it holds nothing chosen
pub passed-none : (f : ℕ → Bool) (lists : List (List ℕ)) (m : List ℕ) (ms : List (List ℕ)) → passed f lists ≡ m ∷ ms → list_any f m ≡ false
passed-none f [] m ms e = absurd (let bad : [] ≡ m ∷ ms = e in cc)
passed-none f (n ∷ lists) m ms e =
    elim (cases_Bool (list_any f n)) [
      | inl here ↦ (let e' = rw here at e in passed-none f lists m ms e')
      | inr other ↦ (let e' = rw other at e in let same : n ≡ m = cc in subst (λ (xs : List ℕ). list_any f xs ≡ false) same other)
    ]

none-at : (f : ℕ → Bool) (m : List ℕ) (k v : ℕ) → list_any f m ≡ false → k < length m → v ≡ get_or m k v → f v ≡ false
none-at f [] k v e h is = absurd (omega arith)
none-at f (w ∷ ws) zero v e h is = let (a, b) = or_parts (f w) (list_any f ws) e in ap f is ∙ a
none-at f (w ∷ ws) (suc k) v e h is = let (a, b) = or_parts (f w) (list_any f ws) e in none-at f ws k v b (omega arith) is

-- and variables that are there
pub within-place : (n : ℕ) (cs : List Constraint) (k : ℕ) (c : Constraint) → AllByRecursion (λ c. IsWithin n c) cs → slice_get cs k ≡ Some c → IsWithin n c
within-place n [] k c h at = absurd (let bad : None ≡ Some c = at in cc)
within-place n (d ∷ ds) zero c h at = let same : d ≡ c = cc in subst (λ (x : Constraint). IsWithin n x) same h.0
within-place n (d ∷ ds) (suc k) c h at = within-place n ds k c h.1 at

dependency-within : (problem : List (List Constraint)) (v k : ℕ) (m : List ℕ) → IsClosed problem → constraint_at problem v k ≡ Some (Dependency m) → AllByRecursion (λ w. w < length problem) m
dependency-within problem v k m h at =
    let n = length problem in
    let there : v < n = none_past problem v k (Dependency m) at in
    within-place n (constraints_of problem v) k (Dependency m) (all-at (λ cs. AllByRecursion (λ c. IsWithin n c) cs) problem v [] there h) at

pub waiting-within : (problem : List (List Constraint)) (chosen m : List ℕ) (ms : List (List ℕ)) → IsClosed problem → waiting problem chosen ≡ m ∷ ms → AllByRecursion (λ v. v < length problem) m
waiting-within problem chosen m ms h w =
    let (v, k, is, at) = agenda_place problem chosen m (list_passed (is_among chosen) (agenda problem chosen) m ms w) in
    dependency-within problem v k m h at

-- a number below the length of the choice is one of the first list
pub below-first : (lists : List (List ℕ)) (m : List ℕ) (ms : List (List ℕ)) (number : ℕ) → lists ≡ m ∷ ms → number < length (first_of lists) → number < length m
below-first lists m ms number e h = subst (λ n. number < n) (ap (λ (ls : List (List ℕ)). length (first_of ls)) e) h

-- The variable that is picked is there and wasn't chosen, so there is room for it

pub picked-within : (problem : List (List Constraint)) (chosen m : List ℕ) (ms : List (List ℕ)) (k v : ℕ) → IsClosed problem → waiting problem chosen ≡ m ∷ ms → k < length m → v ≡ get_or m k v → v < length problem
picked-within problem chosen m ms k v h w l is =
    let less : get_or m k v < length problem = all-at (λ u. u < length problem) m k v l (waiting-within problem chosen m ms h w) in
    omega (arith, less, is)

pub picked-new : (problem : List (List Constraint)) (chosen m : List ℕ) (ms : List (List ℕ)) (k v : ℕ) → waiting problem chosen ≡ m ∷ ms → k < length m → v ≡ get_or m k v → is_among chosen v ≡ false
picked-new problem chosen m ms k v w l is = none-at (is_among chosen) m k v (passed-none (is_among chosen) (agenda problem chosen) m ms w) l is

pub room-for_one : (problem : List (List Constraint)) (bits : List Bool) (chosen numbers m : List ℕ) (ms : List (List ℕ)) (k v : ℕ) → Stands problem bits chosen numbers → waiting problem chosen ≡ m ∷ ms → k < length m → v ≡ get_or m k v → (length chosen < length problem) × (length numbers < length problem)
room-for_one problem bits chosen numbers m ms k v s w l is =
    let few = few_distinct (length problem) (chosen ++ v ∷ []) (distinct-push chosen v s.once (picked-new problem chosen m ms k v w l is))
    (all-push (λ u. u < length problem) chosen v s.within (picked-within problem chosen m ms k v s.closed w l is)) in
    let one = length-append chosen (v ∷ []) in
    let size = walk-length problem numbers chosen s.walked in
    (omega (arith, few, one), omega (arith, few, one, size))

-- A number more

pub stands-take : (problem : List (List Constraint)) (bits : List Bool) (chosen numbers m : List ℕ) (ms : List (List ℕ)) (k v : ℕ) → Stands problem bits chosen numbers → waiting problem chosen ≡ m ∷ ms → k < length m → v ≡ get_or m k v → Stands problem (set bits v true) (chosen ++ v ∷ []) (numbers ++ k ∷ [])
stands-take problem bits chosen numbers m ms k v s w l is =
    let there = picked-within problem chosen m ms k v s.closed w l is in
    let new = picked-new problem chosen m ms k v w l is in
    record {
      closed = s.closed;
      walked = walk-push problem numbers chosen k v s.walked (ap (λ (lists : List (List ℕ)). member lists k) w ∙ slice_get_read m (length m) k v refl l is);
      size = length-set bits v true ∙ s.size;
      same = at-add bits chosen v (let size = s.size in omega (arith, size, there)) s.same;
      within = all-push (λ u. u < length problem) chosen v s.within there;
      once = distinct-push chosen v s.once new;
    }

any-more : (f g : ℕ → Bool) (ms : List ℕ) → ((v : ℕ) → f v ≡ true → g v ≡ true) → list_any f ms ≡ true → list_any g ms ≡ true
any-more f g [] h e = e
any-more f g (m ∷ ms) h e =
    elim (or_cases (f m) (list_any f ms) e) [
      | inl here ↦ or_left (g m) (list_any g ms) (h m here)
      | inr later ↦ or_right (g m) (list_any g ms) (any-more f g ms h later)
    ]

-- what is passed stays passed as more is chosen
pub passed-twice : (f g : ℕ → Bool) (xs ys : List (List ℕ)) → ((v : ℕ) → f v ≡ true → g v ≡ true) → passed g (passed f xs ++ ys) ≡ passed g (xs ++ ys)
passed-twice f g [] ys h = refl
passed-twice f g (x ∷ xs) ys h =
    elim (cases_Bool (list_any f x)) [
      | inl here ↦
          ap (λ zs. passed g (zs ++ ys)) (cond-true (list_any f x) (passed f xs) (x ∷ xs) here)
          ∙ (passed-twice f g xs ys h
          ∙ sym (cond-true (list_any g x) (passed g (xs ++ ys)) (x ∷ (xs ++ ys)) (any-more f g x h here)))
      | inr other ↦ ap (λ zs. passed g (zs ++ ys)) (cond-false (list_any f x) (passed f xs) (x ∷ xs) other)
    ]

pub agenda-push : (problem : List (List Constraint)) (vs : List ℕ) (v : ℕ) → agenda problem (vs ++ v ∷ []) ≡ agenda problem vs ++ dependencies (constraints_of problem v)
agenda-push problem [] v = append-nil (dependencies (constraints_of problem v))
agenda-push problem (u ∷ us) v =
    ap (λ zs. dependencies (constraints_of problem u) ++ zs) (agenda-push problem us v)
    ∙ sym (append_assoc (dependencies (constraints_of problem u)) (agenda problem us) (dependencies (constraints_of problem v)))

rest_of-push : (problem : List (List Constraint)) (vs : List ℕ) (v place : ℕ) → (vs ≡ [] → place ≡ 0) → rest_of problem (vs ++ v ∷ []) place ≡ rest_of problem vs place ++ dependencies (constraints_of problem v)
rest_of-push problem [] v place h =
    append-nil (dependencies (drop place (constraints_of problem v))) ∙ ap (λ i. dependencies (drop i (constraints_of problem v))) (h refl)
rest_of-push problem (u ∷ us) v place h =
    ap (λ zs. dependencies (drop place (constraints_of problem u)) ++ zs) (agenda-push problem us v)
    ∙ sym (append_assoc (dependencies (drop place (constraints_of problem u))) (agenda problem us) (dependencies (constraints_of problem v)))

drop-push : (index : ℕ) (vs : List ℕ) (v : ℕ) → index ≤ length vs → drop index (vs ++ v ∷ []) ≡ drop index vs ++ v ∷ []
drop-push zero vs v h = refl
drop-push (suc i) [] v h = absurd (omega arith)
drop-push (suc i) (u ∷ us) v h = drop-push i us v (omega arith)

drop-none : (index : ℕ) (vs : List ℕ) → index ≤ length vs → drop index vs ≡ [] → index ≡ length vs
drop-none zero [] h e = refl
drop-none zero (u ∷ us) h e = absurd (let bad : (u ∷ us) ≡ [] = e in cc)
drop-none (suc i) [] h e = absurd (omega arith)
drop-none (suc i) (u ∷ us) h e = let rest = drop-none i us (omega arith) e in omega (arith, rest)

pub looks-take : (problem : List (List Constraint)) (chosen : List ℕ) (index place v : ℕ) → Looks problem chosen index place → Looks problem (chosen ++ v ∷ []) index place
looks-take problem chosen index place v k =
    let one = length-append chosen (v ∷ []) in
    let reached : index ≤ length chosen = k.reached in
    let f : ℕ → Bool = is_among chosen in
    let g : ℕ → Bool = is_among (chosen ++ v ∷ []) in
    let more : (u : ℕ) → f u ≡ true → g u ≡ true = λ u e. among_append_left chosen (v ∷ []) u e in
    let last = dependencies (constraints_of problem v) in
    record {
      reached = omega (arith, reached, one);
      ended = λ e. absurd (omega (arith, reached, one, e));
      looked =
          ap (passed g) (agenda-push problem chosen v)
          ∙ (sym (passed-twice f g (agenda problem chosen) last more)
          ∙ (ap (λ zs. passed g (zs ++ last)) k.looked
          ∙ (passed-twice f g (rest problem chosen index place) last more
          ∙ ap (passed g) (sym (ap (λ vs. rest_of problem vs place) (drop-push index chosen v reached)
          ∙ rest_of-push problem (drop index chosen) v place (λ e. k.ended (drop-none index chosen reached e)))))));
    }

-- A number less

first_part : (xs ys : List ℕ) (x y : ℕ) → xs ++ x ∷ [] ≡ ys ++ y ∷ [] → xs ≡ ys
first_part [] [] x y e = refl
first_part [] (w ∷ ws) x y e = absurd (omega (arith, ap length e, length-append ws (y ∷ [])))
first_part (v ∷ vs) [] x y e = absurd (omega (arith, ap length e, length-append vs (x ∷ [])))
first_part (v ∷ vs) (w ∷ ws) x y e =
    let head : v ≡ w = cc in
    let rest : vs ++ x ∷ [] ≡ ws ++ y ∷ [] = cc in
    let tail = first_part vs ws x y rest in cc

pub stands-back : (problem : List (List Constraint)) (bits : List Bool) (chosen numbers : List ℕ) (k v : ℕ) (before : List ℕ) → Stands problem bits chosen (numbers ++ k ∷ []) → chosen ≡ before ++ v ∷ [] → Stands problem (set bits v false) before numbers
stands-back problem bits chosen numbers k v before s e =
    let (stood, w, is, at', last) = walk-pop problem numbers chosen k s.walked in
    let same : stood ≡ before = first_part stood before w v (sym last ∙ e) in
    let (once, gone) = distinct-pop before v (ap is_distinct (sym e) ∙ s.once) in
    let P : List ℕ → Type 0 = λ vs. AllByRecursion (λ u. u < length problem) vs in
    let (within, there) = all-pop (λ u. u < length problem) before v (subst P e s.within) in
    record {
      closed = s.closed;
      walked = is ∙ ap Some same;
      size = length-set bits v false ∙ s.size;
      same = at-remove bits before v (let size = s.size in let less : v < length problem = there in omega (arith, size, less)) gone (s.same ∙ ap is_among e);
      within = within;
      once = once;
    }

-- a walk with a number has chosen something
pub some_chosen : (problem : List (List Constraint)) (bits : List Bool) (chosen numbers : List ℕ) (k : ℕ) → Stands problem bits chosen (numbers ++ k ∷ []) → length chosen ≡ 0 → ⊥
some_chosen problem bits chosen numbers k s e =
    let size = walk-length problem (numbers ++ k ∷ []) chosen s.walked in
    let one = length-append numbers (k ∷ []) in
    omega (arith, size, one, e)

-- No number yet

mandatory-within : (n : ℕ) (css : List (List Constraint)) (m : ℕ) → n + length css ≤ m → AllByRecursion (λ v. v < m) (mandatory_from n css)
mandatory-within n [] m h = tt
mandatory-within n (cs ∷ css) m h =
    let later = mandatory-within (n + 1) css m (omega arith) in
    elim (cases_Bool (list_any is_mandatory cs)) [
      | inl here ↦ rw here (omega arith, later)
      | inr other ↦ rw other later
    ]

before-mandatory : (v n : ℕ) (css : List (List Constraint)) → v < n → is_among (mandatory_from n css) v ≡ false
before-mandatory v n [] h = refl
before-mandatory v n (cs ∷ css) h =
    let later = before-mandatory v (n + 1) css (omega arith) in
    elim (cases_Bool (list_any is_mandatory cs)) [
      | inl here ↦ rw here (or_from (eqb n v) (is_among (mandatory_from (n + 1) css) v) (ne_eqb n v (λ e. absurd (omega arith))) later)
      | inr other ↦ rw other later
    ]

pub mandatory-once : (n : ℕ) (css : List (List Constraint)) → is_distinct (mandatory_from n css) ≡ true
mandatory-once n [] = refl
mandatory-once n (cs ∷ css) =
    let later = mandatory-once (n + 1) css in
    elim (cases_Bool (list_any is_mandatory cs)) [
      | inl here ↦ rw here (and_from (not (is_among (mandatory_from (n + 1) css) n)) (is_distinct (mandatory_from (n + 1) css))
          (not_from_false (is_among (mandatory_from (n + 1) css) n) (before-mandatory n (n + 1) css (omega arith))) later)
      | inr other ↦ rw other later
    ]

pub mandatory-there : (problem : List (List Constraint)) → AllByRecursion (λ v. v < length problem) (mandatory problem)
mandatory-there problem = mandatory-within 0 problem (length problem) (omega arith)

mandatory_from-push : (n : ℕ) (css : List (List Constraint)) (cs : List Constraint) → mandatory_from n (css ++ cs ∷ []) ≡ mandatory_from n css ++ cond (list_any is_mandatory cs) ((n + length css) ∷ []) []
mandatory_from-push n [] cs = rw (add-zero n) refl
mandatory_from-push n (ds ∷ css) cs =
    let later = mandatory_from-push (n + 1) css cs in
    let sum : (n + 1) + length css ≡ n + suc (length css) = omega arith in
    let last : mandatory_from (n + 1) (css ++ cs ∷ []) ≡ mandatory_from (n + 1) css ++ cond (list_any is_mandatory cs) ((n + suc (length css)) ∷ []) [] =
    later ∙ ap (λ v. mandatory_from (n + 1) css ++ cond (list_any is_mandatory cs) (v ∷ []) []) sum in
    elim (cases_Bool (list_any is_mandatory ds)) [
      | inl here ↦ rw here (ap (λ vs. n ∷ vs) last)
      | inr other ↦ rw other last
    ]

pub mandatory_more : (problem : List (List Constraint)) (i : ℕ) (cs : List Constraint) (b : Bool) → i < length problem → cs ≡ get_or problem i cs → list_any is_mandatory cs ≡ b → mandatory (take (i + 1) problem) ≡ mandatory (take i problem) ++ cond b (i ∷ []) []
mandatory_more problem i cs b h is e =
    ap mandatory (take_more problem i cs h ∙ ap (λ ds. take i problem ++ ds ∷ []) (sym is))
    ∙ (mandatory_from-push 0 (take i problem) cs
    ∙ (ap (λ v. mandatory (take i problem) ++ cond (list_any is_mandatory cs) (v ∷ []) []) (let size = length-take i problem in omega arith)
    ∙ ap (λ t. mandatory (take i problem) ++ cond t (i ∷ []) []) e))

pub stands-begun : (problem : List (List Constraint)) (bits : List Bool) (chosen : List ℕ) → IsClosed problem → chosen ≡ mandatory problem → length bits ≡ length problem → at bits ≡ is_among chosen → Stands problem bits chosen []
stands-begun problem bits chosen closed e size same =
    let P : List ℕ → Type 0 = λ vs. AllByRecursion (λ v. v < length problem) vs in
    record {
      closed = closed;
      walked = ap Some (sym e);
      size = size;
      same = same;
      within = subst P (sym e) (mandatory-there problem);
      once = ap is_distinct e ∙ mandatory-once 0 problem;
    }

pub looks-begun : (problem : List (List Constraint)) (chosen : List ℕ) → Looks problem chosen 0 0
looks-begun problem chosen = record {
  reached = omega arith;
  ended = λ _. refl;
  looked = ap (passed (is_among chosen)) (sym (rest_of-zero problem chosen));
}
