-- What stays so with a lemma more, and what a lemma doesn't contain.
use Rattle.std.proofs.Common.{◌≡◌, ℕ, zero, suc, ◌==◌, Bool, true, false, not, cond, ◌&&◌, ◌||◌, List, [], ◌∷◌, ◌++◌, map, refl, sym, ap, ◌∙◌, subst, inl, inr, ◌⊎◌, Option, Some, None, slice_get}
use Rattle.std.specs.Option.{option_and_then, ok_or}
use Rattle.std.specs.List.{list_any, list_all, filter, AllByRecursion}
use Rattle.std.proofs.lemmas.Bool.{cases_Bool, or_cases, or_left, or_right, or_parts, and_parts, and_from, both_ways, false_from_ne_true, cond-false, not-true}
use mathlib.Core.Bool.{beq}
use Rattle.op_constraints.specs.declared.Lit.{Lit}
use Rattle.op_constraints.specs.declared.Constraint.{Constraint}
use Rattle.op_constraints.specs.Meets.{at}
use Rattle.op_constraints.specs.Walks.{is_among}
use Rattle.op_constraints.specs.Kept.{is_distinct}
use Rattle.derivations.specs.declared.Hint.TheVariants.{Lemma as LemmaHint, Given}
use Rattle.derivations.specs.declared.LogCause.TheVariants.{NoSuchHint, BadGiven}
use Rattle.derivations.specs.Clauses.{denial, is_same, is_in, given_clause}
use Rattle.derivations.specs.Follows.{left, sole, forced, is_nothing}
use Rattle.derivations.specs.Accepted.{contains_clause, ContainsNoGiven, is_tautology}
use Rattle.derivations.proofs.Grows.{ok_some, clause_of-grows}
use Rattle.clause_trail.specs.declared.Cause.{Cause}
use Rattle.clause_trail.specs.declared.Cause.TheVariants.{Assumed, Decided, Forced}
use Rattle.clause_trail.specs.declared.Entry.{Entry}
use Rattle.clause_trail.specs.Trails.{literals, IsUnknown, IsOrdered, IsSettled}
use Rattle.clause_trail.specs.Scans.{AllSettled}
use Rattle.clause_trail.proofs.Literals.{same_lit, same_itself, left-but_one, sole_same, none_same, forced_others, nothing_others}
use Rattle.clause_analysis.specs.Caused.{is_decided, Stands, AllStand}
use Rattle.clause_analysis.specs.Needs.{needed_of, begins}
use Rattle.clause_analysis.proofs.Forcing.{denial_twice, denied_unknown, each_in}

none_from : (o : Option Lit) → ((l : Lit) → o ≡ Some l → ⊥) → o ≡ None
none_from None h = refl
none_from (Some l) h = absurd (h l refl)

-- a clause with two literals that aren't false is settled
two_left : (trail clause : List Lit) (k m : Lit) → is_in clause k ≡ true → is_in clause m ≡ true → is_in trail (denial k) ≡ false → is_in trail (denial m) ≡ false → is_same k m ≡ false → IsSettled trail clause
two_left trail clause k m hk hm uk um apart = record {
  unfalse = false_from_ne_true (is_nothing (left trail clause)) (λ e.
      both_ways (is_in trail (denial k)) uk (each_in (λ j. is_in trail (denial j)) clause k (nothing_others trail clause e) hk));
  quiet = none_from (forced trail clause) (λ l f.
      let all = forced_others trail clause l f in
      let a : k ≡ l = same_lit k l (elim (or_cases (is_same k l) (is_in trail (denial k)) (each_in (λ j. is_same j l || is_in trail (denial j)) clause k all hk)) [
        | inl same ↦ same
        | inr known ↦ absurd (both_ways (is_in trail (denial k)) uk known)
      ]) in
      let b : m ≡ l = same_lit m l (elim (or_cases (is_same m l) (is_in trail (denial m)) (each_in (λ j. is_same j l || is_in trail (denial j)) clause m all hm)) [
        | inl same ↦ same
        | inr known ↦ absurd (both_ways (is_in trail (denial m)) um known)
      ]) in
      both_ways (is_same k m) apart (subst (λ (j : Lit). is_same k j ≡ true) (a ∙ sym b) (same_itself k)));
}

get_last : (xs : List (List Lit)) (y : List Lit) (k : ℕ) (x : List Lit) → slice_get (xs ++ y ∷ []) k ≡ Some x → (slice_get xs k ≡ Some x) ⊎ (y ≡ x)
get_last [] y zero x e = inr (let is : y ≡ x = cc in is)
get_last [] y (suc k) x e = absurd (let bad : None ≡ Some x = e in cc)
get_last (z ∷ zs) y zero x e = inl e
get_last (z ∷ zs) y (suc k) x e = get_last zs y k x e

settled_longer : (problem : List (List Constraint)) (earlier : List (List Lit)) (clause trail : List Lit) → AllSettled problem earlier trail → IsSettled trail clause → AllSettled problem (earlier ++ clause ∷ []) trail
settled_longer problem earlier clause trail a s (LemmaHint number) c e =
    elim (get_last earlier clause number c (ok_some (slice_get (earlier ++ clause ∷ []) number) NoSuchHint c e)) [
      | inl old ↦ a (LemmaHint number) c (ap (λ o. ok_or o NoSuchHint) old)
      | inr same ↦ subst (λ (ls : List Lit). IsSettled trail ls) same s
    ]
settled_longer problem earlier clause trail a s (Given v place members) c e = a (Given v place members) c e

stands_longer : (problem : List (List Constraint)) (earlier : List (List Lit)) (clause : List Lit) (older : List Entry) (l : Lit) (cause : Cause) → (is_decided cause ≡ true → IsSettled (literals older) clause) → Stands problem earlier older l cause → Stands problem (earlier ++ clause ∷ []) older l cause
stands_longer problem earlier clause older l Assumed s h = h
stands_longer problem earlier clause older l Decided s h = settled_longer problem earlier clause (literals older) h (s refl)
stands_longer problem earlier clause older l (Forced reason) s h = (clause_of-grows problem earlier (clause ∷ []) reason.hint reason.lits h.0, h.1)

older_unknown : (e : Entry) (es : List Entry) (l : Lit) → IsUnknown (literals (e ∷ es)) l → IsUnknown (literals es) l
older_unknown e es l u = (
  (let parts = or_parts (is_same e.lit l) (is_in (literals es) l) u.0 in parts.1),
  (let parts = or_parts (is_same e.lit (denial l)) (is_in (literals es) (denial l)) u.1 in parts.1),
)

-- of two literals of the clause the entries say nothing
all_longer : (problem : List (List Constraint)) (earlier : List (List Lit)) (clause : List Lit) (k m : Lit) (es : List Entry) → is_in clause k ≡ true → is_in clause m ≡ true → is_same k m ≡ false → IsUnknown (literals es) k → IsUnknown (literals es) m → AllStand problem earlier es → AllStand problem (earlier ++ clause ∷ []) es
all_longer problem earlier clause k m [] hk hm apart uk um a = tt
all_longer problem earlier clause k m (e ∷ es) hk hm apart uk um a =
    let vk = older_unknown e es k uk in
    let vm = older_unknown e es m um in (
      stands_longer problem earlier clause es e.lit e.cause (λ _. two_left (literals es) clause k m hk hm vk.1 vm.1 apart) a.0,
      all_longer problem earlier clause k m es hk hm apart vk vm a.1,
    )

other_than : (e : Entry) (es : List Entry) (k : Lit) → IsUnknown (literals (e ∷ es)) k → is_same k (denial e.lit) ≡ false
other_than e es k u =
    false_from_ne_true (is_same k (denial e.lit)) (λ same.
    let is : k ≡ denial e.lit = same_lit k (denial e.lit) same in
    let back : denial k ≡ e.lit = ap denial is ∙ denial_twice e.lit in
    let parts = or_parts (is_same e.lit (denial k)) (is_in (literals es) (denial k)) u.1 in
    both_ways (is_same e.lit (denial k)) parts.0 (subst (λ (l : Lit). is_same e.lit l ≡ true) (sym back) (same_itself e.lit)))

-- entries that begin in a level in which something is needed
pub staying : (problem : List (List Constraint)) (earlier : List (List Lit)) (clause : List Lit) (size : ℕ) (needed : List Bool) (k : Lit) (es : List Entry)
    → is_in clause k ≡ true
    → ((m : Lit) → is_in (literals (needed_of needed es)) m ≡ true → is_in clause (denial m) ≡ true)
    → IsOrdered size es
    → IsUnknown (literals es) k
    → begins needed es ≡ true
    → AllStand problem earlier es
    → AllStand problem (earlier ++ clause ∷ []) es
staying problem earlier clause size needed k [] hk f o u b a = tt
staying problem earlier clause size needed k (e ∷ es) hk f o u b a =
    let v = older_unknown e es k u in
    elim (cases_Bool (at needed e.lit.var)) [
      | inl here ↦
          (let f' = rw here at f in
          let m : Lit = denial e.lit in
          let hm : is_in clause m ≡ true = f' e.lit (or_left (is_same e.lit e.lit) (is_in (literals (needed_of needed es)) e.lit) (same_itself e.lit)) in
          let w : IsUnknown (literals es) m = denied_unknown (literals es) e.lit o.1 in
          let apart = other_than e es k u in (
            stands_longer problem earlier clause es e.lit e.cause (λ _. two_left (literals es) clause k m hk hm v.1 w.1 apart) a.0,
            all_longer problem earlier clause k m es hk hm apart v w a.1,
          ))
      | inr other ↦
          (let f' = rw other at f in
          let b' = rw other at b in
          let parts = and_parts (not (is_decided e.cause)) (begins needed es) b' in (
            stands_longer problem earlier clause es e.lit e.cause (λ d. absurd (both_ways (is_decided e.cause) (not-true (is_decided e.cause) parts.0) d)) a.0,
            staying problem earlier clause size needed k es hk f' o.2 v parts.1 a.1,
          ))
    ]

contained : (part learnt clause : List Lit) (l : Lit) → list_all (λ k. is_same k l || is_in part (denial k)) learnt ≡ true → contains_clause learnt clause ≡ true → list_all (λ k. is_same k l || is_in part (denial k)) clause ≡ true
contained part learnt [] l f c = refl
contained part learnt (k ∷ ks) l f c =
    let parts = and_parts (is_in learnt k) (contains_clause learnt ks) c in
    and_from (is_same k l || is_in part (denial k)) (list_all (λ k. is_same k l || is_in part (denial k)) ks) (each_in (λ k. is_same k l || is_in part (denial k)) learnt k f parts.0) (contained part learnt ks l f parts.1)

-- a clause that is false over the trail but for one literal of which it says nothing contains no settled clause
pub contains_none : (trail learnt clause : List Lit) (l : Lit) → list_all (λ k. is_same k l || is_in trail (denial k)) learnt ≡ true → IsUnknown trail l → IsSettled trail clause → contains_clause learnt clause ≡ false
contains_none trail learnt clause l f u s =
    false_from_ne_true (contains_clause learnt clause) (λ c.
    let lefts : left trail clause ≡ filter (λ k. is_same k l) clause = left-but_one trail clause l u.1 (contained trail learnt clause l f c) in
    elim (cases_Bool (is_in clause l)) [
      | inl here ↦
          (let one : forced trail clause ≡ Some l =
          ap (λ ls. option_and_then (λ m. cond (is_in trail m) None (Some m)) (sole ls)) lefts
          ∙ (ap (λ o. option_and_then (λ m. cond (is_in trail m) None (Some m)) o) (sole_same clause l here)
          ∙ cond-false (is_in trail l) None (Some l) u.0) in
          let bad : None ≡ Some l = sym s.quiet ∙ one in cc)
      | inr absent ↦ both_ways (is_nothing (left trail clause)) s.unfalse (ap is_nothing lefts ∙ none_same clause l absent)
    ])

all_from : (P : List Lit → Type 0) (xs : List (List Lit)) → ((i : ℕ) (x : List Lit) → slice_get xs i ≡ Some x → P x) → AllByRecursion P xs
all_from P [] f = tt
all_from P (x ∷ xs) f = (f zero x refl, all_from P xs (λ i y e. f (suc i) y e))

pub no_given : (problem : List (List Constraint)) (earlier : List (List Lit)) (trail learnt : List Lit) (l : Lit) → list_all (λ k. is_same k l || is_in trail (denial k)) learnt ≡ true → IsUnknown trail l → AllSettled problem earlier trail → ContainsNoGiven problem learnt
no_given problem earlier trail learnt l f u a v place c named clause there given =
    contains_none trail learnt clause l f u
    (a (Given v place named) clause (ap (λ o. ok_or o BadGiven) (ap (λ o. option_and_then (λ k. given_clause v k named) o) there ∙ given)))

pub no_earlier : (problem : List (List Constraint)) (earlier : List (List Lit)) (trail learnt : List Lit) (l : Lit) → list_all (λ k. is_same k l || is_in trail (denial k)) learnt ≡ true → IsUnknown trail l → AllSettled problem earlier trail → AllByRecursion (λ clause. contains_clause learnt clause ≡ false) earlier
no_earlier problem earlier trail learnt l f u a =
    all_from (λ clause. contains_clause learnt clause ≡ false) earlier (λ i x e. contains_none trail learnt x l f u (a (LemmaHint i) x (ap (λ o. ok_or o NoSuchHint) e)))

among_var : (ls : List Lit) (l : Lit) → is_in ls l ≡ true → is_among (map (λ k. k.var) ls) l.var ≡ true
among_var [] l i = absurd (let bad : false ≡ true = i in cc)
among_var (k ∷ ks) l i =
    elim (or_cases (is_same k l) (is_in ks l) i) [
      | inl same ↦ (let parts = and_parts (k.var == l.var) (beq k.positive l.positive) same in or_left (k.var == l.var) (is_among (map (λ k. k.var) ks) l.var) parts.0)
      | inr rest ↦ or_right (k.var == l.var) (is_among (map (λ k. k.var) ks) l.var) (among_var ks l rest)
    ]

opposite : (a p : Bool) → (a && beq p (not p)) ≡ false
opposite false p = refl
opposite true true = refl
opposite true false = refl

later : (ks ls : List Lit) → list_any (λ l. is_in ls (denial l)) ks ≡ true → (l : Lit) × (is_in ks l ≡ true) × (is_in ls (denial l) ≡ true)
later [] ls e = absurd (let bad : false ≡ true = e in cc)
later (k ∷ ks) ls e =
    elim (or_cases (is_in ls (denial k)) (list_any (λ l. is_in ls (denial l)) ks) e) [
      | inl here ↦ (k, or_left (is_same k k) (is_in ks k) (same_itself k), here)
      | inr rest ↦ (let (l, i, d) = later ks ls rest in (l, or_right (is_same k l) (is_in ks l) i, d))
    ]

-- a clause doesn't have a literal and its denial where each variable is there once
both_there : (ls : List Lit) (l : Lit) → is_distinct (map (λ k. k.var) ls) ≡ true → is_in ls l ≡ true → is_in ls (denial l) ≡ true → ⊥
both_there [] l d i j = let bad : false ≡ true = i in cc
both_there (k ∷ ks) l d i j =
    let vs : List ℕ = map (λ k. k.var) ks in
    let parts = and_parts (not (is_among vs k.var)) (is_distinct vs) d in
    let absent = not-true (is_among vs k.var) parts.0 in
    elim (or_cases (is_same k l) (is_in ks l) i) [
      | inl here ↦
          elim (or_cases (is_same k (denial l)) (is_in ks (denial l)) j) [
            | inl there ↦
                (let is : k ≡ l = same_lit k l here in
                both_ways (is_same k (denial k)) (opposite (k.var == k.var) k.positive) (subst (λ (m : Lit). is_same k (denial m) ≡ true) (sym is) there))
            | inr rest ↦
                (let is : k ≡ l = same_lit k l here in
                both_ways (is_among vs k.var) absent (subst (λ (m : Lit). is_among vs m.var ≡ true) (sym is) (among_var ks (denial l) rest)))
          ]
      | inr rest ↦
          elim (or_cases (is_same k (denial l)) (is_in ks (denial l)) j) [
            | inl there ↦
                (let is : k ≡ denial l = same_lit k (denial l) there in
                both_ways (is_among vs k.var) absent (subst (λ (m : Lit). is_among vs m.var ≡ true) (sym is) (among_var ks l rest)))
            | inr more ↦ both_there ks l parts.1 rest more
          ]
    ]

pub no_tautology : (ls : List Lit) → is_distinct (map (λ k. k.var) ls) ≡ true → is_tautology ls ≡ false
no_tautology ls d = false_from_ne_true (is_tautology ls) (λ e. let (l, i, j) = later ls ls e in both_there ls l d i j)
