-- Lemmas that come to a log.
use Rattle.std.proofs.Common.{◌≡◌, ℕ, zero, suc, ◌<◌, ◌==◌, Bool, true, false, List, [], ◌∷◌, ◌++◌, length, map, refl, sym, ap, ◌∙◌, subst, arith, Option, Some, None, append_assoc, get_or, slice_get, IsTrue}
use Rattle.std.specs.Option.{option_map, option_or, ok_or}
use Rattle.std.specs.List.{list_any, AllByRecursion}
use Rattle.std.proofs.lemmas.Bool.{and_parts, and_from, or_left, or_right, or_from, eq-eqb}
use Rattle.std.proofs.lemmas.List.{append-nil, length-append}
use Rattle.op_constraints.specs.declared.Lit.{Lit}
use Rattle.op_constraints.specs.declared.Constraint.{Constraint}
use Rattle.op_constraints.specs.Walks.{is_among}
use Rattle.op_constraints.specs.Kept.{is_distinct}
use Rattle.derivations.specs.declared.Hint.{Hint}
use Rattle.derivations.specs.declared.Hint.TheVariants.{Lemma as LemmaHint}
use Rattle.derivations.specs.declared.Lemma.{Lemma}
use Rattle.derivations.specs.declared.Refutation.{Refutation}
use Rattle.derivations.specs.declared.LogCause.{LogCause}
use Rattle.derivations.specs.declared.LogCause.TheVariants.{NoSuchHint}
use Rattle.derivations.specs.declared.LogFault.{LogFault}
use Rattle.derivations.specs.Clauses.{negative, denial, is_same, is_in}
use Rattle.derivations.specs.Follows.{clauses, is_clause, fault_of, log_fault, Follows, LogFollows}
use Rattle.derivations.specs.Accepted.{contains_clause, ContainsNoGiven, is_tautology, IsIrredundant}
use Rattle.derivations.proofs.Sound.{or_none}
use Rattle.derivation_check.proofs.LogSteps.{log_within}
use Rattle.preference_search.specs.Denials.{is_denied, IsDenial, AllowsSet, NoLemmaDenies}
use Rattle.preference_search.specs.Searching.{IsLog}
use Rattle.preference_search.proofs.Denying.{same_itself, in_negatives, contains-no_given, contains-no_lemma, clauses-push}
use Rattle.preference_search.proofs.Hints.{negatives-clause}

fault-push : (problem : List (List Constraint)) (earlier : List (List Lit)) (log : List Lemma) (lemma : Lemma) → log_fault problem earlier log ≡ None → fault_of problem (earlier ++ clauses log) lemma.lits lemma.hints ≡ None → log_fault problem earlier (log ++ lemma ∷ []) ≡ None
fault-push problem earlier [] lemma e f =
    let name : LogCause → LogFault = λ cause. record { number = length earlier; cause = cause } in
    ap (λ o. option_or (option_map name o) None) (ap (λ cs. fault_of problem cs lemma.lits lemma.hints) (sym (append-nil earlier)) ∙ f)
fault-push problem earlier (l ∷ ls) lemma e f =
    let name : LogCause → LogFault = λ cause. record { number = length earlier; cause = cause } in
    let here : Option LogFault = option_map name (fault_of problem earlier l.lits l.hints) in
    let parts = or_none here (log_fault problem (earlier ++ l.lits ∷ []) ls) e in
    let rest = fault-push problem (earlier ++ l.lits ∷ []) ls lemma parts.1
    (ap (λ cs. fault_of problem cs lemma.lits lemma.hints) (append_assoc earlier (l.lits ∷ []) (clauses ls)) ∙ f) in
    ap (λ o. option_or o (log_fault problem (earlier ++ l.lits ∷ []) (ls ++ lemma ∷ []))) parts.0 ∙ rest

irredundant-push : (problem : List (List Constraint)) (earlier cs : List (List Lit)) (lits : List Lit) → IsIrredundant problem earlier cs → is_tautology lits ≡ false → ContainsNoGiven problem lits → AllByRecursion (λ clause. contains_clause lits clause ≡ false) (earlier ++ cs) → IsIrredundant problem earlier (cs ++ lits ∷ [])
irredundant-push problem earlier [] lits i t g a =
    let P : List (List Lit) → Type 0 = λ ds. AllByRecursion (λ clause. contains_clause lits clause ≡ false) ds in
    (t, g, subst P (append-nil earlier) a, tt)
irredundant-push problem earlier (c ∷ cs) lits i t g a =
    let P : List (List Lit) → Type 0 = λ ds. AllByRecursion (λ clause. contains_clause lits clause ≡ false) ds in
    (i.0, i.1, i.2, irredundant-push problem (earlier ++ c ∷ []) cs lits i.3 t g (subst P (sym (append_assoc earlier (c ∷ []) cs)) a))

none-opposite : (vs ws : List ℕ) → list_any (λ l. is_in (map negative vs) (denial l)) (map negative ws) ≡ false
none-opposite vs [] = refl
none-opposite vs (w ∷ ws) = or_from (is_in (map negative vs) (denial (negative w))) (list_any (λ l. is_in (map negative vs) (denial l)) (map negative ws)) (in_negatives vs (denial (negative w))) (none-opposite vs ws)

-- the lemma of a partial walk comes to the log
pub log-push : (problem : List (List Constraint)) (budget : ℕ) (log : List Lemma) (vs : List ℕ) (hints : List Hint) → IsLog problem budget log → length log < budget → AllowsSet problem (is_among vs) → NoLemmaDenies log (is_among vs) → Follows problem log (map negative vs) hints → IsLog problem budget (log ++ record { lits = map negative vs; hints = hints } ∷ [])
log-push problem budget log vs hints l h a n f =
    let lemma : Lemma = record { lits = map negative vs; hints = hints } in
    let P : List (List Lit) → Type 0 = λ cs. IsIrredundant problem [] cs in
    record {
      follows = fault-push problem [] log lemma l.follows f;
      irredundant = subst P (sym (clauses-push log lemma)) (irredundant-push problem [] (clauses log) (map negative vs) l.irredundant (none-opposite vs vs) (contains-no_given problem vs a) (contains-no_lemma vs (clauses log) n));
      within = (let size = length-append log (lemma ∷ []) in omega (arith, size, h));
    }

contains-weaker : (k : Lit) (ks ls : List Lit) → contains_clause ks ls ≡ true → contains_clause (k ∷ ks) ls ≡ true
contains-weaker k ks [] c = refl
contains-weaker k ks (l ∷ ls) c =
    let parts = and_parts (is_in ks l) (contains_clause ks ls) c in
    and_from (is_in (k ∷ ks) l) (contains_clause (k ∷ ks) ls) (or_right (is_same k l) (is_in ks l) parts.0) (contains-weaker k ks ls parts.1)

pub contains-itself : (lits : List Lit) → contains_clause lits lits ≡ true
contains-itself [] = refl
contains-itself (l ∷ ls) = and_from (is_in (l ∷ ls) l) (contains_clause (l ∷ ls) ls) (or_left (is_same l l) (is_in ls l) (same_itself l)) (contains-weaker l ls ls (contains-itself ls))

lemma-named : (log : List Lemma) (lemma : Lemma) (n : ℕ) → n < length log → lemma ≡ get_or log n lemma → slice_get (clauses log) n ≡ Some lemma.lits
lemma-named [] lemma n h e = absurd (omega arith)
lemma-named (l ∷ ls) lemma zero h e = ap (λ (k : Lemma). Some k.lits) (sym e)
lemma-named (l ∷ ls) lemma (suc n) h e = lemma-named ls lemma n (omega arith) e

all-get : {A : Type 0} (P : A → Type 0) (xs : List A) (n : ℕ) (x : A) → n < length xs → x ≡ get_or xs n x → AllByRecursion P xs → P x
all-get P [] n x h e a = absurd (omega arith)
all-get P (y ∷ ys) zero x h e a = subst P (sym e) a.0
all-get P (y ∷ ys) (suc n) x h e a = all-get P ys n x (omega arith) e a.1

-- a lemma whose literals deny the set is a denial
pub lemma-denies : (problem : List (List Constraint)) (log : List Lemma) (set : ℕ → Bool) (lemma : Lemma) (n : ℕ) (d : Refutation) → LogFollows problem log → n < length log → lemma ≡ get_or log n lemma → is_denied set lemma.lits ≡ true → d.lits ≡ lemma.lits → d.hints ≡ LemmaHint n ∷ [] → IsDenial problem log set d
lemma-denies problem log set lemma n d l h e i lits hints = record {
  hint = LemmaHint n;
  clause = lemma.lits;
  single = hints;
  named = ap (λ o. ok_or o NoSuchHint) (lemma-named log lemma n h e);
  all = ap (λ ls. contains_clause ls lemma.lits) lits ∙ contains-itself lemma.lits;
  only = ap (λ ls. contains_clause lemma.lits ls) lits ∙ contains-itself lemma.lits;
  good = ap (is_clause problem) lits ∙ all-get (λ (k : Lemma). IsTrue (is_clause problem k.lits)) log n lemma h e (log_within problem [] log l);
  inside = ap (is_denied set) lits ∙ i;
}

last-lemma : (log : List Lemma) (lemma : Lemma) → slice_get (clauses (log ++ lemma ∷ [])) (length log) ≡ Some lemma.lits
last-lemma [] lemma = refl
last-lemma (l ∷ ls) lemma = last-lemma ls lemma

pub all-denied : (vs ws : List ℕ) → ((v : ℕ) → is_among ws v ≡ true → is_among vs v ≡ true) → is_denied (is_among vs) (map negative ws) ≡ true
all-denied vs [] h = refl
all-denied vs (w ∷ ws) h =
    and_from (is_among vs w) (is_denied (is_among vs) (map negative ws)) (h w (or_left (w == w) (is_among ws w) (eq-eqb w w refl)))
    (all-denied vs ws (λ v i. h v (or_right (w == v) (is_among ws v) i)))

-- the lemma that was pushed last denies its own set
pub last-denies : (problem : List (List Constraint)) (log : List Lemma) (vs : List ℕ) (hints : List Hint) (n : ℕ) (d : Refutation) → AllByRecursion (λ v. v < length problem) vs → is_distinct vs ≡ true → n ≡ length log → d.lits ≡ map negative vs → d.hints ≡ LemmaHint n ∷ [] → IsDenial problem (log ++ record { lits = map negative vs; hints = hints } ∷ []) (is_among vs) d
last-denies problem log vs hints n d within once e lits single =
    let lemma : Lemma = record { lits = map negative vs; hints = hints } in
    record {
      hint = LemmaHint n;
      clause = map negative vs;
      single = single;
      named = ap (λ k. ok_or (slice_get (clauses (log ++ lemma ∷ [])) k) NoSuchHint) e ∙ ap (λ o. ok_or o NoSuchHint) (last-lemma log lemma);
      all = ap (λ ls. contains_clause ls (map negative vs)) lits ∙ contains-itself (map negative vs);
      only = ap (λ ls. contains_clause (map negative vs) ls) lits ∙ contains-itself (map negative vs);
      good = ap (is_clause problem) lits ∙ negatives-clause problem vs within once;
      inside = ap (is_denied (is_among vs)) lits ∙ all-denied vs vs (λ v i. i);
    }
