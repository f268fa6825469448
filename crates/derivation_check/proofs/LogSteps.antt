-- One lemma more of a log.
use Rattle.std.proofs.Common.{◌≡◌, ℕ, zero, suc, ◌+◌, ◌<◌, Bool, true, false, cond, List, [], ◌∷◌, ◌++◌, length, map, take, drop, refl, sym, ap, ◌∙◌, subst, arith, Option, Some, None, IsTrue, get_or, drop-cons, add-one}
use Rattle.std.specs.Option.{option_map, option_or}
use Rattle.std.specs.List.{AllByRecursion}
use Rattle.op_constraints.specs.declared.Lit.{Lit}
use Rattle.op_constraints.specs.declared.Constraint.{Constraint}
use Rattle.derivations.specs.declared.Lemma.{Lemma}
use Rattle.derivations.specs.declared.LogCause.{LogCause}
use Rattle.derivations.specs.declared.LogCause.TheVariants.{BadClause}
use Rattle.derivations.specs.declared.LogFault.{LogFault}
use Rattle.derivations.specs.Clauses.{denial}
use Rattle.derivations.specs.Follows.{is_clause, all_hints_fault, fault_of, log_fault, clauses}
use Rattle.derivations.proofs.Sound.{or_none, map_none}

take_clauses : (lemmas : List Lemma) (i : ℕ) (lemma : Lemma) → i < length lemmas → lemma ≡ get_or lemmas i lemma → take (suc i) (clauses lemmas) ≡ take i (clauses lemmas) ++ lemma.lits ∷ []
take_clauses [] i lemma h e = absurd (omega arith)
take_clauses (l ∷ ls) zero lemma h e = ap (λ (k : Lemma). k.lits ∷ []) (sym e)
take_clauses (l ∷ ls) (suc i) lemma h e = ap (λ xs. l.lits ∷ xs) (take_clauses ls i lemma (omega arith) e)

no_cause : (problem : List (List Constraint)) (earlier : List (List Lit)) (lemma : Lemma) (lemmas : List Lemma) → fault_of problem earlier lemma.lits lemma.hints ≡ None → log_fault problem earlier (lemma ∷ lemmas) ≡ log_fault problem (earlier ++ lemma.lits ∷ []) lemmas
no_cause problem earlier lemma lemmas f =
    let name : LogCause → LogFault = λ cause. record { number = length earlier; cause = cause } in
    ap (λ o. option_or (option_map name o) (log_fault problem (earlier ++ lemma.lits ∷ []) lemmas)) f

pub log_step : (problem : List (List Constraint)) (lemmas : List Lemma) (i : ℕ) (lemma : Lemma) → i < length lemmas → lemma ≡ get_or lemmas i lemma → fault_of problem (take i (clauses lemmas)) lemma.lits lemma.hints ≡ None → log_fault problem (take i (clauses lemmas)) (drop i lemmas) ≡ log_fault problem (take (i + 1) (clauses lemmas)) (drop (i + 1) lemmas)
log_step problem lemmas i lemma h e f =
    rw (add-one i) (ap (λ xs. log_fault problem (take i (clauses lemmas)) xs) (drop-cons lemmas i lemma h ∙ ap (λ x. x ∷ drop (suc i) lemmas) (sym e))
    ∙ (no_cause problem (take i (clauses lemmas)) lemma (drop (suc i) lemmas) f
    ∙ ap (λ xs. log_fault problem xs (drop (suc i) lemmas)) (sym (take_clauses lemmas i lemma h e))))

good_clause : (b : Bool) (o : Option LogCause) → cond b o (Some BadClause) ≡ None → IsTrue b
good_clause true o e = refl
good_clause false o e = absurd (let bad : Some BadClause ≡ None = e in cc)

all_take_push : {A : Type 0} (P : A → Type 0) (xs : List A) (i : ℕ) (x : A) → i < length xs → x ≡ get_or xs i x → AllByRecursion P (take i xs) → P x → AllByRecursion P (take (suc i) xs)
all_take_push P [] i x h e a p = absurd (omega arith)
all_take_push P (y ∷ ys) zero x h e a p = (subst P e p, tt)
all_take_push P (y ∷ ys) (suc i) x h e a p = (a.0, all_take_push P ys i x (omega arith) e a.1 p)

pub within_step : (problem : List (List Constraint)) (lemmas : List Lemma) (i : ℕ) (lemma : Lemma) → i < length lemmas → lemma ≡ get_or lemmas i lemma → fault_of problem (take i (clauses lemmas)) lemma.lits lemma.hints ≡ None → AllByRecursion (λ l. IsTrue (is_clause problem l.lits)) (take i lemmas) → AllByRecursion (λ l. IsTrue (is_clause problem l.lits)) (take (i + 1) lemmas)
within_step problem lemmas i lemma h e f a =
    rw (add-one i) (all_take_push (λ (l : Lemma). IsTrue (is_clause problem l.lits)) lemmas i lemma h e a
    (good_clause (is_clause problem lemma.lits) (all_hints_fault problem (take i (clauses lemmas)) (map denial lemma.lits) lemma.hints) f))

-- each lemma of a log that follows is a clause of the problem's variables
pub log_within : (problem : List (List Constraint)) (earlier : List (List Lit)) (log : List Lemma) → log_fault problem earlier log ≡ None → AllByRecursion (λ l. IsTrue (is_clause problem l.lits)) log
log_within problem earlier [] e = tt
log_within problem earlier (lemma ∷ lemmas) e =
    let name : LogCause → LogFault = λ cause. record { number = length earlier; cause = cause } in
    let parts = or_none (option_map name (fault_of problem earlier lemma.lits lemma.hints)) (log_fault problem (earlier ++ lemma.lits ∷ []) lemmas) e in (
      good_clause (is_clause problem lemma.lits) (all_hints_fault problem earlier (map denial lemma.lits) lemma.hints) (map_none name (fault_of problem earlier lemma.lits lemma.hints) parts.0),
      log_within problem (earlier ++ lemma.lits ∷ []) lemmas parts.1,
    )
