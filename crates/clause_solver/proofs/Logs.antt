-- Lemmas that come to a log.
use Rattle.std.proofs.Common.{◌≡◌, ℕ, zero, suc, ◌+◌, Bool, true, false, cond, List, [], ◌∷◌, ◌++◌, length, refl, sym, ap, ◌∙◌, subst, arith, Option, Some, None, Ok, append_assoc, slice_get}
use Rattle.std.specs.Option.{option_map, option_or, ok_or}
use Rattle.std.specs.List.{AllByRecursion}
use Rattle.std.proofs.lemmas.List.{append-nil, length-append, map-append}
use Rattle.op_constraints.specs.declared.Lit.{Lit}
use Rattle.op_constraints.specs.declared.Constraint.{Constraint}
use Rattle.derivations.specs.declared.Hint.{Hint}
use Rattle.derivations.specs.declared.Hint.TheVariants.{Lemma as LemmaHint}
use Rattle.derivations.specs.declared.Lemma.{Lemma}
use Rattle.derivations.specs.declared.LogCause.{LogCause}
use Rattle.derivations.specs.declared.LogCause.TheVariants.{NoSuchHint, BadClause}
use Rattle.derivations.specs.declared.LogFault.{LogFault}
use Rattle.derivations.specs.Follows.{clause_of, clauses, is_clause, fault_of, log_fault}
use Rattle.derivations.specs.Accepted.{contains_clause, ContainsNoGiven, is_tautology, IsIrredundant}
use Rattle.derivations.proofs.Sound.{or_none, map_none}
use Rattle.clause_solver.specs.Held.{AreClauses, IsHeld, IsPaid}

fault-push : (problem : List (List Constraint)) (earlier : List (List Lit)) (log : List Lemma) (lemma : Lemma) → log_fault problem earlier log ≡ None → fault_of problem (earlier ++ clauses log) lemma.lits lemma.hints ≡ None → log_fault problem earlier (log ++ lemma ∷ []) ≡ None
fault-push problem earlier [] lemma e f =
    let name : LogCause → LogFault = λ cause. record { number = length earlier; cause = cause } in
    ap (λ o. option_or (option_map name o) None) (ap (λ cs. fault_of problem cs lemma.lits lemma.hints) (sym (append-nil earlier)) ∙ f)
fault-push problem earlier (l ∷ ls) lemma e f =
    let name : LogCause → LogFault = λ cause. record { number = length earlier; cause = cause } in
    let here : Option LogFault = option_map name (fault_of problem earlier l.lits l.hints) in
    let parts = or_none here (log_fault problem (earlier ++ l.lits ∷ []) ls) e in
    let rest = fault-push problem (earlier ++ l.lits ∷ []) ls lemma parts.1
    (ap (λ cs. fault_of problem cs lemma.lits lemma.hints) (append_assoc earlier (l.lits ∷ []) (clauses ls)) ∙ f) in
    ap (λ o. option_or o (log_fault problem (earlier ++ l.lits ∷ []) (ls ++ lemma ∷ []))) parts.0 ∙ rest

irredundant-push : (problem : List (List Constraint)) (earlier cs : List (List Lit)) (lits : List Lit) → IsIrredundant problem earlier cs → is_tautology lits ≡ false → ContainsNoGiven problem lits → AllByRecursion (λ clause. contains_clause lits clause ≡ false) (earlier ++ cs) → IsIrredundant problem earlier (cs ++ lits ∷ [])
irredundant-push problem earlier [] lits i t g a =
    let P : List (List Lit) → Type 0 = λ ds. AllByRecursion (λ clause. contains_clause lits clause ≡ false) ds in
    (t, g, subst P (append-nil earlier) a, tt)
irredundant-push problem earlier (c ∷ cs) lits i t g a =
    let P : List (List Lit) → Type 0 = λ ds. AllByRecursion (λ clause. contains_clause lits clause ≡ false) ds in
    (i.0, i.1, i.2, irredundant-push problem (earlier ++ c ∷ []) cs lits i.3 t g (subst P (sym (append_assoc earlier (c ∷ []) cs)) a))

-- a lemma that follows and wastes nothing comes to what is held
pub held-push : (problem : List (List Constraint)) (lemmas : List (List Lit)) (log : List Lemma) (lemma : Lemma) → IsHeld problem lemmas log → fault_of problem lemmas lemma.lits lemma.hints ≡ None → IsIrredundant problem lemmas (lemma.lits ∷ []) → IsHeld problem (lemmas ++ lemma.lits ∷ []) (log ++ lemma ∷ [])
held-push problem lemmas log lemma h f i = record {
  same = ap (λ cs. cs ++ lemma.lits ∷ []) h.same ∙ sym (map-append (λ (l : Lemma). l.lits) log (lemma ∷ []));
  follows = fault-push problem [] log lemma h.follows (ap (λ cs. fault_of problem cs lemma.lits lemma.hints) (sym h.same) ∙ f);
  irredundant = irredundant-push problem [] lemmas lemma.lits h.irredundant i.0 i.1 i.2;
}

good : (b : Bool) (o : Option LogCause) → cond b o (Some BadClause) ≡ None → b ≡ true
good true o e = refl
good false o e = absurd (let bad : Some BadClause ≡ None = e in cc)

-- a clause that follows is one of the problem's variables
pub follows-clause : (problem : List (List Constraint)) (earlier : List (List Lit)) (lits : List Lit) (hints : List Hint) → fault_of problem earlier lits hints ≡ None → is_clause problem lits ≡ true
follows-clause problem earlier lits hints e = good (is_clause problem lits) _ e

log-clauses : (problem : List (List Constraint)) (earlier : List (List Lit)) (log : List Lemma) → log_fault problem earlier log ≡ None → AreClauses problem (clauses log)
log-clauses problem earlier [] e = tt
log-clauses problem earlier (l ∷ ls) e =
    let name : LogCause → LogFault = λ cause. record { number = length earlier; cause = cause } in
    let parts = or_none (option_map name (fault_of problem earlier l.lits l.hints)) (log_fault problem (earlier ++ l.lits ∷ []) ls) e in
    (follows-clause problem earlier l.lits l.hints (map_none name (fault_of problem earlier l.lits l.hints) parts.0), log-clauses problem (earlier ++ l.lits ∷ []) ls parts.1)

pub held-clauses : (problem : List (List Constraint)) (lemmas : List (List Lit)) (log : List Lemma) → IsHeld problem lemmas log → AreClauses problem lemmas
held-clauses problem lemmas log h = subst (λ (cs : List (List Lit)). AreClauses problem cs) (sym h.same) (log-clauses problem [] log h.follows)

as_many : (log : List Lemma) → length (clauses log) ≡ length log
as_many [] = refl
as_many (l ∷ ls) = ap suc (as_many ls)

pub held-length : (problem : List (List Constraint)) (lemmas : List (List Lit)) (log : List Lemma) → IsHeld problem lemmas log → length lemmas ≡ length log
held-length problem lemmas log h = ap length h.same ∙ as_many log

get_end : (xs : List (List Lit)) (y : List Lit) (n : ℕ) → n ≡ length xs → slice_get (xs ++ y ∷ []) n ≡ Some y
get_end [] y n e = ap (λ k. slice_get (y ∷ []) k) e
get_end (x ∷ xs) y zero e = absurd (omega (arith, e))
get_end (x ∷ xs) y (suc n) e = get_end xs y n (omega (arith, e))

-- the hint with this number names the new lemma
pub names_last : (problem : List (List Constraint)) (lemmas : List (List Lit)) (lits : List Lit) (n : ℕ) → n ≡ length lemmas → clause_of problem (lemmas ++ lits ∷ []) (LemmaHint n) ≡ Ok lits
names_last problem lemmas lits n e = ap (λ o. ok_or o NoSuchHint) (get_end lemmas lits n e)

pub paid-none : (log log' : List Lemma) (left left' : ℕ) → log' ≡ log → left' ≡ left → IsPaid log log' left left'
paid-none log log' left left' e f = record { more = []; longer = e ∙ sym (append-nil log); paid = omega (arith, f) }

pub paid-one : (log log' : List Lemma) (lemma : Lemma) (left left' : ℕ) → log' ≡ log ++ lemma ∷ [] → left' + 1 ≡ left → IsPaid log log' left left'
paid-one log log' lemma left left' e f = record { more = lemma ∷ []; longer = e; paid = omega (arith, f) }

pub paid-on : (a b c : List Lemma) (i j k : ℕ) → IsPaid a b i j → IsPaid b c j k → IsPaid a c i k
paid-on a b c i j k p q = record {
  more = p.more ++ q.more;
  longer = q.longer ∙ (ap (λ ls. ls ++ q.more) p.longer ∙ append_assoc a p.more q.more);
  paid = (let size = length-append p.more q.more in omega (arith, size, p.paid, q.paid));
}

-- a log and the budget left have as many together as before
pub paid-sum : (a b : List Lemma) (i j : ℕ) → IsPaid a b i j → length b + j ≡ length a + i
paid-sum a b i j p = let size = ap length p.longer ∙ length-append a p.more in omega (arith, size, p.paid)
