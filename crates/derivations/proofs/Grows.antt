-- What follows from a log follows from a longer one.
use Rattle.std.proofs.Common.{◌≡◌, ℕ, zero, suc, Bool, true, false, cond, List, [], ◌∷◌, ◌++◌, map, refl, ap, ◌∙◌, Option, Some, None, Result, Ok, Err, slice_get}
use Rattle.std.specs.Option.{ok_or}
use Rattle.op_constraints.specs.declared.Lit.{Lit}
use Rattle.op_constraints.specs.declared.Constraint.{Constraint}
use Rattle.derivations.specs.declared.Hint.{Hint}
use Rattle.derivations.specs.declared.Hint.TheVariants.{Lemma as LemmaHint, Given}
use Rattle.derivations.specs.declared.LogCause.{LogCause}
use Rattle.derivations.specs.declared.LogCause.TheVariants.{NoSuchHint, BadClause}
use Rattle.derivations.specs.Clauses.{denial}
use Rattle.derivations.specs.Follows.{clause_of, forced, after_forced, unit_fault, last_fault, hints_fault, all_hints_fault, is_clause, fault_of}

get_left : (xs ys : List (List Lit)) (k : ℕ) (x : List Lit) → slice_get xs k ≡ Some x → slice_get (xs ++ ys) k ≡ Some x
get_left [] ys k x e = absurd (let bad : None ≡ Some x = e in cc)
get_left (z ∷ zs) ys zero x e = e
get_left (z ∷ zs) ys (suc k) x e = get_left zs ys k x e

pub ok_some : (o : Option (List Lit)) (cause : LogCause) (clause : List Lit) → ok_or o cause ≡ Ok clause → o ≡ Some clause
ok_some None cause clause e = absurd (let bad : Err cause ≡ Ok clause = e in cc)
ok_some (Some x) cause clause e = cc

pub clause_of-grows : (problem : List (List Constraint)) (earlier more : List (List Lit)) (hint : Hint) (clause : List Lit) → clause_of problem earlier hint ≡ Ok clause → clause_of problem (earlier ++ more) hint ≡ Ok clause
clause_of-grows problem earlier more (LemmaHint number) clause e =
    ap (λ o. ok_or o NoSuchHint) (get_left earlier more number clause (ok_some (slice_get earlier number) NoSuchHint clause e))
clause_of-grows problem earlier more (Given v place members) clause e = e

last_grows : (trail : List Lit) (r s : Result (List Lit) LogCause) → ((clause : List Lit) → r ≡ Ok clause → s ≡ Ok clause) → last_fault trail r ≡ None → last_fault trail s ≡ None
last_grows trail (Err cause) s g e = absurd (let bad : Some cause ≡ None = e in cc)
last_grows trail (Ok clause) s g e = ap (last_fault trail) (g clause refl) ∙ e

after_grows : (o : Option Lit) (f g : Lit → Option LogCause) → ((l : Lit) → f l ≡ None → g l ≡ None) → after_forced o f ≡ None → after_forced o g ≡ None
after_grows None f g h e = e
after_grows (Some l) f g h e = h l e

unit_grows : (trail : List Lit) (r s : Result (List Lit) LogCause) (f g : Lit → Option LogCause) → ((clause : List Lit) → r ≡ Ok clause → s ≡ Ok clause) → ((l : Lit) → f l ≡ None → g l ≡ None) → unit_fault trail r f ≡ None → unit_fault trail s g ≡ None
unit_grows trail (Err cause) s f g k h e = absurd (let bad : Some cause ≡ None = e in cc)
unit_grows trail (Ok clause) s f g k h e = ap (λ r. unit_fault trail r g) (k clause refl) ∙ after_grows (forced trail clause) f g h e

hints_grow : (problem : List (List Constraint)) (earlier more : List (List Lit)) (trail : List Lit) (hint : Hint) (hints : List Hint) → hints_fault problem earlier trail hint hints ≡ None → hints_fault problem (earlier ++ more) trail hint hints ≡ None
hints_grow problem earlier more trail hint [] e = last_grows trail (clause_of problem earlier hint) (clause_of problem (earlier ++ more) hint) (clause_of-grows problem earlier more hint) e
hints_grow problem earlier more trail hint (next ∷ hints) e =
    unit_grows trail (clause_of problem earlier hint) (clause_of problem (earlier ++ more) hint)
    (λ l. hints_fault problem earlier (l ∷ trail) next hints) (λ l. hints_fault problem (earlier ++ more) (l ∷ trail) next hints)
    (clause_of-grows problem earlier more hint)
    (λ l. hints_grow problem earlier more (l ∷ trail) next hints) e

all_grow : (problem : List (List Constraint)) (earlier more : List (List Lit)) (trail : List Lit) (hints : List Hint) → all_hints_fault problem earlier trail hints ≡ None → all_hints_fault problem (earlier ++ more) trail hints ≡ None
all_grow problem earlier more trail [] e = e
all_grow problem earlier more trail (hint ∷ hints) e = hints_grow problem earlier more trail hint hints e

cond_grows : (b : Bool) (o p : Option LogCause) → (o ≡ None → p ≡ None) → cond b o (Some BadClause) ≡ None → cond b p (Some BadClause) ≡ None
cond_grows true o p h e = h e
cond_grows false o p h e = e

pub fault_of-grows : (problem : List (List Constraint)) (earlier more : List (List Lit)) (lits : List Lit) (hints : List Hint) → fault_of problem earlier lits hints ≡ None → fault_of problem (earlier ++ more) lits hints ≡ None
fault_of-grows problem earlier more lits hints e =
    cond_grows (is_clause problem lits) (all_hints_fault problem earlier (map denial lits) hints) (all_hints_fault problem (earlier ++ more) (map denial lits) hints) (all_grow problem earlier more (map denial lits) hints) e
