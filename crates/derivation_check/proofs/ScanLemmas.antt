-- Hints read by marks give the answers of hints read by a trail.
use Rattle.std.proofs.Common.{◌≡◌, ℕ, suc, ◌+◌, ◌<◌, Bool, true, false, not, cond, List, [], ◌∷◌, length, drop, refl, sym, ap, ◌∙◌, subst, arith, inl, inr, Option, Some, None, Result, Ok, Err, set, get_or, get_or-set_other, get_or-set_same, length-set, drop-cons, eqb, eq-eqb, ne_eqb}
use Rattle.std.proofs.Math.Bool.{or-false}
use Rattle.std.specs.Option.{option_and_then}
use Rattle.std.specs.List.{list_all}
use Rattle.std.proofs.lemmas.Bool.{cases_Bool, cases_eq}
use Rattle.std.proofs.lemmas.List.{length-drop}
use mathlib.Core.Bool.{beq}
use Rattle.op_constraints.proofs.WalkLaws.{under}
use Rattle.op_constraints.specs.declared.Lit.{Lit}
use Rattle.op_constraints.specs.declared.Constraint.{Constraint}
use Rattle.derivations.specs.declared.Hint.{Hint}
use Rattle.derivations.specs.declared.LogCause.{LogCause}
use Rattle.derivations.specs.declared.LogCause.TheVariants.{HintNotUnit, NoConflict}
use Rattle.derivations.specs.Clauses.{denial, is_same, is_in}
use Rattle.derivations.specs.Follows.{clause_of, left, sole, forced, after_forced, unit_fault, is_nothing, last_fault, hints_fault}
use Rattle.derivation_check.specs.declared.scan.Left.{Left}
use Rattle.derivation_check.specs.declared.scan.Left.TheVariants.{Nothing, Only, Several}
use Rattle.derivation_check.specs.Scan.{says, is_said, joined, scanned, forced_by, is_conflict, left_of, last_answer, unit_answer, answer_from, answer}

-- the answer where the first hint is no clause, and where it isn't unit
answer_err : (problem : List (List Constraint)) (earlier : List (List Lit)) (known : List (Option Bool)) (hint : Hint) (hints : List Hint) (cause : LogCause) → Err cause ≡ left_of known (clause_of problem earlier hint) → answer problem earlier known (hint ∷ hints) ≡ Some cause
answer_err problem earlier known hint [] cause e = ap last_answer (sym e)
answer_err problem earlier known hint (next ∷ hints) cause e = ap (λ r. unit_answer known r (λ l. answer_from problem earlier (set known l.var (Some l.positive)) next hints)) (sym e)

at_drop : (hints : List Hint) (i : ℕ) (hint : Hint) → i < length hints → hint ≡ get_or hints i hint → drop i hints ≡ hint ∷ drop (suc i) hints
at_drop hints i hint h e = drop-cons hints i hint h ∙ ap (λ x. x ∷ drop (suc i) hints) (sym e)

pub answer_err_at : (problem : List (List Constraint)) (earlier : List (List Lit)) (known : List (Option Bool)) (hints : List Hint) (i : ℕ) (hint : Hint) (cause : LogCause) → i < length hints → hint ≡ get_or hints i hint → Err cause ≡ left_of known (clause_of problem earlier hint) → answer problem earlier known (drop i hints) ≡ Some cause
answer_err_at problem earlier known hints i hint cause h e f =
    ap (λ hs. answer problem earlier known hs) (at_drop hints i hint h e) ∙ answer_err problem earlier known hint (drop (suc i) hints) cause f

answer_not_unit : (problem : List (List Constraint)) (earlier : List (List Lit)) (known : List (Option Bool)) (hint : Hint) (hints : List Hint) (o : Left) → 0 < length hints → Ok o ≡ left_of known (clause_of problem earlier hint) → None ≡ forced_by known o → answer problem earlier known (hint ∷ hints) ≡ Some HintNotUnit
answer_not_unit problem earlier known hint [] o h e f = absurd (omega arith)
answer_not_unit problem earlier known hint (next ∷ hints) o h e f =
    let rest : Lit → Option LogCause = λ l. answer_from problem earlier (set known l.var (Some l.positive)) next hints in
    ap (λ r. unit_answer known r rest) (sym e) ∙ ap (λ q. after_forced q rest) (sym f)

pub answer_not_unit_at : (problem : List (List Constraint)) (earlier : List (List Lit)) (known : List (Option Bool)) (hints : List Hint) (i : ℕ) (hint : Hint) (o : Left) → i < length hints → (i + 1 ≡ length hints → ⊥) → hint ≡ get_or hints i hint → Ok o ≡ left_of known (clause_of problem earlier hint) → None ≡ forced_by known o → answer problem earlier known (drop i hints) ≡ Some HintNotUnit
answer_not_unit_at problem earlier known hints i hint o h n e f g =
    ap (λ hs. answer problem earlier known hs) (at_drop hints i hint h e)
    ∙ answer_not_unit problem earlier known hint (drop (suc i) hints) o (rw length-drop (omega (arith, n))) f g

-- The marks say what the trail says
abbrev pub Agrees : List (Option Bool) → List Lit → Type 0
Agrees known trail = (l : Lit) → is_in trail l ≡ is_said known l

abbrev joined_all : Left → List Lit → Left
joined_all before [] = before
joined_all before (l ∷ ls) = joined_all (joined before l) ls

scanned_left : (known : List (Option Bool)) (trail : List Lit) (before : Left) (clause : List Lit) → Agrees known trail → scanned known before clause ≡ joined_all before (left trail clause)
scanned_left known trail before [] a = refl
scanned_left known trail before (l ∷ ls) a =
    elim (cases_Bool (is_in trail (denial l))) [
      | inl here ↦
          let said : is_said known (denial l) ≡ true = sym (a (denial l)) ∙ here in
          rw here (rw said (scanned_left known trail before ls a))
      | inr other ↦
          let said : is_said known (denial l) ≡ false = sym (a (denial l)) ∙ other in
          rw other (rw said (scanned_left known trail (joined before l) ls a))
    ]

several_stays : (ls : List Lit) → joined_all Several ls ≡ Several
several_stays [] = refl
several_stays (l ∷ ls) = several_stays ls

only_stays : (l : Lit) (ls : List Lit) → joined_all (Only l) ls ≡ cond (list_all (λ m. is_same m l) ls) (Only l) Several
only_stays l [] = refl
only_stays l (m ∷ ms) =
    elim (cases_Bool (is_same m l)) [
      | inl here ↦ rw here (only_stays l ms)
      | inr other ↦ rw other (several_stays ms)
    ]

abbrev status : List Lit → Left
status [] = Nothing
status (l ∷ ls) = cond (list_all (λ m. is_same m l) ls) (Only l) Several

begins : (ls : List Lit) → joined_all Nothing ls ≡ status ls
begins [] = refl
begins (l ∷ ls) = only_stays l ls

scanned_status : (known : List (Option Bool)) (trail clause : List Lit) → Agrees known trail → scanned known Nothing clause ≡ status (left trail clause)
scanned_status known trail clause a = scanned_left known trail Nothing clause a ∙ begins (left trail clause)

status_conflict : (ls : List Lit) → is_conflict (status ls) ≡ is_nothing ls
status_conflict [] = refl
status_conflict (l ∷ ls) =
    elim (cases_Bool (list_all (λ m. is_same m l) ls)) [ inl one ↦ rw one refl | inr more ↦ rw more refl ]

status_forced : (known : List (Option Bool)) (trail ls : List Lit) → Agrees known trail → forced_by known (status ls) ≡ option_and_then (λ l. cond (is_in trail l) None (Some l)) (sole ls)
status_forced known trail [] a = refl
status_forced known trail (l ∷ ls) a =
    elim (cases_Bool (list_all (λ m. is_same m l) ls)) [
      | inl one ↦ rw one (ap (λ b. cond b None (Some l)) (sym (a l)))
      | inr more ↦ rw more refl
    ]

pub forced_same : (known : List (Option Bool)) (trail clause : List Lit) → Agrees known trail → forced_by known (scanned known Nothing clause) ≡ forced trail clause
forced_same known trail clause a = ap (forced_by known) (scanned_status known trail clause a) ∙ status_forced known trail (left trail clause) a

pub conflict_same : (known : List (Option Bool)) (trail clause : List Lit) → Agrees known trail → is_conflict (scanned known Nothing clause) ≡ is_nothing (left trail clause)
conflict_same known trail clause a = ap is_conflict (scanned_status known trail clause a) ∙ status_conflict (left trail clause)

unsaid : (o : Option Bool) → says o true ≡ false → says o false ≡ false → o ≡ None
unsaid None t f = refl
unsaid (Some true) t f = absurd (let bad : true ≡ false = t in cc)
unsaid (Some false) t f = absurd (let bad : true ≡ false = f in cc)

pub Agrees-set : (known : List (Option Bool)) (trail : List Lit) (l : Lit) → Agrees known trail → l.var < length known → get_or known l.var None ≡ None → Agrees (set known l.var (Some l.positive)) (l ∷ trail)
Agrees-set known trail l a h none m =
    elim (cases_eq l.var m.var) [
      | inl same ↦
          let read : get_or (set known l.var (Some l.positive)) m.var None ≡ Some l.positive = subst (λ k. get_or (set known l.var (Some l.positive)) k None ≡ Some l.positive) same (get_or-set_same known l.var (Some l.positive) None h) in
          let old : is_in trail m ≡ false = a m ∙ ap (λ o. says o m.positive) (subst (λ k. get_or known k None ≡ None) same none) in
          let here : eqb l.var m.var ≡ true = eq-eqb l.var m.var same in
          rw read (rw here (rw old (or-false (beq l.positive m.positive))))
      | inr other ↦
          let read : get_or (set known l.var (Some l.positive)) m.var None ≡ get_or known m.var None = get_or-set_other known l.var m.var (Some l.positive) None (λ s. other (sym s)) in
          let there : eqb l.var m.var ≡ false = ne_eqb l.var m.var other in
          rw read (rw there (a m))
    ]

-- Every literal of a clause is of a variable below n
abbrev pub IsBelow : ℕ → List Lit → Type 0
IsBelow n [] = Unit {0}
IsBelow n (l ∷ ls) = (l.var < n) × IsBelow n ls

some_same : (k l : Lit) → Some k ≡ Some l → k ≡ l
some_same k l e = cc

kept_false : (b : Bool) (k l : Lit) → cond b None (Some k) ≡ Some l → (b ≡ false) × (k ≡ l)
kept_false true k l e = absurd (let bad : None ≡ Some l = e in cc)
kept_false false k l e = (refl, some_same k l e)

both_unsaid : (o : Option Bool) (b : Bool) → says o b ≡ false → says o (not b) ≡ false → o ≡ None
both_unsaid o true t f = unsaid o t f
both_unsaid o false t f = unsaid o f t

kept_only : (b : Bool) (k l : Lit) → cond b (Some k) None ≡ Some l → k ≡ l
kept_only true k l e = some_same k l e
kept_only false k l e = absurd (let bad : None ≡ Some l = e in cc)

-- the one literal that is left isn't false, and is of the clause
sole_of_left : (trail clause : List Lit) (n : ℕ) (l : Lit) → IsBelow n clause → sole (left trail clause) ≡ Some l → (is_in trail (denial l) ≡ false) × (l.var < n)
sole_of_left trail [] n l b e = absurd (let bad : None ≡ Some l = e in cc)
sole_of_left trail (k ∷ ks) n l b e =
    elim (cases_Bool (is_in trail (denial k))) [
      | inl here ↦ (let e' = rw here at e in sole_of_left trail ks n l b.1 e')
      | inr other ↦
          (let e' = rw other at e in
          let same : k ≡ l = kept_only (list_all (λ m. is_same m k) (left trail ks)) k l e' in
          (subst (λ (m : Lit). is_in trail (denial m) ≡ false) same other, subst (λ (m : Lit). m.var < n) same b.0))
    ]

pub forced_is_new : (known : List (Option Bool)) (trail clause : List Lit) (l : Lit) → Agrees known trail → IsBelow (length known) clause → forced trail clause ≡ Some l → (get_or known l.var None ≡ None) × (l.var < length known)
forced_is_new known trail clause l a b f =
    let (k, is, kept) = under (λ k. cond (is_in trail k) None (Some k)) (sole (left trail clause)) l f in
    let parts = kept_false (is_in trail k) k l kept in
    let untrue : is_in trail l ≡ false = subst (λ (m : Lit). is_in trail m ≡ false) parts.1 parts.0 in
    let rest = sole_of_left trail clause (length known) l b (is ∙ ap (λ m. Some m) parts.1) in
    (both_unsaid (get_or known l.var None) l.positive (sym (a l) ∙ untrue) (sym (a (denial l)) ∙ rest.0), rest.1)

after_same : (o : Option Lit) (f g : Lit → Option LogCause) → ((l : Lit) → o ≡ Some l → f l ≡ g l) → after_forced o f ≡ after_forced o g
after_same None f g h = refl
after_same (Some l) f g h = h l refl

last_same : (known : List (Option Bool)) (trail : List Lit) (r : Result (List Lit) LogCause) → Agrees known trail → last_answer (left_of known r) ≡ last_fault trail r
last_same known trail (Err cause) a = refl
last_same known trail (Ok clause) a = ap (λ b. cond b None (Some NoConflict)) (conflict_same known trail clause a)

unit_same : (known : List (Option Bool)) (trail : List Lit) (r : Result (List Lit) LogCause) (f g : Lit → Option LogCause) → Agrees known trail → ((clause : List Lit) → r ≡ Ok clause → IsBelow (length known) clause) → ((l : Lit) → (get_or known l.var None ≡ None) → (l.var < length known) → f l ≡ g l) → unit_answer known (left_of known r) f ≡ unit_fault trail r g
unit_same known trail (Err cause) f g a b h = refl
unit_same known trail (Ok clause) f g a b h =
    ap (λ o. after_forced o f) (forced_same known trail clause a)
    ∙ after_same (forced trail clause) f g (λ l e. let new = forced_is_new known trail clause l a (b clause refl) e in h l new.0 new.1)

-- by marks or by the trail, the hints have one answer, where each clause that a hint names is of variables that have a mark
pub answer_same : (problem : List (List Constraint)) (earlier : List (List Lit)) (known : List (Option Bool)) (trail : List Lit) (hint : Hint) (hints : List Hint) (n : ℕ) → length known ≡ n → ((h : Hint) (clause : List Lit) → clause_of problem earlier h ≡ Ok clause → IsBelow n clause) → Agrees known trail → answer_from problem earlier known hint hints ≡ hints_fault problem earlier trail hint hints
answer_same problem earlier known trail hint [] n e b a = last_same known trail (clause_of problem earlier hint) a
answer_same problem earlier known trail hint (next ∷ hints) n e b a =
    unit_same known trail (clause_of problem earlier hint)
    (λ l. answer_from problem earlier (set known l.var (Some l.positive)) next hints)
    (λ l. hints_fault problem earlier (l ∷ trail) next hints)
    a
    (λ clause is. subst (λ k. IsBelow k clause) (sym e) (b hint clause is))
    (λ l none low. answer_same problem earlier (set known l.var (Some l.positive)) (l ∷ trail) next hints n (length-set known l.var (Some l.positive) ∙ e) b (Agrees-set known trail l a low none))
