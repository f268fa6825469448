-- A turn of the search.
use Rattle.std.proofs.Common.{◌≡◌, ℕ, zero, suc, Bool, true, inl, inr, ◌+◌, ◌-◌, ◌<◌, ◌≤◌, List, [], ◌∷◌, ◌++◌, length, drop, refl, sym, ap, ◌∙◌, subst, arith, Option, Some, None, Ok, Err, Result, IfOk, IfNone, IfSome}
use Rattle.std.specs.List.{list_all}
use Rattle.std.proofs.lemmas.Bool.{cases_Bool, and_parts, and_from}
use Rattle.std.proofs.lemmas.List.{drop-drop}
use Rattle.op_constraints.specs.declared.Lit.{Lit}
use Rattle.op_constraints.specs.declared.Constraint.{Constraint}
use Rattle.op_constraints.specs.Meets.{at}
use Rattle.derivations.specs.declared.Lemma.{Lemma}
use Rattle.derivations.specs.declared.Hint.TheVariants.{Lemma as LemmaHint}
use Rattle.derivations.specs.Clauses.{lit_holds}
use Rattle.derivations.specs.Follows.{fault_of}
use Rattle.derivations.specs.Accepted.{IsIrredundant}
use Rattle.clause_trail.specs.declared.Cause.TheVariants.{Forced}
use Rattle.clause_trail.specs.declared.Entry.{Entry}
use Rattle.clause_trail.specs.Trails.{Seen, literals, IsUnknown}
use Rattle.clause_trail.proofs.Literals.{forced_new}
use Rattle.clause_analysis.specs.declared.Learnt.{Learnt}
use Rattle.clause_analysis.specs.Caused.{is_assumed, assumed, AllStand, IsCaused}
use Rattle.clause_analysis.specs.Analysed.{IsLearnt}
use Rattle.clause_solver.specs.Held.{IsHeld}
use Rattle.clause_solver.specs.declared.searching.Answer.TheVariants.{Model, Refuted, Spent}
use Rattle.clause_solver.specs.declared.searching.Turn.{Turn}
use Rattle.clause_solver.specs.declared.searching.Turn.TheVariants.{Onward, Answered}
use Rattle.clause_solver.specs.Searching.{weight, turns_left, Comes, Decides}
use Rattle.clause_solver.proofs.Below.{below_in, clause_below}
use Rattle.clause_solver.proofs.Logs.{held-push, held-length, follows-clause, names_last}

fewer_step : (left left' size long long' : ℕ) → left' ≡ left → weight left' size + (size - long') < weight (suc left) size + (size - long)
fewer_step left left' size long long' same = subst (λ n. weight n size + (size - long') < weight (suc left) size + (size - long)) (sym same) (omega arith)

-- with one lemma less there are fewer turns, wherever the trail goes back to
pub fewer : (left left' size long long' : ℕ) → left' + 1 ≡ left → weight left' size + (size - long') < weight left size + (size - long)
fewer zero left' size long long' e = absurd (omega (arith, e))
fewer (suc left) left' size long long' e =
    let same : left' ≡ left = omega (arith, e) in
    fewer_step left left' size long long' same

pub fewer_known : (left size long long' : ℕ) → long < size → long < long' → weight left size + (size - long') < weight left size + (size - long)
fewer_known left size long long' h more = omega (arith, h, more)

pub if_ok : {A E : Type 0} (P Q : A → Type 0) (r : Result A E) → ((x : A) → P x → Q x) → IfOk r P → IfOk r Q
if_ok P Q (Ok x) f h = f x h
if_ok P Q (Err e) f h = tt

pub caused-push : (problem : List (List Constraint)) (lemmas : List (List Lit)) (before after : Seen) (e : Entry) (es : List Entry) → before.size ≡ length problem → after.size ≡ before.size → after.entries ≡ e ∷ es → AllStand problem lemmas (e ∷ es) → IsCaused problem lemmas after
caused-push problem lemmas before after e es same size is a = record {
  size = size ∙ same;
  stand = subst (λ (xs : List Entry). AllStand problem lemmas xs) (sym is) a;
}

pub held_same : (problem : List (List Constraint)) (lemmas lemmas' : List (List Lit)) (log log' : List Lemma) → lemmas' ≡ lemmas → log' ≡ log → IsHeld problem lemmas log → IsHeld problem lemmas' log'
held_same problem lemmas lemmas' log log' e f h =
    subst (λ (cs : List (List Lit)). IsHeld problem cs log') (sym e) (subst (λ (ls : List Lemma). IsHeld problem lemmas ls) (sym f) h)

pub held_more : (problem : List (List Constraint)) (lemmas lemmas' : List (List Lit)) (log log' : List Lemma) (lemma : Lemma) → lemmas' ≡ lemmas ++ lemma.lits ∷ [] → log' ≡ log ++ lemma ∷ [] → IsHeld problem lemmas log → fault_of problem lemmas lemma.lits lemma.hints ≡ None → IsIrredundant problem lemmas (lemma.lits ∷ []) → IsHeld problem lemmas' log'
held_more problem lemmas lemmas' log log' lemma e f h follows i =
    held_same problem (lemmas ++ lemma.lits ∷ []) lemmas' (log ++ lemma ∷ []) log' e f (held-push problem lemmas log lemma h follows i)

-- the literal that a lemma forces is of the problem's variables, and the entries that stay say nothing of it
pub learnt_var : (problem : List (List Constraint)) (lemmas : List (List Lit)) (entries : List Entry) (learnt : Learnt) → IsLearnt problem lemmas entries learnt → learnt.forced.var < length problem
learnt_var problem lemmas entries learnt l =
    let new = forced_new (literals (drop learnt.back entries)) learnt.lemma.lits learnt.forced l.forces in
    below_in (length problem) learnt.lemma.lits learnt.forced (clause_below problem learnt.lemma.lits (follows-clause problem lemmas learnt.lemma.lits learnt.lemma.hints l.follows)) new.0

pub learnt_unknown : (problem : List (List Constraint)) (lemmas : List (List Lit)) (entries : List Entry) (learnt : Learnt) → IsLearnt problem lemmas entries learnt → IsUnknown (literals (drop learnt.back entries)) learnt.forced
learnt_unknown problem lemmas entries learnt l =
    let new = forced_new (literals (drop learnt.back entries)) learnt.lemma.lits learnt.forced l.forces in (new.1, new.2)

-- the trail after a lemma
pub caused-learnt : (problem : List (List Constraint)) (lemmas lemmas' : List (List Lit)) (log : List Lemma) (before after : Seen) (learnt : Learnt) → IsHeld problem lemmas log → IsCaused problem lemmas before → IsLearnt problem lemmas before.entries learnt → lemmas' ≡ lemmas ++ learnt.lemma.lits ∷ [] → after.size ≡ before.size → after.entries ≡ record { lit = learnt.forced; cause = Forced (record { hint = LemmaHint (length log); lits = learnt.lemma.lits }) } ∷ drop learnt.back before.entries → IsCaused problem lemmas' after × (assumed after.entries ≡ assumed before.entries)
caused-learnt problem lemmas lemmas' log before after learnt h c l e size is =
    let longer : List (List Lit) = lemmas ++ learnt.lemma.lits ∷ [] in
    let entry : Entry = record { lit = learnt.forced; cause = Forced (record { hint = LemmaHint (length log); lits = learnt.lemma.lits }) } in
    let rest : List Entry = drop learnt.back before.entries in
    let names = names_last problem lemmas learnt.lemma.lits (length log) (sym (held-length problem lemmas log h)) in (
      subst (λ (cs : List (List Lit)). IsCaused problem cs after) (sym e) (caused-push problem longer before after entry rest c.size size is ((names, l.forces), l.stand)),
      ap assumed is ∙ l.assumed_stay,
    )

pub popped : (r : Option Entry) (old new : List Entry) → IfNone r (old ≡ []) → IfNone r (new ≡ []) → IfSome r (λ e. old ≡ e ∷ new) → new ≡ drop 1 old
popped None old new n e s = e ∙ ap (λ es. drop 1 es) (sym n)
popped (Some x) old new n e s = ap (λ es. drop 1 es) (sym s)

pub cut_next : (k : ℕ) (all old new : List Entry) → old ≡ drop k all → new ≡ drop 1 old → new ≡ drop (k + 1) all
cut_next k all old new e f = f ∙ (ap (λ es. drop 1 es) e ∙ drop-drop 1 k all)

assumed_true : (test : Lit → Bool) (es : List Entry) → list_all test (literals es) ≡ true → list_all test (assumed es) ≡ true
assumed_true test [] a = refl
assumed_true test (e ∷ es) a =
    let parts = and_parts (test e.lit) (list_all test (literals es)) a in
    let rest = assumed_true test es parts.1 in
    elim (cases_Bool (is_assumed e.cause)) [
      | inl here ↦ rw here (and_from (test e.lit) (list_all test (assumed es)) parts.0 rest)
      | inr other ↦ rw other rest
    ]

fewer_seen : (left : ℕ) (before after : Seen) → after.size ≡ before.size → length before.entries < before.size → length before.entries < length after.entries → turns_left left after < turns_left left before
fewer_seen left before after size room more =
    subst (λ n. weight left n + (n - length after.entries) < weight left before.size + (before.size - length before.entries)) (sym size)
    (fewer_known left before.size (length before.entries) (length after.entries) room more)

-- what a decision comes to
pub comes : (problem : List (List Constraint)) (lemmas : List (List Lit)) (log : List Lemma) (left : ℕ) (before middle after : Seen) (turn : Turn) → IsCaused problem lemmas before → IsCaused problem lemmas middle → assumed middle.entries ≡ assumed before.entries → length before.entries ≤ length middle.entries → Decides problem lemmas middle after turn → Comes problem lemmas log left left before after turn
comes problem lemmas log left before middle after Onward b m same long (caused, stay, room, next) = (
  caused,
  stay ∙ same,
  fewer_seen left before after (caused.size ∙ sym b.size) (omega (arith, room, long, m.size, b.size)) (omega (arith, long, next)),
)
comes problem lemmas log left before middle after (Answered (Model set)) b m same long d = (
  d.0,
  subst (λ (ls : List Lit). list_all (λ l. lit_holds (at set) l) ls ≡ true) same (assumed_true (λ l. lit_holds (at set) l) middle.entries d.1),
)
comes problem lemmas log left before middle after (Answered (Refuted refutation)) b m same long d = absurd d
comes problem lemmas log left before middle after (Answered Spent) b m same long d = absurd d

-- after a lemma there are fewer turns
pub fewer_learnt : (left left' : ℕ) (before after : Seen) → left' + 1 ≡ left → after.size ≡ before.size → turns_left left' after < turns_left left before
fewer_learnt left left' before after e size =
    subst (λ n. weight left' n + (n - length after.entries) < weight left before.size + (before.size - length before.entries)) (sym size)
    (fewer left left' before.size (length before.entries) (length after.entries) e)
