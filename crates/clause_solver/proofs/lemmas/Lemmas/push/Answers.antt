use Rattle.std.proofs.Common.{◌≡◌, List, [], ◌∷◌, ◌++◌, sym, ap, ◌∙◌, subst, Result, Ok, Err, OnErr}
use Rattle.clause_arena.specs.declared.ClauseRef.{ClauseRef}
use Rattle.op_constraints.specs.declared.Lit.{Lit}
use Rattle.clause_solver.specs.Held.{clauses_at, AreWithin}
use Rattle.clause_solver.proofs.Storing.{pushed, pushed-within, kept_clauses}
use Rattle.clause_solver.proofs.lemmas.Lemmas.push.Goals as goal

on_err : {A E : Type 0} (r : Result A E) (P : Type 0) → P → OnErr r P
on_err (Ok x) P p = tt
on_err (Err e) P p = p

pub returns-in_err-push-clause-memory : goal.returns-in_err-push-clause-memory
returns-in_err-push-clause-memory c =
    let old = c.self.inside.arena.lits.items in
    let new = c.push.new.self.lits.items in
    let places = c.self.inside.places.items in
    let same : c.push-2.new.self.items ≡ places = c.in_err-push.ensures.items in
    on_err _ _ (ap (λ ps. clauses_at new ps) same ∙ (kept_clauses old new places c.in_ok-place.ensures.others c.self.invariant ∙ c.self.view_is))

pub invariant_of-self-2 : goal.invariant_of-self-2
invariant_of-self-2 c =
    let old = c.self.inside.arena.lits.items in
    let new = c.push.new.self.lits.items in
    subst (λ (ps : List ClauseRef). AreWithin new ps) (sym c.in_ok-push.ensures.items)
    (pushed-within old new c.args.lits.now c.self.inside.places.items c.in_ok-place.place c.in_ok-place.ensures.size c.self.invariant c.in_ok-place.ensures.within)

pub returns-clause-added : goal.returns-clause-added
returns-clause-added c =
    let old = c.self.inside.arena.lits.items in
    let new = c.push.new.self.lits.items in
    ap (λ ps. clauses_at new ps) c.in_ok-push.ensures.items
    ∙ (pushed old new c.args.lits.now c.self.inside.places.items c.in_ok-place.place c.in_ok-place.ensures.others c.self.invariant c.in_ok-place.ensures.pushed
    ∙ ap (λ (cs : List (List Lit)). cs ++ c.args.lits.now ∷ []) c.self.view_is)
