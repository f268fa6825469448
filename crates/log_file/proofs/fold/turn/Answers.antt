use Rattle.std.proofs.Common.{ℕ, List, Option, Some, None, Result, Ok, refl, ap, ◌∙◌, subst, arith}
use Rattle.std.specs.Borrow.{Bor}
use Rattle.olm_base.specs.declared.memory.Memory.{Memory}
use Rattle.cluster_file.specs.Files.{next_record}
use Rattle.cluster_file.specs.Writing.{history_after}
use Rattle.log_file.specs.Folding.{AddsNext}
use Rattle.log_file.proofs.Turning.{turn_broken, turn_closed, turn_empty, turn_on}
use Rattle.log_file.proofs.fold.turn.Goals as goal

pub returns-in_default-clause-turns : goal.returns-in_default-clause-turns
returns-in_default-clause-turns c bound = turn_empty bound c.args.place c.args.store.now.1 c.args.bytes.now c.in_default.ensures.cases

pub returns-then-gate-ne1-clause-turns : goal.returns-then-gate-ne1-clause-turns
returns-then-gate-ne1-clause-turns c bound =
    (turn_closed bound c.args.place c.in-Some.gate.now c.args.store.now.1 c.args.bytes.now c.in-Some.behind.now c.in-Some.ensures.cases.0 c.if-gate-ne1.true, refl)

pub returns-in-Ok-Some-clause-turns : goal.returns-in-Ok-Some-clause-turns
returns-in-Ok-Some-clause-turns c bound =
    turn_on bound c.args.place c.in-Some.gate.now c.args.store.now c.add_next.new.store c.args.bytes.now c.in-Some.behind.now c.in-Ok-Some.rest (λ i. omega (arith, c.type_inv.bytes i)) c.in-Some.ensures.cases.0 c.if-gate-ne1.false
    (subst (λ (r : Result (Option (Bor (List ℕ))) Memory). AddsNext (next_record (history_after c.args.store.now.1) c.in-Some.behind.now) c.args.store.now c.add_next.new.store r)
    (c.in-Ok-Some.is ∙ ap (λ (f : Option (Bor (List ℕ))). let r : Result (Option (Bor (List ℕ))) Memory = Ok f in r) c.in-Ok-Some.field-0-is) c.add_next.ensures)

pub returns-in-Ok-None-clause-turns : goal.returns-in-Ok-None-clause-turns
returns-in-Ok-None-clause-turns c bound =
    turn_broken bound c.args.place c.in-Some.gate.now c.args.store.now.1 c.args.bytes.now c.in-Some.behind.now c.in-Some.ensures.cases.0 c.if-gate-ne1.false
    (subst (λ (r : Result (Option (Bor (List ℕ))) Memory). AddsNext (next_record (history_after c.args.store.now.1) c.in-Some.behind.now) c.args.store.now c.add_next.new.store r)
    (c.in-Ok-None.is ∙ ap (λ (f : Option (Bor (List ℕ))). let r : Result (Option (Bor (List ℕ))) Memory = Ok f in r) c.in-Ok-None.field-0-is) c.add_next.ensures).0
