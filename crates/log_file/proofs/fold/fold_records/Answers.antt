use Rattle.std.proofs.Common.{◌+◌, ◌-◌, ℕ, List, length, Option, Some, None, Result, Ok, Err, ap, ◌∙◌, subst, arith}
use Rattle.std.specs.Borrow.{Bor}
use Rattle.object_store.specs.declared.cluster.ClusterFault.{ClusterFault}
use Rattle.log_file.specs.Folding.{Turns}
use Rattle.log_file.proofs.Turning.{folds_end, folds_fault, folds_first, folds_on, folds_out}
use Rattle.log_file.proofs.fold.fold_records.Goals as goal

pub loop-init : goal.loop-init
loop-init c = folds_first c.args.total c.args.store.now c.args.bytes.now c.requires

pub loop-preserved : goal.loop-preserved
loop-preserved c =
    folds_on c.args.total c.loop.counter c.args.store.now c.loop.store c.turn.new.store c.args.bytes.now c.loop.rest.now c.in-Ok-Some.behind c.loop-test.true c.loop.invariant
    (subst (λ (r : Result (Option (Bor (List ℕ))) ClusterFault). Turns (c.args.total - (c.loop.counter + 1)) (c.args.total - length c.loop.rest.now) c.loop.store.1 c.loop.rest.now c.turn.new.store.1 r)
    (c.in-Ok-Some.is ∙ ap (λ (f : Option (Bor (List ℕ))). let r : Result (Option (Bor (List ℕ))) ClusterFault = Ok f in r) c.in-Ok-Some.field-0-is) (c.turn.ensures.turns (c.args.total - (c.loop.counter + 1))))
    c.turn.ensures.limit

pub returns-in-Ok-None-clause-folds : goal.returns-in-Ok-None-clause-folds
returns-in-Ok-None-clause-folds c =
    folds_end c.args.total c.loop.counter c.args.store.now c.loop.store c.turn.new.store c.args.bytes.now c.loop.rest.now c.loop-test.true c.loop.invariant
    (subst (λ (r : Result (Option (Bor (List ℕ))) ClusterFault). Turns (c.args.total - (c.loop.counter + 1)) (c.args.total - length c.loop.rest.now) c.loop.store.1 c.loop.rest.now c.turn.new.store.1 r)
    (c.in-Ok-None.is ∙ ap (λ (f : Option (Bor (List ℕ))). let r : Result (Option (Bor (List ℕ))) ClusterFault = Ok f in r) c.in-Ok-None.field-0-is) (c.turn.ensures.turns (c.args.total - (c.loop.counter + 1))))

pub returns-in-Err-clause-folds : goal.returns-in-Err-clause-folds
returns-in-Err-clause-folds c =
    folds_fault c.in-Err.fault c.args.total c.loop.counter c.args.store.now c.loop.store c.turn.new.store c.args.bytes.now c.loop.rest.now c.loop-test.true c.loop.invariant
    (subst (λ (r : Result (Option (Bor (List ℕ))) ClusterFault). Turns (c.args.total - (c.loop.counter + 1)) (c.args.total - length c.loop.rest.now) c.loop.store.1 c.loop.rest.now c.turn.new.store.1 r)
    c.in-Err.is (c.turn.ensures.turns (c.args.total - (c.loop.counter + 1))))

pub returns-clause-folds : goal.returns-clause-folds
returns-clause-folds c =
    folds_out c.args.total c.loop.counter c.args.store.now c.loop.store c.args.bytes.now c.loop.rest.now (omega (arith, c.loop-test.false)) c.loop.invariant

pub overflow_sub-place : goal.overflow_sub-place
overflow_sub-place c = c.loop.invariant.short
