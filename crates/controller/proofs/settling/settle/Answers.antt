use Rattle.std.proofs.Common.{◌≡◌, ℕ, refl, ◌∙◌, subst, arith}
use Rattle.run_rules.specs.Settling.{NoTurn, Turns}
use Rattle.run_rules.specs.States.{Outside}
use Rattle.controller.specs.Answers.{TurnAnswers, outside_of}
use Rattle.controller.specs.declared.answers.Turned.TheVariants as turned
use Rattle.controller.proofs.Trying.{same_outside}
use Rattle.controller.proofs.Turning.{ends_blocked, ends_failed, ends_full, ends_lacking, ends_quiet, one_more, rested}
use Rattle.controller.proofs.settling.settle.Goals as goal

pub turns-init : goal.turns-init
turns-init g c = record {
  made = NoTurn (g.C.Cluster.history c.args.cluster.now);
  tells = refl;
  limit = refl;
  ready = c.requires;
  sound = λ sound. sound;
  faults = omega arith;
}

pub turns-preserved : goal.turns-preserved
turns-preserved g c =
    let before = c.turns.invariant in
    let turn = c.in-Made.ensures in
    let old = c.args.cluster.now in
    let mid = c.turns.cluster in
    let new = c.turn.new.cluster in
    let outside = outside_of (g.C.Cluster.tells old) g.C.Cluster.fits (g.C.Cluster.limit old) in
    let same = same_outside (g.C.Cluster.tells mid) (g.C.Cluster.tells old) g.C.Cluster.fits (g.C.Cluster.limit mid) (g.C.Cluster.limit old) before.tells before.limit in
    record {
      made =
          one_more outside c.args.namespace.now c.args.turns c.turns.writes (g.C.Cluster.history old) (g.C.Cluster.history mid) (g.C.Cluster.history new) before.made
          (subst (λ (o : Outside). TurnAnswers o c.args.namespace.now (g.C.Cluster.history mid) (g.C.Cluster.history new) turned.Made) same turn.answer);
      tells = turn.tells ∙ before.tells;
      limit = turn.limit ∙ before.limit;
      ready = turn.ready;
      sound = λ sound. turn.sound (before.sound sound);
      faults = omega (arith, before.faults, turn.cause.later);
    }

pub returns-in-Quiet-clause-answer : goal.returns-in-Quiet-clause-answer
returns-in-Quiet-clause-answer g c =
    let before = c.turns.invariant in
    let old = c.args.cluster.now in
    let mid = c.turns.cluster in
    let new = c.turn.new.cluster in
    ends_quiet (outside_of (g.C.Cluster.tells old) g.C.Cluster.fits (g.C.Cluster.limit old)) c.args.namespace.now c.args.turns c.turns.writes
    (g.C.Cluster.history old) (g.C.Cluster.history mid) (g.C.Cluster.history new) before.made c.turns-test.true
    (subst (λ (o : Outside). TurnAnswers o c.args.namespace.now (g.C.Cluster.history mid) (g.C.Cluster.history new) turned.Quiet)
    (same_outside (g.C.Cluster.tells mid) (g.C.Cluster.tells old) g.C.Cluster.fits (g.C.Cluster.limit mid) (g.C.Cluster.limit old) before.tells before.limit)
    c.in-Quiet.ensures.answer)

pub returns-in-Blocked-clause-answer : goal.returns-in-Blocked-clause-answer
returns-in-Blocked-clause-answer g c =
    let before = c.turns.invariant in
    let old = c.args.cluster.now in
    let mid = c.turns.cluster in
    let new = c.turn.new.cluster in
    ends_blocked (outside_of (g.C.Cluster.tells old) g.C.Cluster.fits (g.C.Cluster.limit old)) c.args.namespace.now c.args.turns c.turns.writes
    (g.C.Cluster.history old) (g.C.Cluster.history mid) (g.C.Cluster.history new) before.made c.turns-test.true
    (subst (λ (o : Outside). TurnAnswers o c.args.namespace.now (g.C.Cluster.history mid) (g.C.Cluster.history new) turned.Blocked)
    (same_outside (g.C.Cluster.tells mid) (g.C.Cluster.tells old) g.C.Cluster.fits (g.C.Cluster.limit mid) (g.C.Cluster.limit old) before.tells before.limit)
    c.in-Blocked.ensures.answer)

pub returns-in-Full-clause-answer : goal.returns-in-Full-clause-answer
returns-in-Full-clause-answer g c =
    let before = c.turns.invariant in
    let old = c.args.cluster.now in
    let mid = c.turns.cluster in
    let new = c.turn.new.cluster in
    ends_full (outside_of (g.C.Cluster.tells old) g.C.Cluster.fits (g.C.Cluster.limit old)) c.args.namespace.now c.args.turns c.turns.writes
    (g.C.Cluster.history old) (g.C.Cluster.history mid) (g.C.Cluster.history new) before.made c.turns-test.true
    (subst (λ (o : Outside). TurnAnswers o c.args.namespace.now (g.C.Cluster.history mid) (g.C.Cluster.history new) turned.Full)
    (same_outside (g.C.Cluster.tells mid) (g.C.Cluster.tells old) g.C.Cluster.fits (g.C.Cluster.limit mid) (g.C.Cluster.limit old) before.tells before.limit)
    c.in-Full.ensures.answer)

pub returns-in-Failed-clause-answer : goal.returns-in-Failed-clause-answer
returns-in-Failed-clause-answer g c =
    let before = c.turns.invariant in
    let old = c.args.cluster.now in
    let mid = c.turns.cluster in
    let new = c.turn.new.cluster in
    ends_failed (outside_of (g.C.Cluster.tells old) g.C.Cluster.fits (g.C.Cluster.limit old)) c.args.namespace.now c.args.turns c.turns.writes
    (g.C.Cluster.history old) (g.C.Cluster.history mid) (g.C.Cluster.history new) before.made c.turns-test.true
    (subst (λ (o : Outside). TurnAnswers o c.args.namespace.now (g.C.Cluster.history mid) (g.C.Cluster.history new) turned.Failed)
    (same_outside (g.C.Cluster.tells mid) (g.C.Cluster.tells old) g.C.Cluster.fits (g.C.Cluster.limit mid) (g.C.Cluster.limit old) before.tells before.limit)
    c.in-Failed.ensures.answer)

pub returns-in-Memory-clause-answer : goal.returns-in-Memory-clause-answer
returns-in-Memory-clause-answer g c =
    let before = c.turns.invariant in
    let old = c.args.cluster.now in
    let mid = c.turns.cluster in
    let new = c.turn.new.cluster in
    ends_lacking (outside_of (g.C.Cluster.tells old) g.C.Cluster.fits (g.C.Cluster.limit old)) c.args.namespace.now c.args.turns c.turns.writes
    (g.C.Cluster.history old) (g.C.Cluster.history mid) (g.C.Cluster.history new) before.made c.turns-test.true
    (subst (λ (o : Outside). TurnAnswers o c.args.namespace.now (g.C.Cluster.history mid) (g.C.Cluster.history new) turned.Memory)
    (same_outside (g.C.Cluster.tells mid) (g.C.Cluster.tells old) g.C.Cluster.fits (g.C.Cluster.limit mid) (g.C.Cluster.limit old) before.tells before.limit)
    c.in-Memory.ensures.answer)

pub returns-clause-answer : goal.returns-clause-answer
returns-clause-answer g c =
    let before = c.turns.invariant in
    let old = c.args.cluster.now in
    let last : c.turns.writes ≡ c.args.turns = omega arith in
    let outside = outside_of (g.C.Cluster.tells old) g.C.Cluster.fits (g.C.Cluster.limit old) in
    rested outside c.args.namespace.now c.args.turns (g.C.Cluster.history old) (g.C.Cluster.history c.turns.cluster) (g.C.Cluster.history c.rest.new.cluster) c.rest.result
    (subst (λ (n : ℕ). Turns outside c.args.namespace.now n (g.C.Cluster.history old) (g.C.Cluster.history c.turns.cluster)) last before.made)
    c.rest.ensures.history c.rest.ensures.answer
