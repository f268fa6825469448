use Rattle.std.proofs.Common.{inl}
use Rattle.run_rules.specs.States.{present}
use Rattle.controller.specs.Answers.{outside_of}
use Rattle.controller.proofs.Trying.{same_outside}
use Rattle.controller.proofs.Turning.{next_is_turn, none_is_quiet, of_turn_then}
use Rattle.controller.proofs.settling.turn.Goals as goal

pub returns-in-Ok-Some-clause-answer : goal.returns-in-Ok-Some-clause-answer
returns-in-Ok-Some-clause-answer g c =
    let old = c.args.cluster.now in
    let mid = c.next_write.new.cluster in
    let looked = c.in-Ok-Some.ensures in
    let h = g.C.Cluster.history old in
    of_turn_then (outside_of (g.C.Cluster.tells mid) g.C.Cluster.fits (g.C.Cluster.limit mid))
    (outside_of (g.C.Cluster.tells old) g.C.Cluster.fits (g.C.Cluster.limit old)) c.args.namespace.now
    h (g.C.Cluster.history mid) (g.C.Cluster.history c.put_turn.new.cluster) c.in-Ok-Some.write c.put_turn.result
    (same_outside (g.C.Cluster.tells mid) (g.C.Cluster.tells old) g.C.Cluster.fits (g.C.Cluster.limit mid) (g.C.Cluster.limit old) looked.tells looked.limit)
    looked.history
    (next_is_turn (present h c.args.namespace.now) c.in-Ok-Some.field-0 c.in-Ok-Some.write c.in-Ok-Some.field-0-is looked.next)
    c.put_turn.ensures.answer

pub returns-in-Ok-None-clause-answer : goal.returns-in-Ok-None-clause-answer
returns-in-Ok-None-clause-answer g c = (
  none_is_quiet (present (g.C.Cluster.history c.args.cluster.now) c.args.namespace.now) c.in-Ok-None.field-0 c.in-Ok-None.field-0-is c.in-Ok-None.ensures.next,
  c.in-Ok-None.ensures.history,
)

pub returns-in-Err-Failed-clause-answer : goal.returns-in-Err-Failed-clause-answer
returns-in-Err-Failed-clause-answer g c = inl c.next_write.ensures.history
