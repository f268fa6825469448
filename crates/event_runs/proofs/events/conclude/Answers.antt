use Rattle.std.proofs.Common.{◌≡◌, ap, subst}
use Rattle.user_events.specs.Answers.{Answers, store_failed}
use Rattle.user_events.specs.declared.answers.UserAnswer.{UserAnswer}
use Rattle.folder_events.specs.Events.{Asks}
use Rattle.event_runs.proofs.Stepping.{done_steps, refused_steps, lost_steps, memory_steps}
use Rattle.event_runs.proofs.events.conclude.Goals as goal

pub returns-in-Done-clause-steps : goal.returns-in-Done-clause-steps
returns-in-Done-clause-steps g c tells fits limit files h new is =
    done_steps tells fits limit files h new c.args.event.now (g.O.Sink.held c.args.out.now) (g.O.Sink.held c.print_done.new.out) c.in-Done.key c.in-Done.version
    (subst (λ (a : UserAnswer). Answers fits limit h (Asks files h c.args.event.now) new a) c.in-Done.is is) c.print_done.result c.print_done.ensures.prints

pub returns-in-Refused-clause-steps : goal.returns-in-Refused-clause-steps
returns-in-Refused-clause-steps g c tells fits limit files h new is =
    refused_steps tells fits limit files h new c.args.event.now (g.O.Sink.held c.args.out.now) (g.O.Sink.held c.print_refused.new.out) c.in-Refused.reason
    (subst (λ (a : UserAnswer). Answers fits limit h (Asks files h c.args.event.now) new a) c.in-Refused.is is) c.print_refused.result c.print_refused.ensures.prints

pub returns-in-StoreFailed-clause-steps : goal.returns-in-StoreFailed-clause-steps
returns-in-StoreFailed-clause-steps g c tells fits limit files h new is =
    lost_steps tells fits limit files h new c.args.event.now (g.O.Sink.held c.args.out.now) (c.requires.key (ap store_failed c.in-StoreFailed.is))
    (subst (λ (a : UserAnswer). Answers fits limit h (Asks files h c.args.event.now) new a) c.in-StoreFailed.is is)

pub returns-in-Memory-clause-steps : goal.returns-in-Memory-clause-steps
returns-in-Memory-clause-steps g c tells fits limit files h new is =
    memory_steps tells fits limit files h new c.args.event.now (g.O.Sink.held c.args.out.now)
    (subst (λ (a : UserAnswer). Answers fits limit h (Asks files h c.args.event.now) new a) c.in-Memory.is is)
