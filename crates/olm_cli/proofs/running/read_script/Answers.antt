use Rattle.olm_cli.proofs.Scripts.{no_script_gives, script_gives}
use Rattle.std.proofs.Common.{subst}
use Rattle.event_script.specs.Script.{events_of}
use Rattle.olm_base.specs.Outcome.{Gives}
use Rattle.olm_cli.specs.Causes.{is_free}
use Rattle.olm_cli.specs.Running.{or_event_cause}
use Rattle.olm_cli.proofs.running.read_script.Goals as goal

pub returns-in-Ok-clause-answer : goal.returns-in-Ok-clause-answer
returns-in-Ok-clause-answer g c =
    let read = c.in-Ok.ensures.answer in
    let given = subst (λ text. Gives is_free (or_event_cause (events_of text)) c.text_events.result) c.as_slice.ensures c.text_events.ensures.answer in
    script_gives (g.S.Source.left c.args.input.now) read.0 c.in-Ok.text c.text_events.result read.1 read.2 given

pub returns-in-Err-clause-answer : goal.returns-in-Err-clause-answer
returns-in-Err-clause-answer g c =
    let read = c.in-Err.ensures.answer in
    no_script_gives (g.S.Source.left c.args.input.now) read.0 c.in-Err.cause read.1 read.2
