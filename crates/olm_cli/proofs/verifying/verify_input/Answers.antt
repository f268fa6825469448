use Rattle.std.proofs.Common.{refl, subst, Some}
use Rattle.olm_cli.specs.Places.{InputHolds, within_limit}
use Rattle.olm_cli.specs.Runs.{Comes}
use Rattle.olm_cli.specs.Verifying.{TextRuns}
use Rattle.olm_cli.proofs.Came.{held_comes, step_comes, value_comes}
use Rattle.olm_cli.proofs.Verified.{a_text_run}
use Rattle.olm_cli.proofs.verifying.verify_input.Goals as goal

pub returns-in-Ok-clause-run : goal.returns-in-Ok-clause-run
returns-in-Ok-clause-run g c =
    let old = g.O.Sink.held c.args.out.now in
    let new = g.O.Sink.held c.verify_text.new.out in
    let left = g.S.Source.left c.args.input.now in
    let Permits = TextRuns c.args.names.package_name.now c.args.names.channel.now c.args.text in
    let read = c.in-Ok.ensures.answer in
    let came = subst (λ certificate. Comes (Permits certificate) c.verify_text.result old new) c.as_slice.ensures c.verify_text.ensures.run in
    held_comes (InputHolds left) Permits (within_limit read.0) c.verify_text.result old new (read.0, read.1, refl)
    (value_comes (within_limit read.0) Permits c.in-Ok.certificate c.verify_text.result old new read.2 came)

pub returns-in-Err-clause-run : goal.returns-in-Err-clause-run
returns-in-Err-clause-run g c =
    let known = g.O.Sink.held c.args.out.now in
    let left = g.S.Source.left c.args.input.now in
    let Permits = TextRuns c.args.names.package_name.now c.args.names.channel.now c.args.text in
    let read = c.in-Err.ensures.answer in
    held_comes (InputHolds left) Permits (within_limit read.0) (Some c.in-Err.cause) known known (read.0, read.1, refl)
    (step_comes (within_limit read.0) Permits c.in-Err.cause known (a_text_run c.args.names.package_name.now c.args.names.channel.now c.args.text) read.2)
