use Rattle.std.proofs.Common.{◌≡◌, false, subst, Ok, Err}
use Rattle.fbc_read.specs.Catalogs.{Read}
use Rattle.olm_cli.specs.Causes.{is_free}
use Rattle.olm_cli.specs.Reading.{valid_of}
use Rattle.olm_cli.specs.Resolving as spec
use Rattle.olm_cli.proofs.Came.{step_comes, value_comes}
use Rattle.olm_cli.proofs.Resolved.{an_answered_run}
use Rattle.olm_cli.proofs.resolving.resolve_text.Goals as goal

pub returns-in-Ok-clause-run : goal.returns-in-Ok-clause-run
returns-in-Ok-clause-run g c =
    let text = c.args.text in
    let valid : Read = record { count = c.in-Ok._valid.count; catalog = c.in-Ok._valid.catalog } in
    let read = subst (λ t. valid_of t ≡ Ok valid) c.as_slice.ensures c.in-Ok.ensures.answer in
    value_comes (valid_of text) (λ read. spec.Answers c.args.budget c.args.names.package_name.now c.args.names.channel.now text) valid c.print_answer.result (g.O.Sink.held c.args.out.now) (g.O.Sink.held c.print_answer.new.out) read c.print_answer.ensures.run

pub returns-in-Err-clause-run : goal.returns-in-Err-clause-run
returns-in-Err-clause-run g c =
    let budget = c.args.budget in
    let package_name = c.args.names.package_name.now in
    let channel = c.args.names.channel.now in
    let text = c.args.text in
    step_comes (valid_of text) (λ read. spec.Answers budget package_name channel text) c.in-Err.cause (g.O.Sink.held c.args.out.now)
    (λ read. an_answered_run budget package_name channel text)
    (subst (λ t. is_free c.in-Err.cause ≡ false → valid_of t ≡ Err c.in-Err.cause) c.as_slice.ensures c.in-Err.ensures.answer)
