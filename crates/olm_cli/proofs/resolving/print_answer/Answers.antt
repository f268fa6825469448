use Rattle.std.proofs.Common.{◌∙◌, not, refl, sym, subst, Some, Ok, Err}
use Rattle.olm_io.specs.Outside.{Puts}
use Rattle.olm_cli.specs.Causes.{is_free_end}
use Rattle.olm_cli.specs.Resolving.{Answers, answered_run, problem_cause}
use Rattle.olm_cli.specs.Runs.{Comes}
use Rattle.olm_cli.proofs.Came.{stopped_comes}
use Rattle.olm_cli.proofs.resolving.print_answer.Goals as goal

pub returns-in-Ok-clause-run : goal.returns-in-Ok-clause-run
returns-in-Ok-clause-run g c =
    let old = g.O.Sink.held c.args.out.now in
    let new = g.O.Sink.held c.print.new.out in
    let put = subst (λ piece. Puts (not (is_free_end c.print.result)) old new piece) c.as_slice.ensures.value c.print.ensures.output in (
      answered_run (Ok c.in-Ok.answer),
      (Ok c.in-Ok.answer, c.in-Ok.ensures, refl),
      (λ bound. sym c.ended.ensures.end ∙ c.print.ensures.end bound),
      put,
    )

pub returns-in-Err-clause-run : goal.returns-in-Err-clause-run
returns-in-Err-clause-run g c =
    let known = g.O.Sink.held c.args.out.now in
    let Permits = Answers c.args.budget c.args.names.package_name.now c.args.names.channel.now c.args.text in
    subst (λ cause. Comes Permits (Some cause) known known) (sym c.problem_cause.ensures.cause)
    (stopped_comes Permits (problem_cause c.in-Err.fault) known (Err c.in-Err.fault, c.in-Err.ensures, refl))
