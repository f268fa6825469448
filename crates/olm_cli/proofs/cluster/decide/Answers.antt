use Rattle.std.proofs.Common.{◌∙◌, not, sym, subst, Some}
use Rattle.olm_io.specs.Outside.{Puts}
use Rattle.olm_cli.specs.Causes.{is_free_end}
use Rattle.olm_cli.specs.Cluster.{DecideRuns}
use Rattle.olm_cli.specs.Runs.{Comes}
use Rattle.olm_cli.proofs.Stored.{decided_comes, undecided_comes}
use Rattle.olm_cli.proofs.cluster.decide.Goals as goal

pub returns-in-Ok-clause-run : goal.returns-in-Ok-clause-run
returns-in-Ok-clause-run g c =
    let old = g.O.Sink.held c.args.out.now in
    let new = g.O.Sink.held c.print.new.out in
    let put = subst (λ piece. Puts (not (is_free_end c.print.result)) old new piece) c.as_slice.ensures.value c.print.ensures.output in
    decided_comes c.args.budget c.args.namespace.now c.in-Ok.answer (g.D.Disk.tells c.args.disk.now) (g.D.Disk.content c.args.disk.now) c.print.result old new
    c.in-Ok.ensures.answer (λ bound. sym c.ended.ensures.end ∙ c.print.ensures.end bound) put

pub returns-in-Err-clause-run : goal.returns-in-Err-clause-run
returns-in-Err-clause-run g c =
    let known = g.O.Sink.held c.args.out.now in
    let budget = c.args.budget in
    let namespace = c.args.namespace.now in
    let tells = g.D.Disk.tells c.args.disk.now in
    let content = g.D.Disk.content c.args.disk.now in
    subst (λ cause. Comes (DecideRuns budget namespace tells content) (Some cause) known known) (sym c.file_cause.ensures.cause)
    (undecided_comes budget namespace tells content c.in-Err.fault known c.in-Err.ensures.answer)
