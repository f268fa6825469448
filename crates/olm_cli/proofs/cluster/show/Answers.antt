use Rattle.std.proofs.Common.{◌≡◌, not, sym, subst, Some}
use Rattle.cluster_commands.specs.Asked.{shown_in}
use Rattle.olm_io.specs.Outside.{Puts}
use Rattle.olm_cli.specs.Causes.{is_free_end}
use Rattle.olm_cli.specs.Cluster.{ShowRuns, file_cause}
use Rattle.olm_cli.specs.Runs.{Comes}
use Rattle.olm_cli.proofs.Stored.{shown_comes, unshown_comes}
use Rattle.olm_cli.proofs.cluster.show.Goals as goal

pub returns-in-Ok-clause-run : goal.returns-in-Ok-clause-run
returns-in-Ok-clause-run g c =
    let old = g.O.Sink.held c.args.out.now in
    let new = g.O.Sink.held c.print.new.out in
    let namespace = c.args.namespace.now in
    let put = subst (λ piece. Puts (not (is_free_end c.print.result)) old new piece) c.as_slice.ensures.value c.print.ensures.output in
    shown_comes (λ h lines. lines.items ≡ shown_in h namespace) namespace c.in-Ok.lines.items (g.D.Disk.tells c.args.disk.now) (g.D.Disk.content c.args.disk.now) c.in-Ok.lines c.print.result old new
    c.in-Ok.ensures.lines (λ h e. e) c.print.ensures.end put

pub returns-in-Err-clause-run : goal.returns-in-Err-clause-run
returns-in-Err-clause-run g c =
    let known = g.O.Sink.held c.args.out.now in
    let namespace = c.args.namespace.now in
    let tells = g.D.Disk.tells c.args.disk.now in
    let content = g.D.Disk.content c.args.disk.now in
    subst (λ cause. Comes (ShowRuns namespace tells content) (Some cause) known known) (sym c.file_cause.ensures.cause)
    (unshown_comes c.lines_in.result (λ h lines. lines.items ≡ shown_in h namespace) namespace tells content c.in-Err.fault known c.in-Err.ensures.lines)
