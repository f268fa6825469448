use Rattle.std.proofs.Common.{◌≡◌, ℕ, List, None, not, refl, subst}
use Rattle.olm_io.specs.Outside.{Puts}
use Rattle.olm_cli.specs.Causes.{is_free_end}
use Rattle.olm_cli.specs.Graph.{graph_of}
use Rattle.olm_cli.specs.Runs.{Ran}
use Rattle.olm_cli.proofs.Came.{step_comes, value_comes}
use Rattle.olm_cli.proofs.graph.graph_text.Goals as goal

abbrev Lists : List ℕ → Ran → Type 0
Lists lines ran = ran ≡ record { output = lines; end = None }

pub returns-in-Ok-clause-run : goal.returns-in-Ok-clause-run
returns-in-Ok-clause-run g c =
    let old = g.O.Sink.held c.args.out.now in
    let new = g.O.Sink.held c.print.new.out in
    let put = subst (λ piece. Puts (not (is_free_end c.print.result)) old new piece) c.as_slice.ensures c.print.ensures.output in
    value_comes (graph_of c.args.names.package_name.now c.args.names.channel.now c.args.text.now) Lists c.in-Ok.lines c.print.result old new c.in-Ok.ensures.answer
    (record { output = c.in-Ok.lines; end = None }, refl, c.print.ensures.end, put)

pub returns-in-Err-clause-run : goal.returns-in-Err-clause-run
returns-in-Err-clause-run g c =
    step_comes (graph_of c.args.names.package_name.now c.args.names.channel.now c.args.text.now) Lists c.in-Err.cause (g.O.Sink.held c.args.out.now)
    (λ lines. (record { output = lines; end = None }, refl)) c.in-Err.ensures.answer
