use Rattle.olm_cli.proofs.Verified.{no_text_comes, text_comes}
use Rattle.olm_cli.proofs.verifying.verify.Goals as goal

pub returns-in-Ok-clause-run : goal.returns-in-Ok-clause-run
returns-in-Ok-clause-run g c =
    let names = c.args.names in
    let read = c.in-Ok.ensures.answer in
    text_comes c.args.path.now names.package_name.now names.channel.now (g.F.Folder.held c.args.folder.now) (g.S.Source.left c.args.input.now) read.0 c.in-Ok.text c.verify_input.result (g.O.Sink.held c.args.out.now) (g.O.Sink.held c.verify_input.new.out)
    read.1 read.2 c.verify_input.ensures.run

pub returns-in-Err-clause-run : goal.returns-in-Err-clause-run
returns-in-Err-clause-run g c =
    let names = c.args.names in
    let read = c.in-Err.ensures.answer in
    no_text_comes c.args.path.now names.package_name.now names.channel.now (g.F.Folder.held c.args.folder.now) (g.S.Source.left c.args.input.now) read.0 c.in-Err.cause c.stop_without_text.result (g.O.Sink.held c.args.out.now)
    read.1 read.2 c.stop_without_text.ensures.run
