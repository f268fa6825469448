use Rattle.std.proofs.Common.{◌≡◌, refl, subst, Some}
use Rattle.olm_cli.specs.Commands.{CommandRuns}
use Rattle.olm_cli.specs.Runs.{Ran, stopped}
use Rattle.olm_cli.specs.Words.{command_of}
use Rattle.olm_cli.specs.Worlds.{world}
use Rattle.olm_cli.specs.declared.causes.Cause.TheVariants.{BadWords}
use Rattle.olm_cli.proofs.Came.{stopped_comes}
use Rattle.olm_cli.proofs.call.run.Goals as goal

abbrev Stops : Ran → Type 0
Stops ran = ran ≡ stopped BadWords

pub returns-in-None-clause-run : goal.returns-in-None-clause-run
returns-in-None-clause-run g c =
    let out = g.O.Sink.held c.args.out.now in
    let old = world (g.F.Folder.held c.args.folder.now) (g.S.Source.left c.args.input.now) (g.D.Disk.tells c.args.disk.now) (g.D.Disk.content c.args.disk.now) out in
    subst (λ command. CommandRuns command old old (Some BadWords)) c.in-None.ensures (stopped_comes Stops BadWords out refl, λ told. refl)
