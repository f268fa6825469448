use Rattle.std.proofs.Common.{◌≡◌, true, refl, sym, subst, Some, None}
use Rattle.olm_io.specs.Outside.{Rose}
use Rattle.olm_cli.specs.Causes.{is_silent}
use Rattle.olm_cli.specs.Commands.{opens_file, reads_folder, reads_input}
use Rattle.olm_cli.specs.Words.{command_of}
use Rattle.olm_cli.proofs.Came.{told_as, told_risen}
use Rattle.olm_cli.proofs.Said.{nothing_tells, silent_cause}
use Rattle.olm_cli.proofs.call.olmctl.Goals as goal

pub returns-in-None-clause-run : goal.returns-in-None-clause-run
returns-in-None-clause-run g c = (None, None, refl, refl, c.in-None.ensures.run, tt, nothing_tells (g.E.Sink.held c.args.err.now))

pub returns-in-Some-clause-run : goal.returns-in-Some-clause-run
returns-in-Some-clause-run g c =
    let command = command_of c.args.words.now in
    let told = c.tell_run-told.result in
    let same = c.tell_run-told.ensures.cause in
    let ran = c.in-Some.ensures in
    let folder = (reads_folder command ≡ true) × Rose (g.F.Folder.faults c.args.folder.now) (g.F.Folder.faults c.run.new.folder) in
    let input = (reads_input command ≡ true) × Rose (g.S.Source.faults c.args.input.now) (g.S.Source.faults c.run.new.input) in
    let disk = (opens_file command ≡ true) × Rose (g.D.Disk.faults c.args.disk.now) (g.D.Disk.faults c.run.new.disk) in
    let output = Rose (g.O.Sink.faults c.args.out.now) (g.O.Sink.faults c.run.new.out) in (
      Some c.in-Some.cause,
      Some told,
      told_as c.in-Some.cause told same,
      sym c.exit_of.ensures,
      ran.run,
      told_risen folder input disk output c.in-Some.cause told same
          (λ e. (ran.of_folder e, ran.folder.rose e)) (λ e. (ran.of_input e, ran.input.rose e))
          (λ e. (ran.of_disk e, ran.disk.rose e)) ran.output.rose,
      c.tell_run-told.ensures.line,
    )

pub returns-in-Some-clause-silent : goal.returns-in-Some-clause-silent
returns-in-Some-clause-silent g c = λ e. c.tell_run-told.ensures.silent (silent_cause c.tell_run-told.result (subst (λ x. is_silent x ≡ true) c.exit_of.ensures e))
