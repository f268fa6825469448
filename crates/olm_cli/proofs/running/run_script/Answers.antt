use Rattle.std.proofs.Common.{◌≡◌, List, false, refl, subst, sym}
use Rattle.std.specs.List.{list_any}
use Rattle.event_script.specs.declared.events.Event.{Event}
use Rattle.folder_events.specs.Events.{is_of_folder}
use Rattle.std.proofs.KnownBytes.{Appends-nil}
use Rattle.file_commands.specs.FileRuns.{FileRuns}
use Rattle.olm_cli.specs.Worlds.{world}
use Rattle.olm_cli.proofs.Scripts.{none_asked, run_goes, run_stops}
use Rattle.olm_cli.proofs.running.run_script.Goals as goal

pub returns-in-Ok-clause-run : goal.returns-in-Ok-clause-run
returns-in-Ok-clause-run g c =
    let read = c.in-Ok.ensures.answer in
    let went = c.apply_script.ensures.run in
    let files = g.F.Folder.held c.args.folder.now in
    let old = world files (g.S.Source.left c.args.input.now) (g.D.Disk.tells c.args.disk.now) (g.D.Disk.content c.args.disk.now) (g.O.Sink.held c.args.out.now) in
    let new = world (g.F.Folder.held c.apply_script.new.folder) (g.S.Source.left c.read_script.new.input) (g.D.Disk.tells c.apply_script.new.disk) (g.D.Disk.content c.apply_script.new.disk) (g.O.Sink.held c.apply_script.new.out) in
    let runs = subst (λ events. FileRuns old.tells files went.0 events went.1 old.out new.out went.2) c.as_slice.ensures went.5 in
    run_goes old new c.in-Ok.events c.apply_script.result read.0 went.0 went.1 went.2 read.1 read.2 went.3 went.4 runs went.6

pub returns-in-Err-clause-run : goal.returns-in-Err-clause-run
returns-in-Err-clause-run g c =
    let out = g.O.Sink.held c.args.out.now in
    let old = world (g.F.Folder.held c.args.folder.now) (g.S.Source.left c.args.input.now) (g.D.Disk.tells c.args.disk.now) (g.D.Disk.content c.args.disk.now) out in
    let new = world (g.F.Folder.held c.args.folder.now) (g.S.Source.left c.read_script.new.input) (g.D.Disk.tells c.args.disk.now) (g.D.Disk.content c.args.disk.now) out in
    run_stops old new c.in-Err.cause c.in-Err.ensures.answer c.in-Err.ensures.kind (Appends-nil out, λ told. refl)

pub returns-in-Ok-clause-untouched_folder : goal.returns-in-Ok-clause-untouched_folder
returns-in-Ok-clause-untouched_folder g c = λ none.
    let asked = none_asked (g.S.Source.left c.args.input.now) c.in-Ok.events c.in-Ok.ensures.answer none in
    c.apply_script.ensures.untouched_folder (subst (λ (events : List Event). list_any is_of_folder events ≡ false) (sym c.as_slice.ensures) asked)
