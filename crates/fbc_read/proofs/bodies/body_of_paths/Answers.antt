use Rattle.std.proofs.Common.{Ok, sym, ap, ◌∙◌}
use Rattle.fbc_read.proofs.Listing.{some_files, body_read, body_unread, body_refused}
use Rattle.fbc_read.proofs.bodies.body_of_paths.Goals as goal

pub returns-in-Err-clause-body : goal.returns-in-Err-clause-body
returns-in-Err-clause-body g c = let any = some_files (g.F.Folder.held c.args.folder.now) c.args.paths.now in (any.0, any.1, any.2, λ free. (cc))

pub returns-in_default-clause-body : goal.returns-in_default-clause-body
returns-in_default-clause-body g c = let any = some_files (g.F.Folder.held c.args.folder.now) c.args.paths.now in (any.0, any.1, any.2, λ free. (cc))

pub returns-in-Ok-Some-clause-body : goal.returns-in-Ok-Some-clause-body
returns-in-Ok-Some-clause-body g c =
    let found = body_refused (g.F.Folder.held c.args.folder.now) c.args.limit c.args.paths.now c.in-Ok-Some.path (sym c.in-Ok-Some.ensures ∙ c.in-Ok-Some.field-0-is) in
    (found.0, found.1, found.2, λ free. found.3)

pub returns-in-Ok-read_files-clause-body : goal.returns-in-Ok-read_files-clause-body
returns-in-Ok-read_files-clause-body g c =
    let read = c.in-Ok-read_files.ensures.files in
    body_read (g.F.Folder.held c.args.folder.now) c.args.limit c.args.paths.now c.as_slice.result.now read.0 c.as_slice-in-Ok-read_files.result.now c.join_files.result
    (sym c.in-Ok-None.ensures ∙ c.in-Ok-None.field-0-is) (c.as_slice.ensures ∙ c.in-Ok.ensures) read.1 read.2 (read.3 ∙ ap Ok (sym c.as_slice-in-Ok-read_files.ensures)) c.join_files.ensures.text

pub returns-clause-body : goal.returns-clause-body
returns-clause-body g c =
    let read = c.in-Err-read_files.ensures.files in
    body_unread (g.F.Folder.held c.args.folder.now) c.args.limit c.args.paths.now c.as_slice.result.now read.0 c.in-Err-read_files.fault c.folder_fault.result
    (sym c.in-Ok-None.ensures ∙ c.in-Ok-None.field-0-is) (c.as_slice.ensures ∙ c.in-Ok.ensures) read.1 read.2 read.3 c.folder_fault.ensures
