use Rattle.std.proofs.Common.{◌≡◌, ◌<◌, ◌+◌, ◌-◌, Err, sym, ap, subst, ◌∙◌, arith, length, drop}
use Rattle.olm_folder.specs.Files.{AreTold}
use Rattle.olm_io.specs.ReadAll.{is_free}
use Rattle.fbc_read.proofs.Listing.{HasRead, at_next, some_files, too_long, no_room, read_on}
use Rattle.fbc_read.proofs.bodies.read_files.Goals as goal

pub returns-in-Err-Failed-clause-files : goal.returns-in-Err-Failed-clause-files
returns-in-Err-Failed-clause-files g c = let any = some_files (g.F.Folder.held c.args.folder.now) c.args.paths.now in (any.0, any.1, any.2, λ free. (cc))

pub returns-in-Err-Memory-clause-files : goal.returns-in-Err-Memory-clause-files
returns-in-Err-Memory-clause-files g c = let any = some_files (g.F.Folder.held c.args.folder.now) c.args.paths.now in (any.0, any.1, any.2, λ free. (cc))

pub returns-in-Err-clause-files : goal.returns-in-Err-clause-files
returns-in-Err-clause-files g c = let any = some_files (g.F.Folder.held c.args.folder.now) c.args.paths.now in (any.0, any.1, any.2, λ free. (cc))

pub returns-in-Err-TooLong-clause-files : goal.returns-in-Err-TooLong-clause-files
returns-in-Err-TooLong-clause-files g c =
    let held = g.F.Folder.held c.args.folder.now in
    let read = at_next held c.args.paths.now c.paths.path-index c.path-item.result c.args.limit c.paths.left c.paths.files.items c.paths-test.true c.path-item.is c.paths.invariant.read in
    let told = c.in-Err-TooLong.ensures.bytes in
    let found = too_long held c.path-item.result (drop (c.paths.path-index + 1) c.args.paths.now) c.args.paths.now c.args.limit c.paths.left c.in-Err-TooLong.field-0-0 c.paths.files.items told.0 read (subst (λ h. AreTold h told.0) c.paths.invariant.same told.1) (told.2 (ap is_free c.in-Err-TooLong.field-0-is) ∙ ap Err c.in-Err-TooLong.field-0-is) in
    (found.0, found.1, found.2, λ free. found.3)

pub returns-then-length-left-clause-files : goal.returns-then-length-left-clause-files
returns-then-length-left-clause-files g c =
    let held = g.F.Folder.held c.args.folder.now in
    let read = at_next held c.args.paths.now c.paths.path-index c.path-item.result c.args.limit c.paths.left c.paths.files.items c.paths-test.true c.path-item.is c.paths.invariant.read in
    let told = c.in-Ok.ensures.bytes in
    let found = no_room held c.path-item.result (drop (c.paths.path-index + 1) c.args.paths.now) c.args.paths.now c.args.limit c.paths.left c.paths.files.items told.0 c.in-Ok.bytes read (subst (λ h. AreTold h told.0) c.paths.invariant.same told.1) told.2 (omega (arith, c.if-length-left.true, ap length c.as_slice.ensures)) in
    (found.0, found.1, found.2, λ free. found.3)

pub paths-preserved : goal.paths-preserved
paths-preserved g c =
    let held = g.F.Folder.held c.args.folder.now in
    let read = at_next held c.args.paths.now c.paths.path-index c.path-item.result c.args.limit c.paths.left c.paths.files.items c.paths-test.true c.path-item.is c.paths.invariant.read in
    let told = c.in-Ok.ensures.bytes in
    let size : length c.as_slice.result.now ≡ length c.in-Ok.bytes = ap length c.as_slice.ensures in
    let fits : length c.in-Ok.bytes < c.paths.left = omega (arith, c.if-length-left.false, size) in
    let more = read_on held c.path-item.result (drop (c.paths.path-index + 1) c.args.paths.now) c.args.paths.now c.args.limit c.paths.left c.paths.files.items told.0 c.in-Ok.bytes read (subst (λ h. AreTold h told.0) c.paths.invariant.same told.1) told.2 fits (c.paths.left - (length c.as_slice.result.now + 1)) (omega (arith, size, fits)) in
    record {
      same = c.in-Ok.ensures.same ∙ c.paths.invariant.same;
      later = omega (arith, c.in-Ok.ensures.cause.later, c.paths.invariant.later);
      read = subst (HasRead held (drop (c.paths.path-index + 1) c.args.paths.now) c.args.paths.now c.args.limit (c.paths.left - (length c.as_slice.result.now + 1))) (sym c.in-Ok-keep_file.ensures) more;
    }
