use Rattle.std.proofs.Common.{◌≡◌, le_refl, subst, sym}
use Rattle.std.specs.List.{take_while}
use Rattle.olm_disk.specs.MemDisk.{began_by, kept_at, IsImage}
use Rattle.olm_disk.proofs.Images.{kept_sound}
use Rattle.olm_disk.proofs.Told.{image_may}
use Rattle.olm_disk.proofs.mem_disk.MemDisk.image.Goals as goal

pub returns-clause-may : goal.returns-clause-may
returns-clause-may c =
    let disk = c.args.self.now in
    image_may c.args.keep (kept_at disk c.args.moment) _ (kept_sound disk.start (take_while (began_by c.args.moment) disk.stages)) (subst (IsImage c.args.keep (kept_at disk c.args.moment)) (sym c.from_vec.ensures) c.in_ok-image_at.ensures)

pub returns-clause-since : goal.returns-clause-since
returns-clause-since c =
    let disk = c.args.self.now in
    let may = image_may c.args.keep (kept_at disk c.args.moment) _ (kept_sound disk.start (take_while (began_by c.args.moment) disk.stages)) (subst (IsImage c.args.keep (kept_at disk c.args.moment)) (sym c.from_vec.ensures) c.in_ok-image_at.ensures) in
    (c.args.moment, le_refl c.args.moment, c.requires, may)
