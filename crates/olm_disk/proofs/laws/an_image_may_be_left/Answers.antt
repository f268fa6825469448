use Rattle.std.specs.List.{take_while}
use Rattle.olm_disk.specs.MemDisk.{began_by, kept_at}
use Rattle.olm_disk.proofs.Images.{kept_sound}
use Rattle.olm_disk.proofs.Told.{image_may}
use Rattle.olm_disk.proofs.laws.an_image_may_be_left.Goals as goal

pub returns : goal.returns
returns c = λ disk moment keep image is. image_may keep (kept_at disk moment) image (kept_sound disk.start (take_while (began_by moment) disk.stages)) is
