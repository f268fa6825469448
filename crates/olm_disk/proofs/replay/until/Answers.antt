use Rattle.std.proofs.Common.{◌≡◌, ◌∙◌, ap, take}
use Rattle.std.proofs.lemmas.List.Folds.{length-prefix_len}
use Rattle.olm_disk.specs.MemDisk.{began_by}
use Rattle.olm_disk.proofs.replay.until.Goals as goal

pub returns : goal.returns
returns c = ap (λ n. take n c.args.stages.now) (c.count_until.ensures ∙ length-prefix_len (began_by c.args.moment) c.args.stages.now)
