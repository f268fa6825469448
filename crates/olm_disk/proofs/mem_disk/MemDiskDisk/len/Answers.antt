use Rattle.std.proofs.Common.{◌≡◌, ◌∙◌, ap, sym, length}
use Rattle.olm_disk.specs.MemDisk.{MemDiskState, kept_now}
use Rattle.olm_disk.proofs.Told.{content_now}
use Rattle.olm_disk.proofs.mem_disk.MemDiskDisk.len.Goals as goal

pub returns-clause-len : goal.returns-clause-len
returns-clause-len c =
    let d = c.self.inside in
    ap length (c.as_slice.ensures.value ∙ sym (content_now d.start d.content.items d.stages.items _ d.clock d.settled d.call d.faults d.fails c.self.invariant) ∙ ap (λ (s : MemDiskState). (kept_now s).content) c.self.view_is)
