use Rattle.std.proofs.Common.{◌≡◌, ◌∙◌, ◌-◌, ◌++◌, List, ℕ, ap, sym, subst, length, min, take, drop}
use Rattle.olm_disk.specs.MemDisk.{MemDiskState, kept_now}
use Rattle.olm_disk.proofs.Told.{content_now}
use Rattle.olm_disk.proofs.mem_disk.MemDiskDisk.read.Goals as goal

pub returns-clause-count : goal.returns-clause-count
returns-clause-count c =
    let d = c.self.inside in
    let held = c.deref.ensures.value ∙ sym (content_now d.start d.content.items d.stages.items _ d.clock d.settled d.call d.faults d.fails c.self.invariant) ∙ ap (λ (s : MemDiskState). (kept_now s).content) c.self.view_is in
    subst (λ (l : List ℕ). c.read_from.result ≡ min (length c.args.into.now) (length l - c.args.at)) held c.read_from.ensures.count

pub returns-clause-bytes : goal.returns-clause-bytes
returns-clause-bytes c =
    let d = c.self.inside in
    let held = c.deref.ensures.value ∙ sym (content_now d.start d.content.items d.stages.items _ d.clock d.settled d.call d.faults d.fails c.self.invariant) ∙ ap (λ (s : MemDiskState). (kept_now s).content) c.self.view_is in
    subst (λ (l : List ℕ). c.read_from.new.into ≡ take c.read_from.result (drop c.args.at l) ++ drop c.read_from.result c.args.into.now) held c.read_from.ensures.bytes
