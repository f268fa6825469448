use Rattle.std.proofs.Common.{◌≡◌, ◌≤◌, ◌^◌, ◌-◌, ap, subst, sym, refl, arith}
use Rattle.std.specs.Prelude.{vec_capacity}
use Rattle.olm_io.specs.Outside.{one_more}
use Rattle.olm_disk.specs.Kept.{Kept, begun, after}
use Rattle.olm_disk.specs.MemDisk.{MemDiskState, Steps, kept_now}
use Rattle.olm_disk.specs.declared.change.Change.TheVariants.{Synced}
use Rattle.olm_disk.proofs.Parts as parts
use Rattle.olm_disk.proofs.mem_disk.MemDiskDisk.sync.Goals as goal

pub invariant_of-self : goal.invariant_of-self
invariant_of-self c =
    let d = c.self.inside in
    parts.went_on d.start d.content.items d.stages.items (vec_capacity d.stages) d.clock d.settled c.self.invariant c.saturating_add-now.result (omega (arith, c.saturating_add-now.ensures, c.self.ranges))

pub returns-then-fails-clause-failed : goal.returns-then-fails-clause-failed
returns-then-fails-clause-failed c =
    let d = c.self.inside in
    let steps = parts.still_steps d.start d.content.items d.stages.items (vec_capacity d.stages) d.clock d.settled c.self.invariant c.saturating_add-now.result d.call d.faults d.fails c.saturating_add-self-inside.result c.saturating_add-self-inside-then-fails.result d.fails
    (omega (arith, c.self.ranges)) (omega (arith, c.saturating_add-now.ensures)) in
    parts.steps_from _ _ _ (λ kept. kept) c.self.view_is steps

pub invariant_of-self-then-not-self : goal.invariant_of-self-then-not-self
invariant_of-self-then-not-self c =
    let d = c.self.inside in
    parts.noted_sync d.start d.content.items d.stages.items (vec_capacity d.stages) d.clock d.settled c.self.invariant c.note.new.stages.items _ c.saturating_add-now.result
    (omega (arith, c.saturating_add-now.ensures, c.self.ranges)) c.note.ensures.items

pub invariant_of-self-else-not-self : goal.invariant_of-self-else-not-self
invariant_of-self-else-not-self c =
    let d = c.self.inside in
    parts.went_on d.start d.content.items d.stages.items (vec_capacity d.stages) d.clock d.settled c.self.invariant c.saturating_add-now.result (omega (arith, c.saturating_add-now.ensures, c.self.ranges))

pub returns-then-not-self-clause-ok : goal.returns-then-not-self-clause-ok
returns-then-not-self-clause-ok c =
    let d = c.self.inside in
    let steps = parts.noted_steps d.start d.content.items d.stages.items (vec_capacity d.stages) d.clock d.settled c.self.invariant d.start d.content.items c.note.new.stages.items c.saturating_add-now.result Synced d.call d.faults d.fails c.saturating_add-self-inside.result d.faults d.fails
    refl (omega (arith, c.self.ranges)) (omega (arith, c.saturating_add-now.ensures)) c.note.ensures.items in
    parts.steps_from _ _ _ (λ kept. begun kept.content) c.self.view_is steps

pub returns-else-not-self-clause-ok : goal.returns-else-not-self-clause-ok
returns-else-not-self-clause-ok c =
    let d = c.self.inside in
    let steps = parts.still_steps d.start d.content.items d.stages.items (vec_capacity d.stages) d.clock d.settled c.self.invariant c.saturating_add-now.result d.call d.faults d.fails c.saturating_add-self-inside.result d.faults d.fails
    (omega (arith, c.self.ranges)) (omega (arith, c.saturating_add-now.ensures)) in
    let settled = parts.settled_now d.start d.content.items d.stages.items (vec_capacity d.stages) d.clock d.settled c.self.invariant d.call d.faults d.fails c.if-not-self.false in
    parts.steps_from _ _ _ (λ kept. begun kept.content) c.self.view_is (parts.steps_settled _ _ settled steps)
