use Rattle.std.proofs.Common.{◌≡◌, ◌≤◌, ◌+◌, ◌++◌, ◌∷◌, [], ◌∙◌, List, ℕ, Option, Some, length, ap, sym, refl, arith}
use Rattle.std.specs.Prelude.{vec_capacity}
use Rattle.olm_disk.specs.Kept.{Kept, begun, after}
use Rattle.olm_disk.specs.MemDisk.{first_content}
use Rattle.olm_disk.specs.declared.change.Change.TheVariants.{Cut, LostCut}
use Rattle.olm_disk.specs.declared.change.Stage.{Stage}
use Rattle.olm_disk.proofs.Parts as parts
use Rattle.olm_disk.proofs.mem_disk.MemDiskDisk.cut.Goals as goal

pub invariant_of-self-then-is_listed : goal.invariant_of-self-then-is_listed
invariant_of-self-then-is_listed c =
    let d = c.self.inside in
    let change = LostCut c.args.len in
    let kept : c.make_room.new.start ≡ Some (first_content d.start d.content.items) = c.in-Ok.ensures.kept ∙ ap (λ (l : List ℕ). Some (first_content d.start l)) c.deref.ensures.value in
    let more = c.note.ensures.items ∙ ap (λ (l : List Stage). l ++ record { first = c.saturating_add-now.result; change = change } ∷ []) c.in-Ok.ensures.stages in
    parts.noted d.start d.content.items d.stages.items (vec_capacity d.stages) d.clock d.settled c.self.invariant c.make_room.new.start d.content.items c.note.new.stages.items _ c.saturating_add-now.result change
    kept (omega (arith, c.saturating_add-now.ensures, c.self.ranges)) refl more (omega (arith, c.in-Ok.ensures.room, ap length c.in-Ok.ensures.stages, c.note.ensures.capacity))

pub returns-then-is_listed-clause-failed : goal.returns-then-is_listed-clause-failed
returns-then-is_listed-clause-failed c = λ failed.
    let d = c.self.inside in
    let change = LostCut c.args.len in
    let kept : c.make_room.new.start ≡ Some (first_content d.start d.content.items) = c.in-Ok.ensures.kept ∙ ap (λ (l : List ℕ). Some (first_content d.start l)) c.deref.ensures.value in
    let more = c.note.ensures.items ∙ ap (λ (l : List Stage). l ++ record { first = c.saturating_add-now.result; change = change } ∷ []) c.in-Ok.ensures.stages in
    let steps = parts.noted_steps d.start d.content.items d.stages.items (vec_capacity d.stages) d.clock d.settled c.self.invariant c.make_room.new.start d.content.items c.note.new.stages.items c.saturating_add-now.result change d.call d.faults d.fails c.saturating_add-self-inside.result c.saturating_add-self-inside-then-is_listed.result d.fails
    (ap (λ (s : Option (List ℕ)). first_content s d.content.items) kept) (omega (arith, c.self.ranges)) (omega (arith, c.saturating_add-now.ensures)) more in
    parts.steps_from _ _ _ (λ kept. after kept change) c.self.view_is steps

pub invariant_of-self-2 : goal.invariant_of-self-2
invariant_of-self-2 c =
    let d = c.self.inside in
    let change = Cut c.args.len in
    let kept : c.make_room.new.start ≡ Some (first_content d.start d.content.items) = c.in-Ok.ensures.kept ∙ ap (λ (l : List ℕ). Some (first_content d.start l)) c.deref.ensures.value in
    let more = c.note-2.ensures.items ∙ ap (λ (l : List Stage). l ++ record { first = c.saturating_add-now.result; change = change } ∷ []) c.in-Ok.ensures.stages in
    parts.noted d.start d.content.items d.stages.items (vec_capacity d.stages) d.clock d.settled c.self.invariant c.make_room.new.start c.truncate.new.self.items c.note-2.new.stages.items _ c.saturating_add-now.result change
    kept (omega (arith, c.saturating_add-now.ensures, c.self.ranges)) c.truncate.ensures.items more (omega (arith, c.in-Ok.ensures.room, ap length c.in-Ok.ensures.stages, c.note-2.ensures.capacity))

pub returns-clause-ok : goal.returns-clause-ok
returns-clause-ok c =
    let d = c.self.inside in
    let change = Cut c.args.len in
    let kept : c.make_room.new.start ≡ Some (first_content d.start d.content.items) = c.in-Ok.ensures.kept ∙ ap (λ (l : List ℕ). Some (first_content d.start l)) c.deref.ensures.value in
    let more = c.note-2.ensures.items ∙ ap (λ (l : List Stage). l ++ record { first = c.saturating_add-now.result; change = change } ∷ []) c.in-Ok.ensures.stages in
    let steps = parts.noted_steps d.start d.content.items d.stages.items (vec_capacity d.stages) d.clock d.settled c.self.invariant c.make_room.new.start c.truncate.new.self.items c.note-2.new.stages.items c.saturating_add-now.result change d.call d.faults d.fails c.saturating_add-self-inside-2.result d.faults d.fails
    (ap (λ (s : Option (List ℕ)). first_content s c.truncate.new.self.items) kept) (omega (arith, c.self.ranges)) (omega (arith, c.saturating_add-now.ensures)) more in
    parts.steps_from _ _ _ (λ kept. after kept change) c.self.view_is steps
