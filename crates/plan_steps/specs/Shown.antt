-- What the values of this crate stand for in the definition of the installer's writes.
use Rattle.std.specs.Prelude.{◌≡◌, Bool, true, false, List, [], Option, Some, None, if◌then◌else◌, nat_le, slice_get, unwrap_or}
use Rattle.cluster_objects.specs.declared.objects.Write.{Write}
use Rattle.cluster_objects.specs.declared.plans.PlanStatus.{PlanStatus}
use Rattle.cluster_objects.specs.declared.plans.Step.{Step}
use Rattle.cluster_history.specs.History.{never_written}
use Rattle.cluster_history.specs.Views.{View}
use Rattle.cluster_history.specs.declared.slots.Slot.{Slot}
use Rattle.lawful_history.specs.Installing as installing
use Rattle.plan_steps.specs.declared.moves.Move.{Move}
use Rattle.plan_steps.specs.declared.moves.Move.TheVariants as move
use Rattle.plan_steps.specs.declared.writes.Standing.{Standing}

-- a move in memory, with its step behind a reference
abbrev pub move_shown : Move → installing.Move
move_shown move.Rest = installing.Rest
move_shown move.Begin = installing.Begin
move_shown move.Finish = installing.Finish
move_shown move.Fail = installing.Fail
move_shown (move.Aim i s) = installing.Aim i s.now
move_shown (move.Land i s v) = installing.Land i s.now v

-- the step of a move, if it has one, is the one at its index
abbrev pub IsOneOf : List Step → Move → Type 0
IsOneOf steps move.Rest = Unit {0}
IsOneOf steps move.Begin = Unit {0}
IsOneOf steps move.Finish = Unit {0}
IsOneOf steps move.Fail = Unit {0}
IsOneOf steps (move.Aim i s) = slice_get steps i ≡ Some s.now
IsOneOf steps (move.Land i s v) = slice_get steps i ≡ Some s.now

-- the slot of a key that a view shows or doesn't show
abbrev pub slot_shown : Option Slot → Slot
slot_shown there = unwrap_or there never_written

-- the object of a plan that stands at a key, with another status
abbrev pub plan_write : View → Standing → PlanStatus → Write
plan_write view standing plan =
    installing.plan_write view standing.key.now standing.version standing.object.now plan

-- the write of such a plan's move
abbrev pub move_write : View → Standing → installing.Move → Option Write
move_write view standing next =
    installing.move_write view standing.key.now standing.version standing.object.now standing.plan.now next

abbrev pub write_of : View → Standing → Option Write
write_of view standing = move_write view standing (installing.next_move standing.plan.now)

-- the write of a plan, if there is one, beside its number
abbrev pub writes_of : View → Option Standing → List installing.Numbered
writes_of view None = []
writes_of view (Some standing) = installing.numbered standing.plan.now.number (write_of view standing)

abbrev pub first_of : View → Option Standing → Option installing.Numbered
first_of view standing = slice_get (writes_of view standing) 0

abbrev pub is_rest : installing.Move → Bool
is_rest installing.Rest = true
is_rest installing.Begin = false
is_rest installing.Finish = false
is_rest installing.Fail = false
is_rest (installing.Aim i s) = false
is_rest (installing.Land i s v) = false

-- the plan, if there is one, has a move
abbrev pub AllMove : Option Standing → Type 0
AllMove None = Unit {0}
AllMove (Some standing) = is_rest (installing.next_move standing.plan.now) ≡ false

-- the one of the lower number, and the first where the numbers are the same
abbrev pub lower : Option installing.Numbered → Option installing.Numbered → Option installing.Numbered
lower None y = y
lower (Some x) None = Some x
lower (Some x) (Some y) = if nat_le x.0 y.0 then Some x else Some y
