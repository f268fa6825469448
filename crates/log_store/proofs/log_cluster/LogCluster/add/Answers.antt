use Rattle.std.proofs.Common.{ℕ, ◌+◌, length, false, Result, Ok, Err, refl}
use Rattle.olm_io.specs.declared.traits.Outage.{Outage}
use Rattle.olm_io.specs.declared.traits.Outage.TheVariants as outage
use Rattle.log_store.proofs.Crashing.{leaves_on}
use Rattle.log_store.proofs.Putting.{puts_on}
use Rattle.log_store.proofs.log_cluster.LogCluster.add.Goals as goal

pub returns-in-Ok-clause-puts : goal.returns-in-Ok-clause-puts
returns-in-Ok-clause-puts g c =
    let s = c.self.inside in
    let r : Result ℕ Outage = Ok c.in-Ok.version in
    puts_on g.D.Disk.tells g.D.Disk.content g.D.Disk.pending g.D.Disk.faults c.args.self.now s.disk c.keep.new.disk s.limit s.gate (s.gate + length c.args.bytes.now) s.ready s.ready s.store.1 c.keep.new.store.1 c.args.write r
    c.self.view_is c.self.invariant.1 c.requires.ready c.requires.spelled c.requires.place c.requires.agrees c.requires.below c.in-Ok.ensures.adds c.keep.ensures.tells c.in-Ok.ensures.cause (λ is. is)

pub returns-in-Err-Failed-clause-puts : goal.returns-in-Err-Failed-clause-puts
returns-in-Err-Failed-clause-puts g c =
    let s = c.self.inside in
    let r : Result ℕ Outage = Err outage.Failed in
    puts_on g.D.Disk.tells g.D.Disk.content g.D.Disk.pending g.D.Disk.faults c.args.self.now s.disk c.keep.new.disk s.limit s.gate s.gate s.ready false s.store.1 c.keep.new.store.1 c.args.write r
    c.self.view_is c.self.invariant.1 c.requires.ready c.requires.spelled c.requires.place c.requires.agrees c.requires.below
    (rw c.in-Err-Failed.field-0-is at c.in-Err-Failed.ensures.adds) c.keep.ensures.tells (rw c.in-Err-Failed.field-0-is at c.in-Err-Failed.ensures.cause) (λ is. refl)

pub returns-in-Err-Memory-clause-puts : goal.returns-in-Err-Memory-clause-puts
returns-in-Err-Memory-clause-puts g c =
    let s = c.self.inside in
    let r : Result ℕ Outage = Err outage.Memory in
    puts_on g.D.Disk.tells g.D.Disk.content g.D.Disk.pending g.D.Disk.faults c.args.self.now s.disk c.keep.new.disk s.limit s.gate s.gate s.ready s.ready s.store.1 c.keep.new.store.1 c.args.write r
    c.self.view_is c.self.invariant.1 c.requires.ready c.requires.spelled c.requires.place c.requires.agrees c.requires.below
    (rw c.in-Err-Memory.field-0-is at c.in-Err-Memory.ensures.adds) c.keep.ensures.tells (rw c.in-Err-Memory.field-0-is at c.in-Err-Memory.ensures.cause) (λ is. is)

pub returns-in-Ok-clause-crash : goal.returns-in-Ok-clause-crash
returns-in-Ok-clause-crash g c told =
    let s = c.self.inside in
    let r : Result ℕ Outage = Ok c.in-Ok.version in
    leaves_on g.D.Disk.tells g.D.Disk.content g.D.Disk.pending g.D.Disk.moment g.D.Disk.left_since c.args.self.now s.disk c.keep.new.disk s.limit s.gate s.ready s.store.1 c.args.write r
    c.self.view_is c.self.invariant.1 c.requires.spelled c.requires.agrees (c.in-Ok.ensures.crash) told

pub returns-in-Err-Failed-clause-crash : goal.returns-in-Err-Failed-clause-crash
returns-in-Err-Failed-clause-crash g c told =
    let s = c.self.inside in
    let r : Result ℕ Outage = Err outage.Failed in
    leaves_on g.D.Disk.tells g.D.Disk.content g.D.Disk.pending g.D.Disk.moment g.D.Disk.left_since c.args.self.now s.disk c.keep.new.disk s.limit s.gate s.ready s.store.1 c.args.write r
    c.self.view_is c.self.invariant.1 c.requires.spelled c.requires.agrees (rw c.in-Err-Failed.field-0-is at c.in-Err-Failed.ensures.crash) told

pub returns-in-Err-Memory-clause-crash : goal.returns-in-Err-Memory-clause-crash
returns-in-Err-Memory-clause-crash g c told =
    let s = c.self.inside in
    let r : Result ℕ Outage = Err outage.Memory in
    leaves_on g.D.Disk.tells g.D.Disk.content g.D.Disk.pending g.D.Disk.moment g.D.Disk.left_since c.args.self.now s.disk c.keep.new.disk s.limit s.gate s.ready s.store.1 c.args.write r
    c.self.view_is c.self.invariant.1 c.requires.spelled c.requires.agrees (rw c.in-Err-Memory.field-0-is at c.in-Err-Memory.ensures.crash) told
