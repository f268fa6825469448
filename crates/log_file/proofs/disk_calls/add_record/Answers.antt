use Rattle.std.proofs.Common.{◌+◌, ℕ, List, Result, Err, length, ap, ◌∙◌}
use Rattle.cluster_file.specs.Writing.{place_after}
use Rattle.olm_disk.specs.Disk.{written}
use Rattle.olm_io.specs.declared.traits.Outage.{Outage}
use Rattle.log_file.proofs.Adding.{first_fails, second_ends, staged}
use Rattle.log_file.proofs.Crashing.{first_leaves, second_leaves}
use Rattle.log_file.proofs.disk_calls.add_record.Goals as goal

pub returns-in-Ok-clause-adds : goal.returns-in-Ok-clause-adds
returns-in-Ok-clause-adds g c told ws w at is settled =
    let old = g.D.Disk.content c.args.disk.now in
    let mid = g.D.Disk.content c.write_and_sync.new.disk in
    let second = c.write_and_sync-in-Ok.ensures in
    let told2 = c.write_and_sync.ensures.tells ∙ told in
    let put = c.in-Ok.ensures.written told ∙ ap (λ n. written (n + 1) c.args.record_piece.now old) at ∙ ap (λ (l : List ℕ). written (place_after ws + 1) l old) is in
    let st = staged old mid (g.D.Disk.pending c.write_and_sync.new.disk) ws w settled.holds put (c.in-Ok.ensures.durable told) in
    second_ends c.write_and_sync-in-Ok.result c.args.gate mid (g.D.Disk.content c.write_and_sync-in-Ok.new.disk) (g.D.Disk.pending c.write_and_sync.new.disk) (g.D.Disk.pending c.write_and_sync-in-Ok.new.disk)
    ws w at st (second.written told2) (second.durable told2) (second.torn told2) second.memory

pub returns-in-Err-clause-adds : goal.returns-in-Err-clause-adds
returns-in-Err-clause-adds g c told ws w at is settled =
    first_fails c.in-Err.outage c.args.gate (length c.args.record_piece.now) (g.D.Disk.content c.args.disk.now) (g.D.Disk.content c.write_and_sync.new.disk) (g.D.Disk.pending c.args.disk.now) (g.D.Disk.pending c.write_and_sync.new.disk)
    ws w at settled
    (λ e. c.write_and_sync.ensures.torn told (c.in-Err.is ∙ ap (λ (x : Outage). let r : Result Unit Outage = Err x in r) e))
    (λ e. c.write_and_sync.ensures.memory (c.in-Err.is ∙ ap (λ (x : Outage). let r : Result Unit Outage = Err x in r) e))

pub returns-in-Ok-clause-crash : goal.returns-in-Ok-clause-crash
returns-in-Ok-clause-crash g c told ws w at is settled =
    let old = g.D.Disk.content c.args.disk.now in
    let mid = g.D.Disk.content c.write_and_sync.new.disk in
    let told2 = c.write_and_sync.ensures.tells ∙ told in
    let put = c.in-Ok.ensures.written told ∙ ap (λ n. written (n + 1) c.args.record_piece.now old) at ∙ ap (λ (l : List ℕ). written (place_after ws + 1) l old) is in
    let durable = c.in-Ok.ensures.durable told in
    let st = staged old mid (g.D.Disk.pending c.write_and_sync.new.disk) ws w settled.holds put durable in
    second_leaves g.D.Disk.moment g.D.Disk.left_since c.write_and_sync-in-Ok.result c.args.disk.now c.write_and_sync.new.disk c.write_and_sync-in-Ok.new.disk
    c.args.gate (length c.args.record_piece.now) old mid (g.D.Disk.pending c.write_and_sync.new.disk) ws w at settled.holds st
    (c.write_and_sync.ensures.leaves told settled.durable) (c.write_and_sync-in-Ok.ensures.leaves told2 durable) (c.write_and_sync-in-Ok.ensures.kept told2 durable)

pub returns-in-Err-clause-crash : goal.returns-in-Err-clause-crash
returns-in-Err-clause-crash g c told ws w at is settled =
    first_leaves g.D.Disk.moment g.D.Disk.left_since c.in-Err.outage c.args.disk.now c.write_and_sync.new.disk c.args.gate (length c.args.record_piece.now)
    (g.D.Disk.content c.args.disk.now) ws w at settled.holds (c.write_and_sync.ensures.leaves told settled.durable)
