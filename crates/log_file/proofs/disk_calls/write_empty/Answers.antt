use Rattle.std.proofs.Common.{◌∷◌, [], Result, Err, ap, ◌∙◌, arith}
use Rattle.olm_io.specs.declared.traits.Outage.{Outage}
use Rattle.log_file.proofs.Beginning.{both_short, is_empty_file, on_ok, short_cut, short_written}
use Rattle.log_file.proofs.disk_calls.write_empty.Goals as goal

pub returns-in-Ok-clause-same : goal.returns-in-Ok-clause-same
returns-in-Ok-clause-same g c told short =
    let told2 = c.cut.ensures.tells ∙ told in
    let second = c.write_and_sync.ensures in
    both_short (g.D.Disk.content c.args.disk.now) (g.D.Disk.content c.write_and_sync.new.disk) short
    (short_written c.write_and_sync.result (79 ∷ 76 ∷ 77 ∷ 76 ∷ 79 ∷ 71 ∷ 48 ∷ 49 ∷ 0 ∷ []) (g.D.Disk.content c.args.disk.now) (g.D.Disk.content c.cut.new.self) (g.D.Disk.content c.write_and_sync.new.disk) (g.D.Disk.pending c.cut.new.self) (g.D.Disk.pending c.write_and_sync.new.disk)
    (omega arith) (c.in-Ok.ensures.cut told) (second.written told2) (second.torn told2) second.memory)

pub returns-in-Ok-clause-written : goal.returns-in-Ok-clause-written
returns-in-Ok-clause-written g c told =
    let told2 = c.cut.ensures.tells ∙ told in
    on_ok c.write_and_sync.result (c.write_and_sync.ensures.written told2)
    (is_empty_file (g.D.Disk.content c.args.disk.now) (g.D.Disk.content c.cut.new.self) (g.D.Disk.content c.write_and_sync.new.disk) (c.in-Ok.ensures.cut told))

pub returns-in-Err-clause-same : goal.returns-in-Err-clause-same
returns-in-Err-clause-same g c told short =
    both_short (g.D.Disk.content c.args.disk.now) (g.D.Disk.content c.cut.new.self) short
    (short_cut c.in-Err.outage (g.D.Disk.content c.args.disk.now) (g.D.Disk.content c.cut.new.self) (g.D.Disk.pending c.args.disk.now) (g.D.Disk.pending c.cut.new.self) short
    (λ e. c.cut.ensures.partly told (c.in-Err.is ∙ ap (λ (x : Outage). let r : Result Unit Outage = Err x in r) e))
    (λ e. c.cut.ensures.memory (c.in-Err.is ∙ ap (λ (x : Outage). let r : Result Unit Outage = Err x in r) e)))
