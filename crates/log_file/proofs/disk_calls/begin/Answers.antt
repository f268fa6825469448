use Rattle.std.proofs.Common.{ℕ, length, ap, sym, ◌∙◌, arith}
use Rattle.log_file.proofs.Beginning.{nine}
use Rattle.log_file.proofs.Crashing.{begins}
use Rattle.log_file.proofs.disk_calls.begin.Goals as goal

pub returns-in-Ok-write_empty-clause-len : goal.returns-in-Ok-write_empty-clause-len
returns-in-Ok-write_empty-clause-len g c told = sym (ap length (c.in-Ok-write_empty.ensures.written (c.len.ensures.tells ∙ c.sync.ensures.tells ∙ told)) ∙ nine)

pub returns-in-Ok-write_empty-clause-crash : goal.returns-in-Ok-write_empty-clause-crash
returns-in-Ok-write_empty-clause-crash g c told =
    let told2 = c.sync.ensures.tells ∙ told in
    begins g.D.Disk.moment g.D.Disk.left_since g.D.Disk.content g.D.Disk.pending c.args.disk.now c.sync.new.self c.len.new.self c.write_empty.new.disk
    (λ image left. g.met.D.Disk.only_now c.args.disk.now image left) c.sync.ensures.time c.sync.ensures.content (c.in-Ok.ensures.durable told)
    c.len.ensures.time c.len.ensures.content c.len.ensures.pending
    (omega (arith, c.in-Ok-len.ensures.len told2, ap length c.sync.ensures.content, c.if-len-gt9.false))
    (λ short. c.write_empty.ensures.short (c.len.ensures.tells ∙ told2) short)

pub returns-in-Err-clause-crash : goal.returns-in-Err-clause-crash
returns-in-Err-clause-crash g c told =
    let told2 = c.sync.ensures.tells ∙ told in
    begins g.D.Disk.moment g.D.Disk.left_since g.D.Disk.content g.D.Disk.pending c.args.disk.now c.sync.new.self c.len.new.self c.write_empty.new.disk
    (λ image left. g.met.D.Disk.only_now c.args.disk.now image left) c.sync.ensures.time c.sync.ensures.content (c.in-Ok.ensures.durable told)
    c.len.ensures.time c.len.ensures.content c.len.ensures.pending
    (omega (arith, c.in-Ok-len.ensures.len told2, ap length c.sync.ensures.content, c.if-len-gt9.false))
    (λ short. c.write_empty.ensures.short (c.len.ensures.tells ∙ told2) short)
