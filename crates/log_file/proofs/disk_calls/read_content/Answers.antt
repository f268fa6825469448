use Rattle.std.proofs.Common.{◌≡◌, ℕ, List, sym, ap, ◌∙◌}
use Rattle.olm_disk.specs.Disk.{MayLeave, nothing_pending}
use Rattle.log_file.proofs.Crashing.{one_call, still}
use Rattle.log_file.proofs.disk_calls.read_content.Goals as goal

pub returns-in-Ok-read-clause-crash : goal.returns-in-Ok-read-clause-crash
returns-in-Ok-read-clause-crash g c told durable =
    let d = c.args.disk.now in
    let new = c.read.new.self in
    one_call g.D.Disk.moment g.D.Disk.left_since d new (λ (image : List ℕ). image ≡ g.D.Disk.content d) (MayLeave (g.D.Disk.content new) (g.D.Disk.pending new))
    (λ image left. still (g.D.Disk.content d) image (g.D.Disk.pending d) durable (g.met.D.Disk.only_now d image left)) c.read.ensures.time
    (λ image left. still (g.D.Disk.content new) image (g.D.Disk.pending new) (c.read.ensures.pending ∙ durable ∙ ap nothing_pending (sym c.read.ensures.content)) left ∙ c.read.ensures.content)

pub returns-in-Err-clause-crash : goal.returns-in-Err-clause-crash
returns-in-Err-clause-crash g c told durable =
    let d = c.args.disk.now in
    let new = c.read.new.self in
    one_call g.D.Disk.moment g.D.Disk.left_since d new (λ (image : List ℕ). image ≡ g.D.Disk.content d) (MayLeave (g.D.Disk.content new) (g.D.Disk.pending new))
    (λ image left. still (g.D.Disk.content d) image (g.D.Disk.pending d) durable (g.met.D.Disk.only_now d image left)) c.read.ensures.time
    (λ image left. still (g.D.Disk.content new) image (g.D.Disk.pending new) (c.read.ensures.pending ∙ durable ∙ ap nothing_pending (sym c.read.ensures.content)) left ∙ c.read.ensures.content)
