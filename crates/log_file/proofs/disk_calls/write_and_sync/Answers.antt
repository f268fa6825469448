use Rattle.std.proofs.Common.{◌≡◌, ℕ, List, length, Result, Err, sym, ap, ◌∙◌, subst}
use Rattle.olm_disk.specs.Disk.{MayLeave, Torn, nothing_pending}
use Rattle.olm_disk.proofs.Images.{written_is_torn}
use Rattle.olm_io.specs.declared.traits.Outage.{Outage}
use Rattle.log_file.proofs.Crashing.{one_call, still, still_torn, torn_image, two_calls}
use Rattle.log_file.proofs.disk_calls.write_and_sync.Goals as goal

pub returns-in-Ok-sync-clause-leaves : goal.returns-in-Ok-sync-clause-leaves
returns-in-Ok-sync-clause-leaves g c told durable =
    let d = c.args.disk.now in
    let n = length c.args.piece.now in
    let content = g.D.Disk.content d in
    let now = g.D.Disk.content c.write_at.new.self in
    let after = g.D.Disk.pending c.write_at.new.self in
    let torn : Torn c.args.at n content now = subst (Torn c.args.at n content) (sym (c.in-Ok.ensures.written told)) (written_is_torn c.args.at c.args.piece.now content (c.requires.within told)) in
    let leaves = λ (image : List ℕ) (left : MayLeave now after image). torn_image c.args.at n content now image (g.D.Disk.pending d) after durable (c.in-Ok.ensures.pending told (λ e. cc)) torn left in
    two_calls g.D.Disk.moment g.D.Disk.left_since d c.write_at.new.self c.sync.new.self (Torn c.args.at n content) (MayLeave now after) (MayLeave now after)
    (λ image left. still_torn c.args.at n content image (g.D.Disk.pending d) durable (g.met.D.Disk.only_now d image left)) c.write_at.ensures.time leaves c.sync.ensures.time leaves

pub returns-in-Err-clause-torn : goal.returns-in-Err-clause-torn
returns-in-Err-clause-torn g c told failed =
    let content = g.D.Disk.content c.args.disk.now in
    subst (Torn c.args.at (length c.args.piece.now) content) (sym (c.sync.ensures.content ∙ c.in-Ok.ensures.written told)) (written_is_torn c.args.at c.args.piece.now content (c.requires.within told))

pub returns-in-Err-clause-leaves : goal.returns-in-Err-clause-leaves
returns-in-Err-clause-leaves g c told durable =
    let d = c.args.disk.now in
    let n = length c.args.piece.now in
    let content = g.D.Disk.content d in
    let now = g.D.Disk.content c.write_at.new.self in
    let after = g.D.Disk.pending c.write_at.new.self in
    let torn : Torn c.args.at n content now = subst (Torn c.args.at n content) (sym (c.in-Ok.ensures.written told)) (written_is_torn c.args.at c.args.piece.now content (c.requires.within told)) in
    let leaves = λ (image : List ℕ) (left : MayLeave now after image). torn_image c.args.at n content now image (g.D.Disk.pending d) after durable (c.in-Ok.ensures.pending told (λ e. cc)) torn left in
    two_calls g.D.Disk.moment g.D.Disk.left_since d c.write_at.new.self c.sync.new.self (Torn c.args.at n content) (MayLeave now after) (MayLeave now after)
    (λ image left. still_torn c.args.at n content image (g.D.Disk.pending d) durable (g.met.D.Disk.only_now d image left)) c.write_at.ensures.time leaves c.sync.ensures.time leaves

pub returns-in-Err-Memory-clause-kept : goal.returns-in-Err-Memory-clause-kept
returns-in-Err-Memory-clause-kept g c told durable failed =
    let d = c.args.disk.now in
    let content = g.D.Disk.content d in
    let now = g.D.Disk.content c.write_at.new.self in
    let same = c.in-Err-Memory.ensures.memory (ap (λ (x : Outage). let r : Result Unit Outage = Err x in r) c.in-Err-Memory.field-0-is) in
    one_call g.D.Disk.moment g.D.Disk.left_since d c.write_at.new.self (λ (image : List ℕ). image ≡ content) (MayLeave now (g.D.Disk.pending c.write_at.new.self))
    (λ image left. still content image (g.D.Disk.pending d) durable (g.met.D.Disk.only_now d image left)) c.write_at.ensures.time
    (λ image left. still now image (g.D.Disk.pending c.write_at.new.self) (same.1 ∙ durable ∙ ap nothing_pending (sym same.0)) left ∙ same.0)
