use Rattle.std.proofs.Common.{◌∙◌}
use Rattle.fbc_read.proofs.Listing.{gives_body}
use Rattle.fbc_read.proofs.bodies.body_within.Goals as goal

pub returns-in-Ok-clause-body : goal.returns-in-Ok-clause-body
returns-in-Ok-clause-body g c =
    let found = c.body_of_paths.ensures.body in
    gives_body (g.F.Folder.held c.args.folder.now) (g.F.Folder.held c.paths.new.self) c.args.under.now c.args.limit c.in-Ok.paths found.0 c.body_of_paths.result
    c.in-Ok.ensures.same c.in-Ok.ensures.paths (found.1 ∙ c.as_slice.ensures) found.2 found.3
