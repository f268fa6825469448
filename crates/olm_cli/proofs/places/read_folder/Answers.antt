use Rattle.std.proofs.Common.{◌≡◌, false, sym, subst, Err}
use Rattle.olm_cli.specs.Causes.{is_free}
use Rattle.olm_cli.proofs.Listings.{folder_gives}
use Rattle.olm_cli.proofs.places.read_folder.Goals as goal

pub returns-in-Err-clause-answer : goal.returns-in-Err-clause-answer
returns-in-Err-clause-answer g c =
    let t = folder_gives (g.F.Folder.held c.args.folder.now) c.args.path.now (Err c.in-Err.fault) c.in-Err.ensures.body in
    (t.0, t.1, subst (λ cause. is_free cause ≡ false → t.0 ≡ Err cause) (sym c.body_cause.ensures.cause) t.2)
