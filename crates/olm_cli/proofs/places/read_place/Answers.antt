use Rattle.std.proofs.Common.{refl, sym, subst}
use Rattle.olm_cli.specs.Places.{Holds, within_limit}
use Rattle.olm_cli.specs.Words.{place_view}
use Rattle.olm_cli.proofs.places.read_place.Goals as goal

pub returns-in-Input-clause-answer : goal.returns-in-Input-clause-answer
returns-in-Input-clause-answer g c =
    let read = c.read_input.ensures.answer in
    (within_limit read.0, subst (λ place. Holds (place_view place) (g.F.Folder.held c.args.folder.now) (g.S.Source.left c.args.input.now) (within_limit read.0)) (sym c.in-Input.is) (read.0, read.1, refl), read.2)
