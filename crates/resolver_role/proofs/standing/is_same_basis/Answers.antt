use Rattle.std.proofs.lemmas.Bool.Decides.{Decides-at}
use Rattle.resolver_role.proofs.Same.{basis_decides}
use Rattle.resolver_role.proofs.standing.is_same_basis.Goals as goal

pub returns : goal.returns
returns c = Decides-at _ _ c.eq.ensures (basis_decides c.args.left.now c.args.right.now)
