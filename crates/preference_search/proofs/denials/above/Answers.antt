use Rattle.std.proofs.Common.{ap, ◌∙◌, map}
use Rattle.op_constraints.specs.Meets.{at}
use Rattle.derivations.specs.Clauses.{negative}
use Rattle.preference_search.proofs.Giving.{many-deny}
use Rattle.preference_search.proofs.denials.above.Goals as goal

pub returns-in_ok-vec-in-Some-clause-some : goal.returns-in_ok-vec-in-Some-clause-some
returns-in_ok-vec-in-Some-clause-some c =
    let set = at c.args.bits.now in
    let named = c.in-Some.named in
    many-deny set c.args.var c.args.constraint c.args.most c.args.members.now named
    (record { lits = c.in_ok-lits-in-Some.lits; hints = c.from_vec-hints.result })
    (c.in_ok-lits-in-Some.ensures ∙ ap (map negative) c.as_slice.ensures)
    (c.from_vec-hints.ensures ∙ c.in_ok-vec-in-Some.ensures.items)
    (rw c.in-Some.is at c.in_ok-named.ensures.many)
    (rw c.in-Some.is at c.in_ok-named.ensures.inside)
