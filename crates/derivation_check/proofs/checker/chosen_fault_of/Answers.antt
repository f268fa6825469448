use Rattle.std.proofs.Common.{◌≡◌, [], Some, List, map, sym, ap, ◌∙◌, subst}
use Rattle.op_constraints.specs.declared.Constraint.{Constraint}
use Rattle.op_constraints.specs.Walks.{Walked, walk}
use Rattle.derivations.specs.Accepted.{pairs_from}
use Rattle.derivation_check.specs.Faults.{pair_of}
use Rattle.derivation_check.proofs.LogSteps.{log_within}
use Rattle.derivation_check.proofs.AcceptedLemmas.{pairs_same}
use Rattle.derivation_check.proofs.checker.chosen_fault_of.Goals as goal

pub unshown-requires-clause-within : goal.unshown-requires-clause-within
unshown-requires-clause-within c = log_within c.args.problem.now [] c.args.lemmas.now c.requires.follows

pub denied_else-requires-clause-paired : goal.denied_else-requires-clause-paired
denied_else-requires-clause-paired c =
    pairs_same 0 (pairs_from 0 c.args.numbers.now) (map pair_of c.args.steps.now) (sym c.unpaired.ensures ∙ c.in-None-unpaired.is)

pub denied_else-requires-clause-walked : goal.denied_else-requires-clause-walked
denied_else-requires-clause-walked c =
    let same : c.restart.new.self.problem ≡ c.restart-2.new.self.problem = sym c.walk_along.ensures.problem ∙ sym (ap (λ (w : Walked). w.problem) c.restart-2.ensures) in
    (c.walk_along.new.path.chosen, subst (λ (p : List (List Constraint)). walk p c.args.numbers.now ≡ Some c.walk_along.new.path.chosen) same c.in-None.ensures.walked)
