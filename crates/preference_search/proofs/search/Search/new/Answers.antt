use Rattle.std.proofs.Common.{◌≡◌, ℕ, ◌<◌, List, length, sym, ap, ◌∙◌, subst}
use Rattle.std.specs.List.{AllByRecursion}
use Rattle.op_constraints.specs.Walks.{is_among, mandatory}
use Rattle.op_constraints.proofs.Taking.{mandatory-there}
use Rattle.preference_search.proofs.Ending.{begun}
use Rattle.preference_search.proofs.search.Search.new.Goals as goal

pub bits_of-requires : goal.bits_of-requires
bits_of-requires c =
    let problem = c.args.problem.now in
    let P : List ℕ → Type 0 = λ vs. AllByRecursion (λ v. v < length problem) vs in
    let same : c.as_slice.result.now ≡ mandatory problem = c.as_slice.ensures.value ∙ c.in_ok-chosen.ensures.variables in
    subst P (sym same) (mandatory-there problem)

pub returns : goal.returns
returns c = λ budget.
    begun c.args.problem.now budget c.in_ok-log.log.lemmas c.new-2.result.items c.in_ok-chosen.chosen.items c.in_ok-bits.bits.items c.new-3.result.items
    c.requires c.in_ok-log.ensures c.new-2.ensures.items c.in_ok-chosen.ensures.variables c.new-3.ensures.items c.in_ok-bits.ensures.size (c.in_ok-bits.ensures.same ∙ ap is_among c.as_slice.ensures.value)
