use Rattle.std.proofs.Common.{◌++◌, ◌∙◌, List, ap, map}
use Rattle.std.specs.Borrow.{Bor}
use Rattle.op_properties.specs.Offers.{Provided, shown}
use Rattle.problem_build.specs.Entries.{Entry}
use Rattle.problem_build.specs.Shown.{shown_entry}
use Rattle.problem_build.specs.declared.entries.Listed.{Listed}
use Rattle.problem_build.proofs.Marking.{seen_map}
use Rattle.problem_build.proofs.building.provided.Goals as goal

pub returns : goal.returns
returns c =
    c.in_ok-add_tip_offers.ensures
    ∙ ap (λ (l : List Provided). l ++ map shown c.args.pool.now.tips.now)
    (c.in_ok-offers.ensures ∙ seen_map (λ (e : Entry). e.offer) (λ (e : Bor Listed). shown_entry e.now) c.args.pool.now.entries.now)
