use Rattle.preference_search.proofs.Going.{numbers-within}
use Rattle.preference_search.proofs.Ending.{later-less}
use Rattle.preference_search.proofs.decisions.decide_plain.Goals as goal

pub loop-search-smaller : goal.loop-search-smaller
loop-search-smaller c =
    let problem = c.args.problem.now in
    let s = c.loop-search.search in
    let t = c.turn.new.self in
    let came = rw c.in-Onward.is at c.in_ok-turn.ensures in
    later-less problem s.numbers.items t.numbers.items c.loop-search.invariant.small came.0.small
    (numbers-within problem s.bits.items s.chosen.items s.numbers.items c.loop-search.invariant.stands)
    (numbers-within problem t.bits.items t.chosen.items t.numbers.items came.0.stands)
    came.1
