use Rattle.std.proofs.Common.{◌≡◌, ◌++◌, ◌+◌, map, drop}
use Rattle.problem_build.specs.Numbers.{numbers_where}
use Rattle.op_properties.specs.Passing as passing
use Rattle.op_properties.specs.Offers.{shown}
use Rattle.problem_build.proofs.candidates.add_tips.Given as goal

abbrev pub invariant-loop-i : goal.invariant-loop-i
invariant-loop-i l =
    l.found.items ++ numbers_where (l.first + l.i) (passing.passes l.requirement) (map shown (drop l.i l.pool.tips.now)) ≡ l.initial.found.items ++ numbers_where l.first (passing.passes l.requirement) (map shown l.pool.tips.now)
