use Rattle.std.proofs.Common.{◌≡◌, ◌++◌, drop}
use Rattle.answer_lines.specs.Picks.{pick_lines}
use Rattle.answer_lines.proofs.picks.push_picks.Given as goal

-- what is written so far, and what is left to be written
abbrev pub invariant-picks : goal.invariant-picks
invariant-picks l = l.initial.out.items ++ pick_lines l.picks ≡ l.out.items ++ pick_lines (drop l.pick-index l.picks)
