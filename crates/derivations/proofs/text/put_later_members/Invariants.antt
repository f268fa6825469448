use Rattle.std.proofs.Common.{◌≡◌, ◌++◌, drop}
use Rattle.std.specs.List.{AllByRecursion}
use Rattle.derivations.specs.Fits.{NumberFits}
use Rattle.derivations.specs.Text.{joined, later_member}
use Rattle.derivations.proofs.text.put_later_members.Given as goal

-- what is written so far, and that its numbers fit where those of the rest do
abbrev pub invariant-loop-member : goal.invariant-loop-member
invariant-loop-member l =
    record {
      text : l.initial.out.items ++ joined later_member l.members ≡ l.out.items ++ joined later_member (drop l.member-index l.members);
      fits : AllByRecursion NumberFits (drop l.member-index l.members) → AllByRecursion NumberFits l.members;
    }
