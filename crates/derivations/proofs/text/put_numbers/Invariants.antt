use Rattle.std.proofs.Common.{◌≡◌, ◌++◌, drop}
use Rattle.std.specs.List.{AllByRecursion}
use Rattle.derivations.specs.Fits.{NumberFits}
use Rattle.derivations.specs.Text.{joined, token}
use Rattle.derivations.proofs.text.put_numbers.Given as goal
use Rattle.std.specs.Fmt.{decimal}

-- what is written so far, and that its numbers fit where those of the rest do
abbrev pub invariant-loop-number : goal.invariant-loop-number
invariant-loop-number l =
    record {
      text : l.initial.out.items ++ joined (λ n. token (decimal n)) l.numbers ≡ l.out.items ++ joined (λ n. token (decimal n)) (drop l.number-index l.numbers);
      fits : AllByRecursion NumberFits (drop l.number-index l.numbers) → AllByRecursion NumberFits l.numbers;
    }
