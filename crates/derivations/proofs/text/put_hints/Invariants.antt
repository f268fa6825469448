use Rattle.std.proofs.Common.{◌≡◌, ◌++◌, drop}
use Rattle.std.specs.List.{AllByRecursion}
use Rattle.derivations.specs.Fits.{HintFits}
use Rattle.derivations.specs.Text.{joined, token, hint_text}
use Rattle.derivations.proofs.text.put_hints.Given as goal

-- what is written so far, and that its numbers fit where those of the rest do
abbrev pub invariant-loop-hint : goal.invariant-loop-hint
invariant-loop-hint l =
    record {
      text : l.initial.out.items ++ joined (λ h. token (hint_text h)) l.hints ≡ l.out.items ++ joined (λ h. token (hint_text h)) (drop l.hint-index l.hints);
      fits : AllByRecursion HintFits (drop l.hint-index l.hints) → AllByRecursion HintFits l.hints;
    }
