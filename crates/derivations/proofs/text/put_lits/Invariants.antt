use Rattle.std.proofs.Common.{◌≡◌, ◌++◌, drop}
use Rattle.std.specs.List.{AllByRecursion}
use Rattle.derivations.specs.Fits.{LitFits}
use Rattle.derivations.specs.Text.{joined, token, lit_text}
use Rattle.derivations.proofs.text.put_lits.Given as goal

-- what is written so far, and that its numbers fit where those of the rest do
abbrev pub invariant-loop-lit : goal.invariant-loop-lit
invariant-loop-lit l =
    record {
      text : l.initial.out.items ++ joined (λ k. token (lit_text k)) l.lits ≡ l.out.items ++ joined (λ k. token (lit_text k)) (drop l.lit-index l.lits);
      fits : AllByRecursion LitFits (drop l.lit-index l.lits) → AllByRecursion LitFits l.lits;
    }
