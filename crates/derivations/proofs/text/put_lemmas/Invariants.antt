use Rattle.std.proofs.Common.{◌≡◌, ◌++◌, drop}
use Rattle.std.specs.List.{AllByRecursion}
use Rattle.derivations.specs.Fits.{LemmaFits}
use Rattle.derivations.specs.Text.{joined, lemma_line}
use Rattle.derivations.proofs.text.put_lemmas.Given as goal

-- what is written so far, and that its numbers fit where those of the rest do
abbrev pub invariant-loop-lemma : goal.invariant-loop-lemma
invariant-loop-lemma l =
    record {
      text : l.initial.out.items ++ joined lemma_line l.lemmas ≡ l.out.items ++ joined lemma_line (drop l.lemma-index l.lemmas);
      fits : AllByRecursion LemmaFits (drop l.lemma-index l.lemmas) → AllByRecursion LemmaFits l.lemmas;
    }
