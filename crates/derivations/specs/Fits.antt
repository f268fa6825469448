-- Certificates whose numbers fit 32 bits, as those of each certificate in memory do.
use Rattle.std.specs.Prelude.{ℕ, ◌<◌, ◌^◌, List}
use Rattle.std.specs.List.{AllByRecursion}
use Rattle.op_constraints.specs.declared.Lit.{Lit}
use Rattle.derivations.specs.declared.Hint.{Hint}
use Rattle.derivations.specs.declared.Hint.TheVariants.{Lemma as LemmaHint, Given}
use Rattle.derivations.specs.declared.Lemma.{Lemma}
use Rattle.derivations.specs.declared.Refutation.{Refutation}
use Rattle.derivations.specs.declared.Certificate.{Certificate}
use Rattle.derivations.specs.declared.Finding.{Finding}
use Rattle.derivations.specs.declared.Finding.TheVariants.{Chosen, Refused, Undecided}

abbrev pub NumberFits : ℕ → Type 0
NumberFits n = n < 2 ^ 32

abbrev pub LitFits : Lit → Type 0
LitFits l = NumberFits l.var

abbrev pub HintFits : Hint → Type 0
HintFits (LemmaHint number) = NumberFits number
HintFits (Given v place members) = NumberFits v × NumberFits place × AllByRecursion NumberFits members

abbrev pub ClauseFits : List Lit → List Hint → Type 0
ClauseFits lits hints = AllByRecursion LitFits lits × AllByRecursion HintFits hints

abbrev pub LemmaFits : Lemma → Type 0
LemmaFits lemma = ClauseFits lemma.lits lemma.hints

abbrev pub StepFits : ℕ × ℕ × Refutation → Type 0
StepFits step = NumberFits step.0 × NumberFits step.1 × ClauseFits step.2.lits step.2.hints

abbrev pub FindingFits : Finding → Type 0
FindingFits (Chosen numbers steps) = AllByRecursion NumberFits numbers × AllByRecursion StepFits steps
FindingFits (Refused refutation) = ClauseFits refutation.lits refutation.hints
FindingFits Undecided = Unit {0}

-- each number of the certificate fits 32 bits
abbrev pub CertificateFits : Certificate → Type 0
CertificateFits certificate = NumberFits certificate.vars × AllByRecursion LemmaFits certificate.log.lemmas × FindingFits certificate.finding
