use Rattle.lemma_bound.proofs.Counting.{few_lemmas}
use Rattle.lemma_bound.proofs.few_lemmas.Goals as goal

pub returns : goal.returns
returns c = few_lemmas
