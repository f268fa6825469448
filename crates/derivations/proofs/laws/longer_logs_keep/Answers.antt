use Rattle.std.proofs.Common.{ap, ◌∙◌}
use Rattle.std.proofs.lemmas.List.{map-append}
use Rattle.derivations.specs.Follows.{clauses, fault_of}
use Rattle.derivations.proofs.Grows.{fault_of-grows}
use Rattle.derivations.proofs.laws.longer_logs_keep.Goals as goal

pub returns : goal.returns
returns c = λ problem log more lits hints follows.
    ap (λ earlier. fault_of problem earlier lits hints) (map-append (λ lemma. lemma.lits) log more)
    ∙ fault_of-grows problem (clauses log) (clauses more) lits hints follows
