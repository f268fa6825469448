-- How many lemmas there can be that waste nothing.
use Rattle.std.specs.Prelude.{◌≡◌, ◌<◌, ◌^◌, false, List, [], length}
use Rattle.std.specs.List.{AllByRecursion}
use Rattle.op_constraints.specs.declared.Constraint.{Constraint}
use Rattle.derivations.specs.declared.Lemma.{Lemma}
use Rattle.derivations.specs.Follows.{is_nothing, clauses, LogFollows}
use Rattle.derivations.specs.Accepted.{IsIrredundant}

-- no lemma is the empty clause
abbrev pub NoneEmpty : List Lemma → Type 0
NoneEmpty log = AllByRecursion (λ clause. is_nothing clause ≡ false) (clauses log)

-- of n variables, a log that follows and is irredundant has fewer than 3^n lemmas, where none is the empty clause
abbrev pub FewLemmas : Type 0
FewLemmas =
    (problem : List (List Constraint)) (log : List Lemma)
    → LogFollows problem log
    → IsIrredundant problem [] (clauses log)
    → NoneEmpty log
    → length log < 3 ^ length problem
