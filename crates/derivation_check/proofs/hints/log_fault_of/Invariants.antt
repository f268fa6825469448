use Rattle.std.proofs.Common.{◌≡◌, [], drop, take, length, IsTrue}
use Rattle.std.specs.List.{AllByRecursion}
use Rattle.derivations.specs.Follows.{clauses, is_clause, log_fault}
use Rattle.derivation_check.proofs.hints.log_fault_of.Given as goal

abbrev pub invariant-loop-i : goal.invariant-loop-i
invariant-loop-i l = record {
  rest : log_fault l.problem [] l.lemmas ≡ log_fault l.problem (take l.i (clauses l.lemmas)) (drop l.i l.lemmas);
  within : AllByRecursion (λ lemma. IsTrue (is_clause l.problem lemma.lits)) (take l.i l.lemmas);
  size : length l.marks ≡ length l.initial.marks;
  listed : length l.listed ≡ length l.initial.listed;
}
