use Rattle.std.proofs.Common.{◌≡◌, drop, take, length}
use Rattle.derivations.specs.Follows.{clauses}
use Rattle.derivation_check.specs.Scan.{answer}
use Rattle.derivation_check.proofs.hints.hints_fault.Given as goal

abbrev pub invariant-loop-i : goal.invariant-loop-i
invariant-loop-i l =
    (answer l.problem (take l.number (clauses l.lemmas)) l.initial.marks l.hints ≡ answer l.problem (take l.number (clauses l.lemmas)) l.marks (drop l.i l.hints))
    × (length l.marks ≡ length l.initial.marks)
    × (length l.listed ≡ length l.initial.listed)
