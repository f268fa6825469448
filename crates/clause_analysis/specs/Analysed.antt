-- What is learnt from a conflict.
use Rattle.std.specs.Prelude.{◌≡◌, ◌<◌, ◌≤◌, true, List, [], ◌∷◌, ◌++◌, drop, length, Some, None}
use Rattle.std.specs.List.{list_all}
use Rattle.op_constraints.specs.declared.Lit.{Lit}
use Rattle.op_constraints.specs.declared.Constraint.{Constraint}
use Rattle.derivations.specs.declared.Refutation.{Refutation}
use Rattle.derivations.specs.Clauses.{denial, is_in}
use Rattle.derivations.specs.Follows.{left, forced, is_nothing, fault_of}
use Rattle.derivations.specs.Accepted.{IsIrredundant}
use Rattle.clause_trail.specs.declared.Entry.{Entry}
use Rattle.clause_trail.specs.Trails.{literals}
use Rattle.clause_analysis.specs.declared.Learnt.{Learnt}
use Rattle.clause_analysis.specs.declared.Analysis.{Analysis}
use Rattle.clause_analysis.specs.declared.Analysis.TheVariants.{Lemma as Learns, Refuted}
use Rattle.clause_analysis.specs.Caused.{assumed, AllStand}

-- the clause follows, and each of its literals denies an assumed one
pub record IsRefuted (problem : List (List Constraint)) (earlier : List (List Lit)) (entries : List Entry) (refutation : Refutation) : Type 0 where
  pub follows : fault_of problem earlier refutation.lits refutation.hints ≡ None
  pub denies : list_all (λ l. is_in (assumed entries) (denial l)) refutation.lits ≡ true

-- the lemma follows, is false over the trail and wastes nothing; once the newest entries are taken back, all that was assumed is left, the entries are a trail by the longer log too, and the lemma forces its literal over them
pub record IsLearnt (problem : List (List Constraint)) (earlier : List (List Lit)) (entries : List Entry) (learnt : Learnt) : Type 0 where
  pub follows : fault_of problem earlier learnt.lemma.lits learnt.lemma.hints ≡ None
  pub unmet : is_nothing (left (literals entries) learnt.lemma.lits) ≡ true
  pub irredundant : IsIrredundant problem earlier (learnt.lemma.lits ∷ [])
  pub some : 0 < learnt.back
  pub within : learnt.back ≤ length entries
  pub assumed_stay : assumed (drop learnt.back entries) ≡ assumed entries
  pub stand : AllStand problem (earlier ++ learnt.lemma.lits ∷ []) (drop learnt.back entries)
  pub forces : forced (literals (drop learnt.back entries)) learnt.lemma.lits ≡ Some learnt.forced

-- what an analysis shows
abbrev pub IsAnalysed : List (List Constraint) → List (List Lit) → List Entry → Analysis → Type 0
IsAnalysed problem earlier entries (Learns learnt) = IsLearnt problem earlier entries learnt
IsAnalysed problem earlier entries (Refuted refutation) = IsRefuted problem earlier entries refutation
