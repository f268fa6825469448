-- What a search answers, and what a turn of it comes to.
use Rattle.std.specs.Prelude.{◌≡◌, ℕ, zero, suc, ◌+◌, ◌-◌, ◌<◌, Bool, true, List, length}
use Rattle.std.specs.List.{list_all}
use Rattle.op_constraints.specs.declared.Lit.{Lit}
use Rattle.op_constraints.specs.declared.Constraint.{Constraint}
use Rattle.op_constraints.specs.Meets.{at, Meets}
use Rattle.derivations.specs.declared.Lemma.{Lemma}
use Rattle.derivations.specs.Clauses.{denial, is_in, lit_holds}
use Rattle.derivations.specs.Follows.{Follows}
use Rattle.clause_trail.specs.Trails.{Seen, literals}
use Rattle.clause_analysis.specs.Caused.{assumed, IsCaused}
use Rattle.clause_solver.specs.declared.searching.Answer.{Answer}
use Rattle.clause_solver.specs.declared.searching.Answer.TheVariants.{Model, Refuted, Spent}
use Rattle.clause_solver.specs.declared.searching.Turn.{Turn}
use Rattle.clause_solver.specs.declared.searching.Turn.TheVariants.{Onward, Answered}

-- the set meets the problem, and each of the literals is true of it
abbrev pub IsModel : List (List Constraint) → List Lit → List Bool → Type 0
IsModel problem lits set = Meets problem (at set) × (list_all (λ l. lit_holds (at set) l) lits ≡ true)

-- a set that meets the problem, and of which each assumed literal is true; or a clause that follows from the log and denies assumed literals alone; or no budget is left
abbrev pub IsAnswer : List (List Constraint) → List Lit → List Lemma → ℕ → Answer → Type 0
IsAnswer problem lits log left (Model set) = IsModel problem lits set
IsAnswer problem lits log left (Refuted refutation) = (list_all (λ l. is_in lits (denial l)) refutation.lits ≡ true) × Follows problem log refutation.lits refutation.hints
IsAnswer problem lits log left Spent = left ≡ 0

-- for each lemma that may still be learnt, as many turns as there are variables, and one more
abbrev pub weight : ℕ → ℕ → ℕ
weight zero size = 0
weight (suc left) size = (size + 1) + weight left size

-- how many turns are left at most
abbrev pub turns_left : ℕ → Seen → ℕ
turns_left left trail = weight left trail.size + (trail.size - length trail.entries)

-- what a turn comes to, by the trail before and after it and what is held after it
abbrev pub Comes : List (List Constraint) → List (List Lit) → List Lemma → ℕ → ℕ → Seen → Seen → Turn → Type 0
Comes problem lemmas log left_before left_after before after Onward =
    IsCaused problem lemmas after
    × (assumed after.entries ≡ assumed before.entries)
    × (turns_left left_after after < turns_left left_before before)
Comes problem lemmas log left_before left_after before after (Answered answer) = IsAnswer problem (assumed before.entries) log left_after answer

-- what comes of a trail over which each clause is settled
abbrev pub Decides : List (List Constraint) → List (List Lit) → Seen → Seen → Turn → Type 0
Decides problem lemmas before after Onward =
    IsCaused problem lemmas after
    × (assumed after.entries ≡ assumed before.entries)
    × (length before.entries < before.size)
    × (length after.entries ≡ length before.entries + 1)
Decides problem lemmas before after (Answered (Model set)) = IsModel problem (literals before.entries) set
Decides problem lemmas before after (Answered (Refuted refutation)) = ⊥
Decides problem lemmas before after (Answered Spent) = ⊥
