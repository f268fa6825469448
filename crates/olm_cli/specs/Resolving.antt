-- What `resolve` comes to: what is told of the problem that a catalog, a package and a channel put.
use Rattle.std.specs.Prelude.{◌≡◌, ℕ, List, Option, Some, None, Result, Ok, Err}
use Rattle.catalog_choice.specs.Deciding.{IsAnswered}
use Rattle.catalog_choice.specs.declared.deciding.Answer.{Answer}
use Rattle.catalog_choice.specs.declared.deciding.Decided.{Decided}
use Rattle.catalog_choice.specs.declared.deciding.Decided.TheVariants.{Chosen, Refused, Undecided}
use Rattle.problem_build.specs.declared.building.BuildFault.{BuildFault}
use Rattle.problem_build.specs.declared.building.BuildFault.TheVariants as fault
use Rattle.olm_cli.specs.declared.causes.Cause.{Cause}
use Rattle.olm_cli.specs.declared.causes.Cause.TheVariants.{BudgetSpent, NoChoice, NoMemory, TooManyVariables}
use Rattle.olm_cli.specs.Reading.{valid_of}
use Rattle.olm_cli.specs.Runs.{Ran, stopped, After}

-- how a run with this decision ends
abbrev pub ended : Decided → Option Cause
ended Chosen = None
ended Refused = Some NoChoice
ended Undecided = Some BudgetSpent

-- the cause for which there is no problem to decide
abbrev pub problem_cause : BuildFault → Cause
problem_cause (fault.TooManyVariables count) = TooManyVariables count
problem_cause fault.Memory = NoMemory

-- an answer is printed whole, whatever the decision is
abbrev pub answered_run : Result Answer BuildFault → Ran
answered_run (Ok answer) = record { output = answer.text.items; end = ended answer.decided }
answered_run (Err found) = stopped (problem_cause found)

-- the run prints what is told within the budget of the problem that the catalog's text, a package and a channel put
abbrev pub Answers : ℕ → List ℕ → List ℕ → List ℕ → Ran → Type 0
Answers budget package_name channel text ran =
    (answer : Result Answer BuildFault) × IsAnswered text package_name channel budget answer × (ran ≡ answered_run answer)

-- for a budget, a package, a channel and a text, whose catalog must break no rule
abbrev pub ResolveRuns : ℕ → List ℕ → List ℕ → List ℕ → Ran → Type 0
ResolveRuns budget package_name channel text = After (valid_of text) (λ read. Answers budget package_name channel text)
