-- What `check` comes to: how much a catalog holds, or the rules that it breaks.
use Rattle.std.specs.Prelude.{◌≡◌, ℕ, List, [], ◌∷◌, Some, None}
use Rattle.catalog_lines.specs.Lines.{counts_line, fault_lines}
use Rattle.fbc_types.specs.Rules.{broken}
use Rattle.fbc_types.specs.declared.catalog.Catalog.{Catalog}
use Rattle.fbc_types.specs.declared.fault.CheckFault.{CheckFault}
use Rattle.olm_cli.specs.declared.causes.Cause.TheVariants.{BrokenRules}
use Rattle.olm_cli.specs.Reading.{catalog_of}
use Rattle.olm_cli.specs.Runs.{Ran, After}

abbrev pub run_by_faults : Catalog → List CheckFault → Ran
run_by_faults catalog [] = record { output = counts_line catalog; end = None }
run_by_faults catalog (fault ∷ faults) = record { output = fault_lines (fault ∷ faults); end = Some BrokenRules }

-- the three counts of a catalog that breaks no rule, and else a line for each broken one
abbrev pub checked_run : Catalog → Ran
checked_run catalog = run_by_faults catalog (broken catalog)

-- for a text
abbrev pub CheckRuns : List ℕ → Ran → Type 0
CheckRuns text = After (catalog_of text) (λ read ran. ran ≡ checked_run read.catalog)
