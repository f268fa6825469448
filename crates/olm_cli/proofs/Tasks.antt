-- There is a run of each task over each text, and what checking a catalog says.
use Rattle.std.proofs.Common.{◌≡◌, ℕ, List, [], ◌∷◌, refl, sym, ap, Some, None, Ok, Err}
use Rattle.fbc_check.specs.Checking.{by_faults}
use Rattle.fbc_check.specs.declared.checking.CheckRefusal.TheVariants.{Broken}
use Rattle.fbc_read.specs.Catalogs.{Read}
use Rattle.fbc_types.specs.declared.catalog.Catalog.{Catalog}
use Rattle.fbc_types.specs.declared.fault.CheckFault.{CheckFault}
use Rattle.catalog_lines.specs.Lines.{counts_line, fault_lines}
use Rattle.olm_cli.specs.Checking.{checked_run, run_by_faults}
use Rattle.olm_cli.specs.Commands.{TaskRuns}
use Rattle.olm_cli.specs.Graph.{graph_of}
use Rattle.olm_cli.specs.Reading.{catalog_of, unless_broken, valid_of}
use Rattle.olm_cli.specs.Resolving.{Answers}
use Rattle.olm_cli.specs.Runs.{Ran}
use Rattle.olm_cli.specs.Words.{Task, Check, Graph, Resolve}
use Rattle.olm_cli.specs.declared.causes.Cause.TheVariants.{BrokenRules}
use Rattle.olm_cli.proofs.Came.{a_run}
use Rattle.olm_cli.proofs.Resolved.{an_answered_run}

pub a_checked_run : (read : Read) → (ran : Ran) × (ran ≡ checked_run read.catalog)
a_checked_run read = (checked_run read.catalog, refl)

pub a_task_run : (task : Task) (text : List ℕ) → (ran : Ran) × TaskRuns task text ran
a_task_run Check text = a_run (catalog_of text) (λ read ran. ran ≡ checked_run read.catalog) a_checked_run
a_task_run (Graph package_name channel) text = a_run (graph_of package_name channel text) (λ lines ran. ran ≡ record { output = lines; end = None }) (λ lines. (record { output = lines; end = None }, refl))
a_task_run (Resolve budget package_name channel) text = a_run (valid_of text) (λ read. Answers budget package_name channel text) (λ read. an_answered_run budget package_name channel text)

-- a catalog that was kept breaks no rule
pub kept_run : (catalog valid : Catalog) (faults : List CheckFault) → by_faults catalog faults ≡ Ok valid → record { output = counts_line valid; end = None } ≡ run_by_faults catalog faults
kept_run catalog valid [] e = let same : catalog ≡ valid = cc in ap (λ c. record { output = counts_line c; end = None }) (sym same)
kept_run catalog valid (fault ∷ faults) e = absurd (cc)

pub broken_run : (catalog other : Catalog) (faults told : List CheckFault) → by_faults catalog faults ≡ Err (Broken other told) → record { output = fault_lines told; end = Some BrokenRules } ≡ run_by_faults catalog faults
broken_run catalog other [] told e = absurd (cc)
broken_run catalog other (fault ∷ faults) told e = let same : fault ∷ faults ≡ told = cc in ap (λ fs. record { output = fault_lines fs; end = Some BrokenRules }) (sym same)

pub kept_read : (count : ℕ) (catalog valid : Catalog) (faults : List CheckFault) → by_faults catalog faults ≡ Ok valid → unless_broken (record { count = count; catalog = catalog }) faults ≡ Ok (record { count = count; catalog = valid })
kept_read count catalog valid [] e = let same : catalog ≡ valid = cc in ap (λ c. Ok (record { count = count; catalog = c })) same
kept_read count catalog valid (fault ∷ faults) e = absurd (cc)

pub broken_read : (count : ℕ) (catalog other : Catalog) (faults told : List CheckFault) → by_faults catalog faults ≡ Err (Broken other told) → unless_broken (record { count = count; catalog = catalog }) faults ≡ Err BrokenRules
broken_read count catalog other [] told e = absurd (cc)
broken_read count catalog other (fault ∷ faults) told e = refl
