-- What `graph` comes to: the upgrades in a channel of a catalog that breaks no rule.
use Rattle.std.specs.Prelude.{◌≡◌, ℕ, List, Option, Some, None, Result, Ok, Err}
use Rattle.catalog_lines.specs.Lines.{graph_lines}
use Rattle.fbc_types.specs.declared.catalog.Catalog.{Catalog}
use Rattle.json_fields.specs.Faults.{and_then}
use Rattle.olm_cli.specs.declared.causes.Cause.{Cause}
use Rattle.olm_cli.specs.declared.causes.Cause.TheVariants.{NoChannel}
use Rattle.olm_cli.specs.Reading.{valid_of}
use Rattle.olm_cli.specs.Runs.{Ran, After}

abbrev pub or_no_channel : Option (List ℕ) → Result (List ℕ) Cause
or_no_channel (Some lines) = Ok lines
or_no_channel None = Err NoChannel

-- the lines of the channel, where the catalog has it
abbrev pub lines_of : List ℕ → List ℕ → Catalog → Result (List ℕ) Cause
lines_of package_name channel catalog = or_no_channel (graph_lines catalog package_name channel)

abbrev pub graph_of : List ℕ → List ℕ → List ℕ → Result (List ℕ) Cause
graph_of package_name channel text = and_then (valid_of text) (λ read. lines_of package_name channel read.catalog)

-- for a package, a channel and a text
abbrev pub GraphRuns : List ℕ → List ℕ → List ℕ → Ran → Type 0
GraphRuns package_name channel text = After (graph_of package_name channel text) (λ lines ran. ran ≡ record { output = lines; end = None })
