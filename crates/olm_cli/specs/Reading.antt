-- The catalog that a text is, or the cause for which it is none.
use Rattle.std.specs.Prelude.{ℕ, List, [], ◌∷◌, Result, Ok, Err}
use Rattle.catalog_stream.specs.Stream.{blobs}
use Rattle.fbc_types.specs.Rules.{broken}
use Rattle.fbc_types.specs.declared.catalog.Catalog.{Catalog}
use Rattle.fbc_types.specs.declared.fault.CheckFault.{CheckFault}
use Rattle.json_fields.specs.Faults.{and_then}
use Rattle.fbc_read.specs.Blobs.{nothing}
use Rattle.fbc_read.specs.Catalogs.{Read, reading}
use Rattle.fbc_read.specs.declared.reading.ReadFault.{ReadFault}
use Rattle.fbc_read.specs.declared.reading.ReadFault.TheVariants as fault
use Rattle.olm_cli.specs.declared.causes.Cause.{Cause}
use Rattle.olm_cli.specs.declared.causes.Cause.TheVariants.{BrokenRules, Stream, Field, NoMemory}
use Rattle.olm_cli.specs.declared.reading.Valid.{Valid}

abbrev pub cause_of : ReadFault → Cause
cause_of (fault.Stream found) = Stream found
cause_of (fault.Field blob path kind) = Field blob path kind
cause_of fault.Memory = NoMemory

abbrev pub or_cause : Result Read ReadFault → Result Read Cause
or_cause (Ok read) = Ok read
or_cause (Err found) = Err (cause_of found)

-- the catalog of all the text's blobs, or the first fault of stream or field
abbrev pub catalog_of : List ℕ → Result Read Cause
catalog_of text = or_cause (reading nothing 0 (blobs text))

-- a catalog that breaks no rule
abbrev pub unless_broken : Read → List CheckFault → Result Read Cause
unless_broken read [] = Ok read
unless_broken read (fault ∷ faults) = Err BrokenRules

abbrev pub valid_of : List ℕ → Result Read Cause
valid_of text = and_then (catalog_of text) (λ read. unless_broken read (broken read.catalog))

-- an answer, with the catalog that was read into
abbrev pub read_view : Result ℕ Cause → Catalog → Result Read Cause
read_view (Ok count) new = Ok (record { count = count; catalog = new })
read_view (Err cause) new = Err cause

abbrev pub valid_view : Result Valid Cause → Result Read Cause
valid_view (Ok valid) = Ok (record { count = valid.count; catalog = valid.catalog })
valid_view (Err cause) = Err cause
