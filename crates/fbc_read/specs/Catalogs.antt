-- What the blobs of a text give together.
use Rattle.std.specs.Prelude.{◌≡◌, ℕ, ◌+◌, Bool, true, false, List, [], ◌∷◌, ◌++◌, map, length, Option, Some, None, Result, Ok, Err}
use Rattle.serde_json.specs.Data.{Data}
use Rattle.catalog_stream.specs.Stream as stream
use Rattle.catalog_stream.specs.Stream.{Stream, BlobView}
use Rattle.catalog_stream.specs.declared.blobs.StreamFault.{StreamFault}
use Rattle.fbc_types.specs.declared.catalog.Catalog.{Catalog}
use Rattle.json_fields.specs.declared.fault.Fault.{Fault}
use Rattle.fbc_read.specs.declared.reading.ReadFault.{ReadFault}
use Rattle.fbc_read.specs.declared.reading.ReadFault.TheVariants.{Stream as InStream, Field, Memory}
use Rattle.json_fields.specs.Faults.{and_then}
use Rattle.fbc_read.specs.Blobs.{nothing, one_blob}

-- want of memory alone is free
abbrev pub is_free : ReadFault → Bool
is_free (InStream fault) = false
is_free (Field blob path kind) = false
is_free Memory = true

-- a fault in the blob of this number, and a fault of the stream
abbrev pub field_fault : ℕ → Fault → ReadFault
field_fault blob fault = Field blob fault.path fault.kind

abbrev pub stream_fault : StreamFault → ReadFault
stream_fault fault = InStream fault

abbrev pub numbered : {T : Type 0} → ℕ → Result T Fault → Result T ReadFault
numbered blob (Ok value) = Ok value
numbered blob (Err fault) = Err (field_fault blob fault)

-- the lists of one catalog, each followed by that of another one
abbrev pub joined : Catalog → Catalog → Catalog
joined one other =
    record {
      packages = one.packages ++ other.packages;
      channels = one.channels ++ other.channels;
      bundles = one.bundles ++ other.bundles;
      deprecations = one.deprecations ++ other.deprecations;
      manifests = one.manifests ++ other.manifests;
    }

-- a catalog that begins with another one, list by list
abbrev pub Extends : Catalog → Catalog → Type 0
Extends old new = (more : Catalog) × (new ≡ joined old more)

-- a catalog to which the one that was read is joined, and what a call that adds to a catalog leaves
abbrev pub joined_to : Catalog → Result Catalog Fault → Result Catalog Fault
joined_to old read = and_then read (λ found. Ok (joined old found))

abbrev pub added : Result (Unit {0}) Fault → Catalog → Result Catalog Fault
added (Ok done) new = Ok new
added (Err fault) new = Err fault

-- The catalog of some blobs, of which the first one has this number: each list in the order of the blobs. Or the first fault, in the order of the blobs and then of the fields.
abbrev pub catalog : ℕ → List Data → Result Catalog ReadFault
catalog first [] = Ok nothing
catalog first (blob ∷ blobs) = and_then (numbered first (one_blob blob)) (λ found. and_then (catalog (first + 1) blobs) (λ more. Ok (joined found more)))

-- the values of a stream's blobs
abbrev pub values : Stream → List Data
values read = map (λ blob. blob.value) read.blobs

abbrev pub unless_broken : {T : Type 0} → T → Option StreamFault → Result T ReadFault
unless_broken value None = Ok value
unless_broken value (Some fault) = Err (stream_fault fault)

-- A catalog and the number of blobs that were read.
pub record Read : Type 0 where
  pub count : ℕ
  pub catalog : Catalog

-- What reading a stream into a catalog gives. A fault in a blob comes before the fault that ends the stream.
abbrev pub reading : Catalog → ℕ → Stream → Result Read ReadFault
reading old first read =
    and_then (catalog first (values read)) (λ found.
    unless_broken (record { count = length read.blobs; catalog = joined old found }) read.fault)

-- an answer, with the catalog that was read into
abbrev pub read_view : Result ℕ ReadFault → Catalog → Result Read ReadFault
read_view (Ok count) new = Ok (record { count = count; catalog = new })
read_view (Err fault) new = Err fault

-- Reading on into the catalog that one reading left, where it has no fault: the numbers of the blobs go on. All that were read count.
abbrev pub reading_on : ℕ → Stream → Result Read ReadFault → Result Read ReadFault
reading_on first other before =
    and_then before (λ one.
    and_then (reading one.catalog (first + one.count) other) (λ two.
    Ok (record { count = one.count + two.count; catalog = two.catalog })))

-- Reading a stream that has no fault, and then another one, is reading the blobs of both as one stream: it gives the lists of both in order, or the first fault of both.
abbrev pub ReadsOn : Catalog → ℕ → List BlobView → Stream → Type 0
ReadsOn old first one other =
    reading_on first other (reading old first (record { blobs = one; fault = None })) ≡ reading old first (stream.before one other)
