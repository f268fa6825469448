-- A catalog that is read blob by blob.
use Rattle.std.proofs.Common.{Bool, true, false, true≢false, ◌≡◌, ◌+◌, ◌≤◌, ℕ, List, [], ◌∷◌, ◌++◌, Option, Some, None, Result, Ok, Err, map, length, refl, sym, ap, ◌∙◌, append_assoc, append-nil, arith, length-append}
use Rattle.std.proofs.lemmas.List.{map-append, length-map}
use Rattle.serde_json.specs.Data.{Data}
use Rattle.catalog_stream.specs.Reading.{Reading}
use Rattle.catalog_stream.specs.Stream.{Stream, BlobView, before}
use Rattle.catalog_stream.specs.declared.blobs.StreamFault.{StreamFault}
use Rattle.fbc_types.specs.declared.catalog.Catalog.{Catalog}
use Rattle.json_fields.specs.declared.fault.Fault.{Fault}
use Rattle.fbc_read.specs.declared.reading.ReadFault.{ReadFault}
use Rattle.fbc_read.specs.declared.reading.ReadFault.TheVariants.{Field}
use Rattle.json_fields.specs.Faults.{and_then}
use Rattle.fbc_read.specs.Blobs.{nothing, one_blob}
use Rattle.fbc_read.specs.Catalogs.{numbered, joined, joined_to, catalog, values, unless_broken, Read, reading, reading_on, ReadsOn}
use Rattle.fbc_read.proofs.Joining.{reads_on, joined_assoc, joined_nothing}

-- where one fault is not free, neither is the one that it stands for
pub not_free : (inner outer : Bool) → (inner ≡ true → outer ≡ true) → outer ≡ false → inner ≡ false
not_free true outer h e = absurd (true≢false (sym (h refl) ∙ e))
not_free false outer h e = refl

-- A loop over a stream that has read so many blobs of it, into this catalog, and has that stream left.
pub record Along (old : Catalog) (first : ℕ) (whole rest : Stream) (count : ℕ) (now : Catalog) : Type 0 where
  pub found : List BlobView
  pub given : Catalog
  pub parts : whole ≡ before found rest
  pub number : length found ≡ count
  pub read : catalog first (map (λ blob. blob.value) found) ≡ Ok given
  pub joined_is : now ≡ joined old given

pub at_start : (old : Catalog) (first : ℕ) (whole : Stream) → Along old first whole whole 0 old
at_start old first whole = record { found = []; given = nothing; parts = refl; number = refl; read = refl; joined_is = sym (joined_nothing old) }

-- what is read of all, by what is read of the blobs that are left
values_split : (found : List BlobView) (rest : Stream) → values (before found rest) ≡ map (λ blob. blob.value) found ++ values rest
values_split found rest = map-append (λ (blob : BlobView). blob.value) found rest.blobs

split : (old : Catalog) (first : ℕ) (whole rest : Stream) (count : ℕ) (now : Catalog) (h : Along old first whole rest count now)
    → catalog first (values whole) ≡ and_then (catalog (first + count) (values rest)) (λ more. Ok (joined h.given more))
split old first whole rest count now h =
    ap (λ s. catalog first (values s)) h.parts
    ∙ ap (catalog first) (values_split h.found rest)
    ∙ reads_on first (map (λ blob. blob.value) h.found) (values rest)
    ∙ ap (λ read. and_then read (λ found. and_then (catalog (first + length (map (λ (blob : BlobView). blob.value) h.found)) (values rest)) (λ more. Ok (joined found more)))) h.read
    ∙ ap (λ n. and_then (catalog (first + n) (values rest)) (λ more. Ok (joined h.given more))) (length-map h.found (λ (blob : BlobView). blob.value) ∙ h.number)

-- what was joined, where a catalog was
joined_from : (now new : Catalog) (read : Result Catalog Fault) → joined_to now read ≡ Ok new → (given : Catalog) × (read ≡ Ok given) × (joined now given ≡ new)
joined_from now new (Ok given) e = (given, refl, cc e)
joined_from now new (Err fault) e = cc e

joined_err : (now : Catalog) (read : Result Catalog Fault) (fault : Fault) → joined_to now read ≡ Err fault → read ≡ Err fault
joined_err now (Ok given) fault e = cc e
joined_err now (Err inner) fault e =
    let same : inner ≡ fault = cc e in
    ap Err same

parts_more : (found : List BlobView) (blob : BlobView) (later : Stream) → before found (before (blob ∷ []) later) ≡ before (found ++ blob ∷ []) later
parts_more found blob later = ap (λ blobs. record { blobs = blobs; fault = later.fault }) (append_assoc′ found (blob ∷ []) later.blobs)
  where
    append_assoc′ : (one two three : List BlobView) → one ++ (two ++ three) ≡ (one ++ two) ++ three
    append_assoc′ one two three = sym (append_assoc one two three)

-- one blob more
pub one_more : (old : Catalog) (first : ℕ) (whole rest later : Stream) (count : ℕ) (now new : Catalog) (blob : BlobView)
    → Along old first whole rest count now → rest ≡ before (blob ∷ []) later → joined_to now (one_blob blob.value) ≡ Ok new → Along old first whole later (count + 1) new
one_more old first whole rest later count now new blob h e f =
    let one = joined_from now new (one_blob blob.value) f in
    let given = one.0 in
    let value : BlobView → Data = λ (blob : BlobView). blob.value in
    record {
      found = h.found ++ blob ∷ [];
      given = joined h.given given;
      parts = h.parts ∙ ap (before h.found) e ∙ parts_more h.found blob later;
      number = omega (arith, length-append h.found (blob ∷ []), h.number);
      read =
          ap (catalog first) (map-append value h.found (blob ∷ []))
          ∙ reads_on first (map value h.found) (blob.value ∷ [])
          ∙ ap (λ read. and_then read (λ found. and_then (catalog (first + length (map value h.found)) (blob.value ∷ [])) (λ more. Ok (joined found more)))) h.read
          ∙ ap (λ read. and_then (and_then (numbered (first + length (map value h.found)) read) (λ found. Ok (joined found nothing))) (λ more. Ok (joined h.given more))) one.1
          ∙ ap (λ more. Ok (joined h.given more)) (joined_nothing given);
      joined_is = sym one.2 ∙ ap (λ now. joined now given) h.joined_is ∙ sym (joined_assoc old h.given given);
    }

-- a fault in the next blob is that of all
pub blob_fault : (old : Catalog) (first : ℕ) (whole rest later : Stream) (count : ℕ) (now : Catalog) (blob : BlobView) (fault : Fault)
    → Along old first whole rest count now → rest ≡ before (blob ∷ []) later → joined_to now (one_blob blob.value) ≡ Err fault → reading old first whole ≡ Err (Field (first + count) fault.path fault.kind)
blob_fault old first whole rest later count now blob fault h e f =
    let go : Result Catalog ReadFault → Result Read ReadFault = λ (read : Result Catalog ReadFault). and_then read (λ found. unless_broken (record { count = length whole.blobs; catalog = joined old found }) whole.fault) in
    ap go (split old first whole rest count now h)
    ∙ ap (λ s. go (and_then (catalog (first + count) (values s)) (λ more. Ok (joined h.given more)))) e
    ∙ ap (λ read. go (and_then (and_then (numbered (first + count) read) (λ found. and_then (catalog (first + count + 1) (values later)) (λ more. Ok (joined found more)))) (λ more. Ok (joined h.given more)))) (joined_err now (one_blob blob.value) fault f)

-- where no blob is left, what was read is all, or the fault of the stream is that of all
pub at_end : (old : Catalog) (first : ℕ) (whole rest : Stream) (count : ℕ) (now : Catalog) (end : Option StreamFault)
    → Along old first whole rest count now → rest ≡ record { blobs = []; fault = end } → reading old first whole ≡ unless_broken (record { count = count; catalog = now }) end
at_end old first whole rest count now end h e =
    ap (reading old first) (h.parts ∙ ap (before h.found) e ∙ ap (λ blobs. record { blobs = blobs; fault = end }) (append-nil h.found))
    ∙ ap (λ read. and_then read (λ found. unless_broken (record { count = length h.found; catalog = joined old found }) end)) h.read
    ∙ ap (λ n. unless_broken (record { count = n; catalog = joined old h.given }) end) h.number
    ∙ ap (λ now. unless_broken (record { count = count; catalog = now }) end) (sym h.joined_is)

-- The loop goes on: it is in the same text, at a place that is no lower than the number of blobs, and it is along.
pub record Goes (old now : Reading) (count : ℕ) (IsAlong : Type 0) : Type 0 where
  pub text : now.text ≡ old.text
  pub low : count ≤ now.at
  pub along : IsAlong

abbrev pub read_of : ℕ → Catalog → Read
read_of count catalog = record { count = count; catalog = catalog }

-- both streams counted and joined
both : (old given : Catalog) (read : Result Catalog ReadFault) (one : List BlobView) (other : Stream) (end : Option StreamFault)
    → and_then (and_then read (λ found. unless_broken (read_of (length other.blobs) (joined (joined old given) found)) end)) (λ two. Ok (read_of (length one + two.count) two.catalog))
    ≡ and_then (and_then read (λ more. Ok (joined given more))) (λ found. unless_broken (read_of (length (one ++ other.blobs)) (joined old found)) end)
both old given (Ok more) one other None =
    ap (λ n. Ok (read_of n (joined (joined old given) more))) (sym (length-append one other.blobs))
    ∙ ap (λ now. Ok (read_of (length (one ++ other.blobs)) now)) (sym (joined_assoc old given more))
both old given (Ok more) one other (Some fault) = refl
both old given (Err fault) one other end = refl

on_from : (old : Catalog) (first : ℕ) (one : List BlobView) (other : Stream) (read : Result Catalog ReadFault)
    → reading_on first other (and_then read (λ found. Ok (read_of (length one) (joined old found))))
    ≡ and_then (and_then read (λ found. and_then (catalog (first + length one) (values other)) (λ more. Ok (joined found more)))) (λ found. unless_broken (read_of (length (one ++ other.blobs)) (joined old found)) other.fault)
on_from old first one other (Ok given) = both old given (catalog (first + length one) (values other)) one other other.fault
on_from old first one other (Err fault) = refl

-- one stream after another
pub reads_on_stream : (old : Catalog) (first : ℕ) (one : List BlobView) (other : Stream) → ReadsOn old first one other
reads_on_stream old first one other =
    let value : BlobView → Data = λ (blob : BlobView). blob.value in
    let go : Result Catalog ReadFault → Result Read ReadFault = λ (read : Result Catalog ReadFault). and_then read (λ found. unless_broken (read_of (length (one ++ other.blobs)) (joined old found)) other.fault) in
    on_from old first one other (catalog first (map value one))
    ∙ ap (λ n. go (and_then (catalog first (map value one)) (λ found. and_then (catalog (first + n) (values other)) (λ more. Ok (joined found more))))) (sym (length-map one value))
    ∙ ap go (sym (reads_on first (map value one) (values other)) ∙ ap (catalog first) (sym (values_split one other)))
