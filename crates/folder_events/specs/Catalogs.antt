-- What a `catalog` event asks for, by the files below its path: to write their text, if it is a valid catalog, or a refusal in the words of what comes first.
use Rattle.std.specs.Prelude.{◌≡◌, ℕ, ℤ, pos, List, [], ◌∷◌, codes, Option, Result, Ok, Err}
use Rattle.std.specs.Option.{unwrap_or}
use Rattle.json_fields.specs.Faults.{and_then}
use Rattle.olm_io.specs.declared.traits.FolderFault.TheVariants as folder
use Rattle.catalog_stream.specs.Stream.{blobs}
use Rattle.fault_words.specs.Words.{stream_words, field_words, split_words, unread_words, too_long_words}
use Rattle.fbc_types.specs.Rules.{broken}
use Rattle.fbc_types.specs.declared.catalog.Catalog.{Catalog}
use Rattle.fbc_types.specs.declared.fault.CheckFault.{CheckFault}
use Rattle.fbc_read.specs.Blobs.{nothing}
use Rattle.fbc_read.specs.Bodies.{IsBody, input_limit}
use Rattle.fbc_read.specs.Catalogs.{Read, reading}
use Rattle.fbc_read.specs.declared.bodies.BodyFault.{BodyFault}
use Rattle.fbc_read.specs.declared.bodies.BodyFault.TheVariants.{Folder, Yaml, Split, Memory}
use Rattle.fbc_read.specs.declared.reading.ReadFault.{ReadFault}
use Rattle.fbc_read.specs.declared.reading.ReadFault.TheVariants as read
use Rattle.catalog_lines.specs.Lines.{rule_words}
use Rattle.cluster_objects.specs.declared.objects.Write.{Write}
use Rattle.cluster_history.specs.History.{History}
use Rattle.user_events.specs.Asked as user
use Rattle.user_events.specs.Reasons.{refused}
use Rattle.user_events.specs.declared.refusals.Refusal.{Refusal}
use Rattle.user_events.specs.declared.refusals.Refusal.TheVariants as refusal

-- The words of a fault of files. The last three are faults of calls, which no files have.
abbrev pub body_words : BodyFault → List ℕ
body_words (Yaml path) = unread_words path
body_words (Folder (folder.TooLong limit)) = too_long_words
body_words (Split path fault) = split_words path fault
body_words (Folder folder.Failed) = codes "folder failed"
body_words (Folder folder.Memory) = codes "out of memory"
body_words Memory = codes "out of memory"

-- The refusal of a text that gives no catalog.
abbrev pub read_refusal : ReadFault → Refusal
read_refusal (read.Stream fault) = refusal.Reason (stream_words fault)
read_refusal (read.Field blob path kind) = refusal.Reason (field_words blob path kind)
read_refusal read.Memory = refusal.Memory

abbrev pub or_refusal : Result Read ReadFault → Result Catalog Refusal
or_refusal (Ok found) = Ok found.catalog
or_refusal (Err fault) = Err (read_refusal fault)

-- the catalog of all blobs of a text
abbrev pub catalog_of : List ℕ → Result Catalog Refusal
catalog_of text = or_refusal (reading nothing 0 (blobs text))

-- A text whose catalog breaks these rules.
abbrev pub unless_broken : List ℕ → List CheckFault → Result (List ℕ) Refusal
unless_broken text [] = Ok text
unless_broken text (fault ∷ faults) = refused (rule_words fault)

-- The text, if it is a valid catalog; or else its first fault of stream or field, or the first rule that its catalog breaks.
abbrev pub valid_text : List ℕ → Result (List ℕ) Refusal
valid_text text = and_then (catalog_of text) (λ catalog. unless_broken text (broken catalog))

-- what files give together
abbrev pub valid_body : Result (List ℕ) BodyFault → Result (List ℕ) Refusal
valid_body (Ok text) = valid_text text
valid_body (Err fault) = refused (body_words fault)

-- Where no priority is given it is 0.
abbrev pub catalog_after : History → List ℕ → List ℕ → Option ℤ → Result (List ℕ) BodyFault → Result Write Refusal
catalog_after h namespace name priority body =
    and_then (valid_body body) (λ text. user.catalog h namespace name text (unwrap_or priority (pos 0)))

-- What the event asks for by some files that the folder may hold below the path. A folder that tells what it holds has one such list.
abbrev pub AsksCatalog : Option (List (List ℕ × List ℕ)) → History → List ℕ → List ℕ → List ℕ → Option ℤ → Result Write Refusal → Type 0
AsksCatalog held h namespace name path priority asked =
    (body : Result (List ℕ) BodyFault) × IsBody held path input_limit body × (catalog_after h namespace name priority body ≡ asked)
