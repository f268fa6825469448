-- Which catalog a body is.
use Rattle.std.specs.Prelude.{ℕ, nat_le, if◌then◌else◌, List, length, Option, None}
use Rattle.std.specs.Option.{option_and_then}
use Rattle.std.specs.Result.{result_ok}
use Rattle.catalog_stream.specs.Stream.{blobs}
use Rattle.fbc_read.specs.Blobs.{nothing}
use Rattle.fbc_read.specs.Bodies.{input_limit}
use Rattle.fbc_read.specs.Catalogs.{reading}
use Rattle.fbc_check.specs.Checking.{checked}
use Rattle.fbc_types.specs.declared.catalog.Catalog.{Catalog}

-- The catalog of a text that is read without fault, where that catalog breaks no rule.
abbrev pub catalog_of : List ℕ → Option Catalog
catalog_of text = option_and_then (λ read. result_ok (checked read.catalog)) (result_ok (reading nothing 0 (blobs text)))

-- A body above the limit is no catalog, whatever it holds.
unfoldable pub valid_catalog : List ℕ → Option Catalog
valid_catalog body = if nat_le (length body) input_limit then catalog_of body else None
