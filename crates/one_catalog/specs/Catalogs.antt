-- The one test of a valid catalog.
use Rattle.std.specs.Prelude.{◌≡◌, Bool, ℕ, List, Some}
use Rattle.std.specs.Option.{is_some}
use Rattle.fbc_types.specs.declared.catalog.Catalog.{Catalog}
use Rattle.folder_events.specs.Laws.{IsValid}
use Rattle.view_basis.specs.Bodies.{valid_catalog}
use Rattle.view_basis.specs.declared.visible.Visible.{Visible}

-- the bytes are a valid catalog to a view
abbrev pub is_valid_catalog : List ℕ → Bool
is_valid_catalog body = is_some (valid_catalog body)

-- the bytes are a valid catalog to an event of a user, and this is it
abbrev pub IsCatalogOf : List ℕ → Catalog → Type 0
IsCatalogOf body catalog = (valid : IsValid body) × (valid.read.catalog ≡ catalog)

-- a visible catalog of which the body is a valid one
abbrev pub HasCatalog : Visible → Type 0
HasCatalog visible = (catalog : Catalog) × (visible.catalog ≡ Some catalog)
