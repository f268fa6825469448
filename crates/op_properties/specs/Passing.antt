-- Which offers meet a requirement.
use Rattle.std.specs.Prelude.{Bool, false, not, ◌&&◌}
use Rattle.std.specs.List.{list_all, list_any}
use Rattle.version_ranges.specs.Conditions.{holds_of}
use Rattle.op_properties.specs.Offers.{Provided, is_among, is_of}
use Rattle.op_properties.specs.declared.requirement.Requirement.{Requirement, fold-Requirement}
use Rattle.op_properties.specs.declared.requirement.Requirement.TheOpen.{Requirement-F}

-- Whether the requirement is met, given which of the requirements in it are.
abbrev pub passes_by : Provided → Requirement-F Bool → Bool
passes_by provided (Requirement-F.Package name range) = is_of name provided.«package» && holds_of range provided.version
passes_by provided (Requirement-F.Kind kind) = is_among kind provided.kinds
passes_by provided (Requirement-F.All members) = list_all (λ member. member) members
passes_by provided (Requirement-F.Any members) = list_any (λ member. member) members
passes_by provided (Requirement-F.Not members) = not (list_any (λ member. member) members)
passes_by provided Requirement-F.Unsupported = false

unfoldable pub passes : Requirement → Provided → Bool
passes requirement provided = fold-Requirement Bool (passes_by provided) requirement
