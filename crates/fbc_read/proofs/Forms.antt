-- The forms of a constraint, looked for one by one.
use Rattle.std.proofs.Common.{List, [], ◌∷◌, Option, Some, None}
use Rattle.fbc_read.specs.declared.constraints.Form.{Form}

-- the form that was found so far, as a list
abbrev pub as_list : Option Form → List Form
as_list None = []
as_list (Some form) = form ∷ []
