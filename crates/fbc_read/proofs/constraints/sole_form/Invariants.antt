use Rattle.std.proofs.Common.{◌≡◌, ◌++◌, drop, filter}
use Rattle.serde_json.specs.View.{view}
use Rattle.fbc_read.specs.Constraints.{is_present, key}
use Rattle.fbc_read.proofs.Forms.{as_list}
use Rattle.fbc_read.proofs.constraints.sole_form.Given as goal

abbrev pub invariant-loop-form : goal.invariant-loop-form
invariant-loop-form l = as_list l.found ++ filter (λ form. is_present (key form) (view l.value)) (drop l.form-index l.forms) ≡ filter (λ form. is_present (key form) (view l.value)) l.forms
