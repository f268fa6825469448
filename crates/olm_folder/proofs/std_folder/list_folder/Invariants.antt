use Rattle.std.proofs.Common.{◌≡◌, true, nat_eq}
use Rattle.std.specs.List.{list_all, starts_with}
use Rattle.olm_folder.proofs.std_folder.list_folder.Given as goal

abbrev pub invariant-loop-entry : goal.invariant-loop-entry
invariant-loop-entry g l =
    (goal.iterator-loop-entry g).can_next l.entry-iterator ×
    (goal.iterator-loop-entry g).is_finite l.entry-iterator ×
    (list_all (λ path. starts_with nat_eq path l.prefix) l.found.items ≡ true)
