use Rattle.std.proofs.Common.{◌≡◌, true}
use Rattle.std.specs.List.{list_all}
use Rattle.olm_folder.specs.Files.{folder_prefix, is_below}
use Rattle.olm_folder.proofs.std_folder.find_files.Given as goal

abbrev pub invariant-loop : goal.invariant-loop
invariant-loop g l =
    (l.prefix.items ≡ folder_prefix l.under) ×
    (list_all (is_below l.under) l.found.items ≡ true)
