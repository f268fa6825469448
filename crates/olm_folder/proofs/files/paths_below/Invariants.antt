use Rattle.std.proofs.Common.{◌≡◌, ◌++◌, drop}
use Rattle.olm_folder.specs.Files.{paths_below}
use Rattle.olm_folder.proofs.files.paths_below.Given as goal

abbrev pub invariant-loop-path : goal.invariant-loop-path
invariant-loop-path l = l.paths.items ++ paths_below l.under (drop l.path-index l.files) ≡ paths_below l.under l.files
