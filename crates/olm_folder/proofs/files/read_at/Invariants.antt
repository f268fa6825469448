use Rattle.std.proofs.Common.{◌≡◌, drop}
use Rattle.olm_folder.specs.Files.{bytes_at}
use Rattle.olm_folder.proofs.files.read_at.Given as goal

abbrev pub invariant-loop-other : goal.invariant-loop-other
invariant-loop-other l = bytes_at l.path (drop l.other-index l.files) ≡ bytes_at l.path l.files
