use Rattle.std.proofs.Common.{◌≡◌, ◌≤◌, drop}
use Rattle.fbc_read.proofs.Listing.{HasRead}
use Rattle.fbc_read.proofs.bodies.read_files.Given as goal

abbrev pub invariant-paths : goal.invariant-paths
invariant-paths g l =
    record {
      same : g.F.Folder.held l.folder ≡ g.F.Folder.held l.fn.folder;
      later : g.F.Folder.faults l.fn.folder ≤ g.F.Folder.faults l.folder;
      read : HasRead (g.F.Folder.held l.fn.folder) (drop l.path-index l.paths) l.paths l.limit l.left l.files.items;
    }
