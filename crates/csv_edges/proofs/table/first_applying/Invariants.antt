use Rattle.std.proofs.Common.{◌≡◌, drop}
use Rattle.std.specs.List.{find}
use Rattle.csv_phases.specs.Edges.{applies}
use Rattle.csv_edges.proofs.table.first_applying.Given as goal

abbrev pub invariant-edges : goal.invariant-edges
invariant-edges l = find (applies l.view l.csv) (drop l.edge-index l.edges) ≡ find (applies l.view l.csv) l.edges
