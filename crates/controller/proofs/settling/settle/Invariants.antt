use Rattle.std.proofs.Common.{◌≡◌, ◌≤◌, true}
use Rattle.object_store.specs.Puts.{IsSound}
use Rattle.run_rules.specs.Settling.{Turns}
use Rattle.controller.specs.Answers.{outside_of}
use Rattle.controller.proofs.settling.settle.Given as goal

abbrev pub invariant-turns : goal.invariant-turns
invariant-turns g l = record {
  made : Turns (outside_of (g.C.Cluster.tells l.fn.cluster) g.C.Cluster.fits (g.C.Cluster.limit l.fn.cluster)) l.namespace l.writes
      (g.C.Cluster.history l.fn.cluster) (g.C.Cluster.history l.cluster);
  tells : g.C.Cluster.tells l.cluster ≡ g.C.Cluster.tells l.fn.cluster;
  limit : g.C.Cluster.limit l.cluster ≡ g.C.Cluster.limit l.fn.cluster;
  ready : g.C.Cluster.ready l.cluster ≡ true;
  sound : IsSound (g.C.Cluster.tells l.fn.cluster) (g.C.Cluster.damage l.fn.cluster)
      → IsSound (g.C.Cluster.tells l.cluster) (g.C.Cluster.damage l.cluster);
  faults : g.C.Cluster.faults l.fn.cluster ≤ g.C.Cluster.faults l.cluster;
}
