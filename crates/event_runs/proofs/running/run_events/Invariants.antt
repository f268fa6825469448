use Rattle.std.proofs.Common.{◌≡◌, ◌≤◌, true, false, ℕ, List, take}
use Rattle.std.specs.List.{list_any}
use Rattle.std.specs.Io.KnownBytes.{Appends}
use Rattle.object_store.specs.Puts.{IsSound}
use Rattle.folder_events.specs.Events.{is_of_folder}
use Rattle.event_runs.specs.Runs.{AllPass}
use Rattle.event_runs.proofs.running.run_events.Given as goal

abbrev pub invariant-events : goal.invariant-events
invariant-events g l = record {
  passed : (lines : List ℕ) × AllPass (g.C.Cluster.tells l.fn.cluster) g.C.Cluster.fits (g.C.Cluster.limit l.fn.cluster) (g.F.Folder.held l.fn.folder) (g.C.Cluster.history l.fn.cluster) (take l.event-index l.events) (g.C.Cluster.history l.cluster) lines
      × Appends (g.O.Sink.held l.fn.out) (g.O.Sink.held l.out) lines;
  tells : g.C.Cluster.tells l.cluster ≡ g.C.Cluster.tells l.fn.cluster;
  limit : g.C.Cluster.limit l.cluster ≡ g.C.Cluster.limit l.fn.cluster;
  same : g.F.Folder.held l.folder ≡ g.F.Folder.held l.fn.folder;
  untouched : list_any is_of_folder l.events ≡ false → l.folder ≡ l.fn.folder;
  ready : g.C.Cluster.ready l.cluster ≡ true;
  sound : IsSound (g.C.Cluster.tells l.cluster) (g.C.Cluster.damage l.cluster);
  store : g.C.Cluster.faults l.fn.cluster ≤ g.C.Cluster.faults l.cluster;
  folder : g.F.Folder.faults l.fn.folder ≤ g.F.Folder.faults l.folder;
  output : g.O.Sink.faults l.fn.out ≤ g.O.Sink.faults l.out;
}
