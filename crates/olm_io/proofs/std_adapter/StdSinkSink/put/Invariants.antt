use Rattle.std.proofs.Common.{◌≡◌, ◌++◌, List, ℕ, length}
use Rattle.std.specs.Io.KnownBytes.{Appends}
use Rattle.olm_io.proofs.std_adapter.StdSinkSink.put.Given as goal

abbrev pub invariant-loop-rest : goal.invariant-loop-rest
invariant-loop-rest g l =
    (front : List ℕ) × (l.piece ≡ front ++ l.rest) × (l.self.faults ≡ l.fn.self.faults)
    × Appends (g.W.Write.contents l.fn.self.inner) (g.W.Write.contents l.self.inner) front

abbrev pub decreases-loop-rest : goal.decreases-loop-rest
decreases-loop-rest g l = length l.rest
