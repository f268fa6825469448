use Rattle.std.proofs.Common.{◌≡◌, ◌≤◌, ◌<◌, ℕ, get_or, length}
use Rattle.std.specs.Prelude.{if◌then◌else◌}
use Rattle.olm_disk.specs.Kept.{is_covered}
use Rattle.olm_disk.proofs.replay.spoil.Given as goal

abbrev pub invariant-loop-place : goal.invariant-loop-place
invariant-loop-place l =
    record {
      done : (place : ℕ) → place < l.place → get_or l.content place 0 ≡ (if is_covered place l.stages then l.byte else get_or l.fn.content place 0);
      rest : (place : ℕ) → l.place ≤ place → get_or l.content place 0 ≡ get_or l.fn.content place 0;
    }
