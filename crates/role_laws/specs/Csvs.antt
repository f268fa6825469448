-- What one write makes of a CSV's phase.
use Rattle.std.specs.Prelude.{◌≡◌, ℕ, Option, Some, None}
use Rattle.std.specs.Option.{option_map}
use Rattle.cluster_objects.specs.Kinds.{csv_at}
use Rattle.cluster_objects.specs.declared.keys.Key.{Key}
use Rattle.cluster_objects.specs.declared.objects.Object.{Object}
use Rattle.cluster_objects.specs.declared.objects.Write.{Write}
use Rattle.cluster_objects.specs.declared.objects.Writer.TheVariants as writer
use Rattle.cluster_objects.specs.declared.statuses.CsvPhase.{CsvPhase}
use Rattle.cluster_objects.specs.declared.statuses.CsvPhase.TheVariants as phase
use Rattle.cluster_history.specs.History.{History, slot}
use Rattle.cluster_history.specs.Views.{view}
use Rattle.csv_phases.specs.Edges.{IsCsvEdge}
use Rattle.role_laws.specs.Moments.{HadLength}

-- the phase of the CSV, if one stands at the key
abbrev pub phase_of : Key → Option Object → Option CsvPhase
phase_of key object = option_map (λ csv. csv.phase) (csv_at key object)

abbrev pub phase_at : History → Key → Option CsvPhase
phase_at h key = phase_of key (slot h key).object

-- A CSV's phase stays, or a new CSV has none, or a user removes the CSV, or the role phases leads it along an edge that is there
-- in a view of its namespace, of this history at some length.
pub data CsvGoes (h : History) (w : Write) (key : Key) (old new : Option CsvPhase) : Type 0 where
  Stays : new ≡ old → CsvGoes h w key old new
  IsNew : old ≡ None → new ≡ Some phase.Nothing → CsvGoes h w key old new
  IsRemoved : w.by ≡ writer.User → new ≡ None → CsvGoes h w key old new
  TakesEdge : w.by ≡ writer.Phases → (from : CsvPhase) (length : ℕ) → old ≡ Some from → HadLength h length
      → IsCsvEdge (view h key.namespace length) key from new → CsvGoes h w key old new
