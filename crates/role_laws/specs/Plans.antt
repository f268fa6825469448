-- What one write makes of a plan's phase.
use Rattle.std.specs.Prelude.{◌≡◌, ℕ, Option, Some, None}
use Rattle.std.specs.Option.{option_map}
use Rattle.cluster_objects.specs.Kinds.{plan_at}
use Rattle.cluster_objects.specs.declared.keys.Key.{Key}
use Rattle.cluster_objects.specs.declared.objects.Object.{Object}
use Rattle.cluster_objects.specs.declared.objects.Write.{Write}
use Rattle.cluster_objects.specs.declared.objects.Writer.TheVariants as writer
use Rattle.cluster_objects.specs.declared.plans.PlanPhase.{PlanPhase}
use Rattle.cluster_history.specs.History.{History, slot}
use Rattle.cluster_history.specs.Views.{view}
use Rattle.controller_rules.specs.PlanEdges.{IsPlanEdge}
use Rattle.role_laws.specs.Moments.{HadLength}

-- the phase of the plan, if one stands at the key
abbrev pub plan_phase_of : Key → Option Object → Option PlanPhase
plan_phase_of key object = option_map (λ plan. plan.phase) (plan_at key object)

abbrev pub plan_phase_at : History → Key → Option PlanPhase
plan_phase_at h key = plan_phase_of key (slot h key).object

-- A plan's phase stays, or a user removes the plan, or the resolver makes a plan where none stands, or the installer goes on with
-- the one that stands; each of these two along an edge that is there in a view of the plan's namespace, of this history at some
-- length.
pub data PlanGoes (h : History) (w : Write) (key : Key) (old new : Option PlanPhase) : Type 0 where
  Stays : new ≡ old → PlanGoes h w key old new
  IsRemoved : w.by ≡ writer.User → new ≡ None → PlanGoes h w key old new
  IsMade : w.by ≡ writer.Resolver → (to : PlanPhase) (length : ℕ) → old ≡ None → new ≡ Some to → HadLength h length
      → IsPlanEdge (view h key.namespace length) key None to → PlanGoes h w key old new
  GoesOn : w.by ≡ writer.Installer → (from to : PlanPhase) (length : ℕ) → old ≡ Some from → new ≡ Some to → HadLength h length
      → IsPlanEdge (view h key.namespace length) key (Some from) to → PlanGoes h w key old new
