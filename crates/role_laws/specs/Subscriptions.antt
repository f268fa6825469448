-- What one write makes of a Subscription's state.
use Rattle.std.specs.Prelude.{◌≡◌, ℕ, Option, Some, None}
use Rattle.std.specs.Option.{option_map}
use Rattle.cluster_objects.specs.Kinds.{subscription_at}
use Rattle.cluster_objects.specs.declared.keys.Key.{Key}
use Rattle.cluster_objects.specs.declared.objects.Object.{Object}
use Rattle.cluster_objects.specs.declared.objects.Write.{Write}
use Rattle.cluster_objects.specs.declared.objects.Writer.TheVariants as writer
use Rattle.cluster_objects.specs.declared.statuses.SubState.{SubState}
use Rattle.cluster_objects.specs.declared.statuses.SubState.TheVariants as state
use Rattle.cluster_history.specs.History.{History, slot}
use Rattle.cluster_history.specs.Views.{view}
use Rattle.csv_phases.specs.States.{IsSubscriptionEdge}
use Rattle.role_laws.specs.Moments.{HadLength}

-- the state of the Subscription, if one stands at the key
abbrev pub state_of : Key → Option Object → Option SubState
state_of key object = option_map (λ subscription. subscription.state) (subscription_at key object)

abbrev pub state_at : History → Key → Option SubState
state_at h key = state_of key (slot h key).object

-- A Subscription's state stays, or a new Subscription has none, or a user removes the Subscription, or the role phases leads it
-- along an edge that is there in a view of its namespace, of this history at some length.
pub data SubscriptionGoes (h : History) (w : Write) (key : Key) (old new : Option SubState) : Type 0 where
  Stays : new ≡ old → SubscriptionGoes h w key old new
  IsNew : old ≡ None → new ≡ Some state.Nothing → SubscriptionGoes h w key old new
  IsRemoved : w.by ≡ writer.User → new ≡ None → SubscriptionGoes h w key old new
  TakesEdge : w.by ≡ writer.Phases → (from to : SubState) (length : ℕ) → old ≡ Some from → new ≡ Some to → HadLength h length
      → IsSubscriptionEdge (view h key.namespace length) key from to → SubscriptionGoes h w key old new
