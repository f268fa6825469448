-- The subscriptions that a plan adds: one for each package that is taken and that nobody subscribed to.
use Rattle.std.specs.Prelude.{ℕ, Bool, ◌&&◌, ◌++◌, if◌then◌else◌, List, take, Some, codes}
use Rattle.std.specs.List.{list_any}
use Rattle.cluster_objects.specs.Keys.{same_text}
use Rattle.cluster_objects.specs.Places.{subscription_key}
use Rattle.cluster_objects.specs.declared.plans.Step.{Step}
use Rattle.cluster_objects.specs.declared.plans.StepState.TheVariants.{Unknown}
use Rattle.cluster_objects.specs.declared.resolutions.Taken.{Taken}
use Rattle.cluster_objects.specs.declared.statuses.Made.TheVariants as made
use Rattle.cluster_objects.specs.declared.statuses.SubSpec.{SubSpec}
use Rattle.cluster_objects.specs.declared.statuses.SubState.TheVariants as state

-- a namespace's subscriptions, by their names
abbrev pub Subscriptions : Type 0
Subscriptions = List (List ℕ × SubSpec)

-- somebody subscribed to the package that is taken
abbrev pub is_subscribed : Subscriptions → Taken → Bool
is_subscribed subscriptions taken = list_any (λ subscription. same_text subscription.1.«package» taken.«package») subscriptions

-- something of this package is taken
abbrev pub takes_package : List Taken → List ℕ → Bool
takes_package taken «package» = list_any (λ one. same_text one.«package» «package») taken

-- A plan is manual where a subscription is whose package is taken.
abbrev pub is_manual : Subscriptions → List Taken → Bool
is_manual subscriptions taken = list_any (λ subscription. subscription.1.manual && takes_package taken subscription.1.«package») subscriptions

-- the most bytes of a name
abbrev pub name_limit : ℕ
name_limit = 1100

-- `PACKAGE-CHANNEL-CATALOG-CATALOGNAMESPACE`, or as much of it as a name may have
abbrev pub new_name : Taken → List ℕ
new_name taken =
    take name_limit
    (taken.«package» ++ codes "-" ++ taken.channel ++ codes "-" ++ taken.catalog ++ codes "-" ++ taken.catalog_namespace)

abbrev pub approval : Bool → List ℕ
approval manual = if manual then codes "Manual" else codes "Automatic"

-- what the new subscription asks for: what is taken, from where it is taken, and from that version on
abbrev pub new_spec : Bool → Taken → SubSpec
new_spec manual taken =
    record {
      «package» = taken.«package»;
      channel = Some taken.channel;
      source = taken.catalog;
      source_namespace = taken.catalog_namespace;
      starting = Some taken.name;
      manual = manual;
    }

-- the fields of a subscription's body, in their order; a name holds no byte that such a text would escape
abbrev pub channel_fields : Bool → Taken → List ℕ
channel_fields manual taken =
    codes "\"channel\":\"" ++ taken.channel ++ codes "\",\"installPlanApproval\":\"" ++ approval manual

abbrev pub source_fields : Taken → List ℕ
source_fields taken = codes "\",\"name\":\"" ++ taken.«package» ++ codes "\",\"source\":\"" ++ taken.catalog

abbrev pub last_fields : Taken → List ℕ
last_fields taken =
    codes "\",\"sourceNamespace\":\"" ++ taken.catalog_namespace ++ codes "\",\"startingCSV\":\"" ++ taken.name

abbrev pub body_of_spec : Bool → Taken → List ℕ
body_of_spec manual taken =
    codes "\"},\"spec\":{" ++ channel_fields manual taken ++ source_fields taken ++ last_fields taken ++ codes "\"}}"

-- a subscription of this name and namespace as a JSON text
abbrev pub body_named : List ℕ → List ℕ → Bool → Taken → List ℕ
body_named name namespace manual taken =
    codes "{\"apiVersion\":\"operators.coreos.com/v1alpha1\""
    ++ codes ",\"kind\":\"Subscription\",\"metadata\":{\"name\":\"" ++ name
    ++ codes "\",\"namespace\":\"" ++ namespace
    ++ body_of_spec manual taken

abbrev pub new_body : List ℕ → Bool → Taken → List ℕ
new_body namespace manual taken = body_named (new_name taken) namespace manual taken

abbrev pub new_subscription : List ℕ → Bool → Taken → Step
new_subscription namespace manual taken =
    record {
      key = subscription_key namespace (new_name taken);
      body = new_body namespace manual taken;
      made = made.Subscription (record { spec = new_spec manual taken; state = state.Nothing });
      state = Unknown;
    }
