-- Where the objects stand that have a place by their name: the keys of the rules' own kinds.
use Rattle.std.specs.Prelude.{Bool, ◌||◌, ℕ, List, [], codes}
use Rattle.olm_base.specs.Names.{is_name}
use Rattle.cluster_objects.specs.Keys.{same_text}
use Rattle.cluster_objects.specs.Kinds.{operators, local}
use Rattle.cluster_objects.specs.declared.keys.Key.{Key}
use Rattle.cluster_objects.specs.declared.objects.Writer.{Writer}
use Rattle.cluster_objects.specs.declared.objects.Writer.TheVariants as writer

-- a namespace is a name, or empty where a kind stands in none
abbrev pub is_place : List ℕ → Bool
is_place namespace = same_text namespace (codes "") || is_name namespace

abbrev pub plan_key : List ℕ → List ℕ → Key
plan_key namespace name = record { group = operators; kind = codes "InstallPlan"; namespace = namespace; name = name }

abbrev pub catalog_key : List ℕ → List ℕ → Key
catalog_key namespace name = record { group = operators; kind = codes "CatalogSource"; namespace = namespace; name = name }

abbrev pub csv_key : List ℕ → List ℕ → Key
csv_key namespace name = record { group = operators; kind = codes "ClusterServiceVersion"; namespace = namespace; name = name }

abbrev pub subscription_key : List ℕ → List ℕ → Key
subscription_key namespace name = record { group = operators; kind = codes "Subscription"; namespace = namespace; name = name }

abbrev pub deployment_key : List ℕ → List ℕ → Key
deployment_key namespace name = record { group = codes "apps"; kind = codes "Deployment"; namespace = namespace; name = name }

-- a definition of resources stands in no namespace
abbrev pub crd_key : List ℕ → Key
crd_key name = record { group = codes "apiextensions.k8s.io"; kind = codes "CustomResourceDefinition"; namespace = []; name = name }

-- a namespace has one Resolution
abbrev pub resolution_key : List ℕ → Key
resolution_key namespace = record { group = local; kind = codes "Resolution"; namespace = namespace; name = codes "current" }

-- and one strategy that counts
abbrev pub strategy_key : List ℕ → Key
strategy_key namespace = record { group = local; kind = codes "Strategy"; namespace = namespace; name = codes "strategy" }

-- the claims of all namespaces are one object
abbrev pub claims_key : Key
claims_key = record { group = local; kind = codes "Claims"; namespace = []; name = codes "claims" }

-- the word of a role
abbrev pub role_word : Writer → List ℕ
role_word writer.User = codes "user"
role_word writer.Resolver = codes "resolver"
role_word writer.Installer = codes "installer"
role_word writer.Phases = codes "phases"

-- each role of a namespace has a lease of its own
abbrev pub lease_key : List ℕ → Writer → Key
lease_key namespace role = record { group = local; kind = codes "Lease"; namespace = namespace; name = role_word role }
