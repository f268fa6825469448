-- The history in which a catalog and one subscription to it are written, and what the subscription's namespace sees of it.
use Rattle.std.specs.Prelude.{ℕ, List, [], Some, None, codes, false, pos}
use Rattle.cluster_objects.specs.Kinds.{operators}
use Rattle.cluster_objects.specs.declared.keys.Key.{Key}
use Rattle.cluster_objects.specs.declared.objects.Status.TheVariants as status
use Rattle.cluster_objects.specs.declared.objects.Write.{Write}
use Rattle.cluster_objects.specs.declared.objects.Writer.TheVariants as writer
use Rattle.cluster_objects.specs.declared.statuses.SubSpec.{SubSpec}
use Rattle.cluster_objects.specs.declared.statuses.SubState.TheVariants as state
use Rattle.cluster_history.specs.History.{History, Start, After, empty}
use Rattle.cluster_history.specs.Views.{View, view}

-- The catalog `olm/catalog`.
abbrev pub catalog_key : Key
catalog_key = record { group = operators; kind = codes "CatalogSource"; namespace = codes "olm"; name = codes "catalog" }

-- It has this body and the priority 0.
abbrev pub catalog_write : List ℕ → Write
catalog_write body = record {
  by = writer.User;
  expect = 0;
  key = catalog_key;
  object = Some (record { body = body; status = status.Catalog (record { priority = pos 0 }); owner = None; stamp = None; seen = 0 });
}

-- The subscription in the namespace `default`, named as the package that it asks for.
abbrev pub subscription_key : List ℕ → Key
subscription_key name =
    record { group = operators; kind = codes "Subscription"; namespace = codes "default"; name = name }

-- It asks for the channel in that catalog, and waits for no approval.
abbrev pub subscription_spec : List ℕ → List ℕ → SubSpec
subscription_spec owner channel = record {
  «package» = owner;
  channel = Some channel;
  source = codes "catalog";
  source_namespace = codes "olm";
  starting = None;
  manual = false;
}

abbrev pub subscription_write : List ℕ → List ℕ → Write
subscription_write owner channel = record {
  by = writer.User;
  expect = 0;
  key = subscription_key owner;
  object = Some (record {
    body = [];
    status = status.Subscription (record { spec = subscription_spec owner channel; state = state.Nothing });
    owner = None;
    stamp = None;
    seen = 1;
  });
}

-- First the catalog is written, and then the subscription.
abbrev pub asked : List ℕ → List ℕ → List ℕ → History
asked body owner channel = After (subscription_write owner channel) (After (catalog_write body) (Start empty))

-- What the namespace `default` sees after both.
abbrev pub asked_view : List ℕ → List ℕ → List ℕ → View
asked_view body owner channel = view (asked body owner channel) (codes "default") 2
