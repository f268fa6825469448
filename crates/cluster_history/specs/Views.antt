-- What a worker of a namespace sees of a history's first writes.
use Rattle.std.specs.Prelude.{Bool, List, ℕ, ◌||◌, codes}
use Rattle.std.specs.List.{filter}
use Rattle.cluster_objects.specs.Keys.{same_text}
use Rattle.cluster_objects.specs.declared.keys.Key.{Key}
use Rattle.cluster_history.specs.History.{History, Slots, state, first_writes}

-- a namespace, the length of the history that was seen, and the slots in key order
pub record View : Type 0 where
  pub namespace : List ℕ
  pub length : ℕ
  pub slots : Slots

-- the namespaces whose catalogs every namespace sees
abbrev pub is_global : List ℕ → Bool
is_global namespace = same_text namespace (codes "olm") || same_text namespace (codes "openshift-marketplace")

-- Seen are the namespace itself, the global ones, and what has no namespace.
abbrev pub is_visible : List ℕ → Key → Bool
is_visible namespace key = same_text key.namespace namespace || (is_global key.namespace || same_text key.namespace (codes ""))

-- the view of a namespace after the first so many writes
abbrev pub view : History → List ℕ → ℕ → View
view h namespace a = record {
  namespace = namespace;
  length = a;
  slots = filter (λ e. is_visible namespace e.0) (state (first_writes a h));
}
