-- What the view of a namespace shows at a key that it sees.
use Rattle.std.proofs.Common.{◌≡◌, true, List, ℕ, zero, ap, ◌∙◌, ◌-◌, arith}
use Rattle.std.proofs.lemmas.Bool.{or_left}
use Rattle.cluster_objects.specs.Places.{lease_key}
use Rattle.cluster_objects.specs.declared.keys.Key.{Key}
use Rattle.cluster_objects.specs.declared.objects.Writer.{Writer}
use Rattle.cluster_objects.proofs.Stamping.{same_text-refl}
use Rattle.cluster_history.specs.History.{History, earlier, first_writes, position, slot, slot_in}
use Rattle.cluster_history.specs.Views.{view, is_visible}
use Rattle.object_store.proofs.Showing.{visible_shown}

all_writes : (h : History) → first_writes (position h) h ≡ h
all_writes h = ap (λ n. earlier n h) none
  where
    none : position h - position h ≡ zero
    none = omega arith

pub shown_there : (h : History) (namespace : List ℕ) (key : Key) → is_visible namespace key ≡ true → slot_in (view h namespace (position h)).slots key ≡ slot h key
shown_there h namespace key is = visible_shown h namespace (position h) key is ∙ ap (λ g. slot g key) (all_writes h)

-- a namespace sees its own leases
pub seen_there : (namespace : List ℕ) (role : Writer) → is_visible namespace (lease_key namespace role) ≡ true
seen_there namespace role = or_left _ _ (same_text-refl namespace)
