-- The stamps that objects carry.
use Rattle.std.specs.Prelude.{Bool, List, [], ◌∷◌, ℕ, Option, Some, None, ◌&&◌, ◌==◌, count_by}
use Rattle.cluster_objects.specs.Keys.{same_text}
use Rattle.cluster_objects.specs.declared.keys.Stamp.{Stamp}
use Rattle.cluster_objects.specs.declared.objects.Object.{Object}

-- one stamp: namespace, plan and step alike
abbrev pub same_stamp : Stamp → Stamp → Bool
same_stamp a b = same_text a.namespace b.namespace && (a.plan == b.plan && a.step == b.step)

-- the stamp of what a write puts, as a list; a removal has none
abbrev pub stamps_of : Option Object → List Stamp
stamps_of None = []
stamps_of (Some object) = elim object.stamp [ None ↦ [] | Some stamp ↦ stamp ∷ [] ]

-- how often a stamp stands in a list
unfoldable pub times : Stamp → List Stamp → ℕ
times stamp stamps = count_by (same_stamp stamp) stamps
