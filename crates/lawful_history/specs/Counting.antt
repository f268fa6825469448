-- How many writes the installer makes for a plan, and how far the plan got by them.
use Rattle.std.specs.Prelude.{Bool, true, false, ℕ, ◌+◌, ◌&&◌, ◌||◌, if◌then◌else◌}
use Rattle.std.specs.List.{list_any}
use Rattle.cluster_objects.specs.Keys.{same_key}
use Rattle.cluster_objects.specs.Stamps.{stamps_of}
use Rattle.cluster_history.specs.History.{History, Start, After}
use Rattle.lawful_history.specs.Installing.{key_of}
use Rattle.cluster_objects.specs.declared.keys.Key.{Key}
use Rattle.cluster_objects.specs.declared.objects.Write.{Write}
use Rattle.cluster_objects.specs.declared.objects.Writer.{Writer}
use Rattle.cluster_objects.specs.declared.objects.Writer.TheVariants as writer

abbrev pub is_installer : Writer → Bool
is_installer by = elim by [ writer.Installer ↦ true | _ ↦ false ]

-- a write by Installer for the plan at this key: of the plan itself, or with a stamp that names it
abbrev pub is_for : Key → Write → Bool
is_for key w = is_installer w.by && (same_key w.key key || list_any (λ stamp. same_key (key_of stamp) key) (stamps_of w.object))

-- how many such writes there are after the base
unfoldable pub writes_for : Key → History → ℕ
writes_for key (Start base) = 0
writes_for key (After w h) = (if is_for key w then 1 else 0) + writes_for key h
