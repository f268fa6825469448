-- What a crash at some moment may leave of the file while it is opened, and while a record is added to it.
use Rattle.std.specs.Prelude.{◌≡◌, ◌⊎◌, ◌∷◌, ◌++◌, [], ℕ, List, Result, Ok, Err}
use Rattle.cluster_objects.specs.declared.objects.Write.{Write}
use Rattle.cluster_file.specs.Files.{stands}
use Rattle.cluster_file.specs.Writing.{HoldsWrites}
use Rattle.olm_disk.specs.Disk.{Pending, MayLeave}
use Rattle.olm_io.specs.declared.traits.Outage.{Outage}
use Rattle.olm_io.specs.declared.traits.Outage.TheVariants as outage

-- The file holds these writes, or these and the new one.
abbrev pub HoldsEither : List Write → Write → List ℕ → Type 0
HoldsEither ws w image = HoldsWrites image ws ⊎ HoldsWrites image (ws ++ w ∷ [])

-- While a record is added, by the answer: the old writes, or these and the new one; if memory ran out, the old writes.
abbrev pub AddingLeaves : List Write → Write → Result Unit Outage → List ℕ → Type 0
AddingLeaves ws w (Ok done) image = HoldsEither ws w image
AddingLeaves ws w (Err outage.Failed) image = HoldsEither ws w image
AddingLeaves ws w (Err outage.Memory) image = HoldsWrites image ws

-- While a file with this content is opened: what a crash might have left before, or what represents the same as the content.
abbrev pub OpeningLeaves : List ℕ → Pending → List ℕ → Type 0
OpeningLeaves content pending image = MayLeave content pending image ⊎ (stands image ≡ stands content)
