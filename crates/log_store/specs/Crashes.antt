-- What a crash at some moment may leave of a store's file: which history it represents.
use Rattle.std.specs.Prelude.{◌≡◌, ◌⊎◌, ℕ, List, None, Result, Ok, Err}
use Rattle.cluster_objects.specs.declared.objects.Write.{Write}
use Rattle.cluster_history.specs.History.{History, After}
use Rattle.cluster_file.specs.Files.{damage_in, history_in}
use Rattle.cluster_file.specs.Writing.{HoldsWrites}
use Rattle.log_file.specs.Crashes.{HoldsEither}
use Rattle.object_store.specs.declared.cluster.PutAnswer.{PutAnswer}
use Rattle.object_store.specs.declared.cluster.PutAnswer.TheVariants as put
use Rattle.olm_io.specs.declared.traits.Outage.{Outage}
use Rattle.olm_io.specs.declared.traits.Outage.TheVariants as outage

-- the bytes represent this history, and aren't damaged
abbrev pub IsFileOf : History → List ℕ → Type 0
IsFileOf h image = (damage_in image ≡ None) × (history_in image ≡ h)

-- the history, or the history with the write
abbrev pub IsFileOfEither : History → Write → List ℕ → Type 0
IsFileOfEither h w image = IsFileOf h image ⊎ IsFileOf (After w h) image

-- What a crash during a put leaves, by the put's answer: the history before, or that history with the write.
abbrev pub PutLeaves : History → Write → PutAnswer → List ℕ → Type 0
PutLeaves h w (put.Done version) image = IsFileOfEither h w image
PutLeaves h w (put.Conflict found) image = IsFileOf h image
PutLeaves h w put.Full image = IsFileOf h image
PutLeaves h w put.Failed image = IsFileOfEither h w image
PutLeaves h w put.Memory image = IsFileOf h image

-- the same of the writes in the file, by the answer of what adds one
abbrev pub KeepLeaves : List Write → Write → Result ℕ Outage → List ℕ → Type 0
KeepLeaves ws w (Ok version) image = HoldsEither ws w image
KeepLeaves ws w (Err outage.Failed) image = HoldsEither ws w image
KeepLeaves ws w (Err outage.Memory) image = HoldsWrites image ws
