-- What a run of events leaves of a history.
use Rattle.std.specs.Prelude.{◌≡◌, Bool, true, ℕ, List, [], ◌∷◌}
use Rattle.cluster_objects.specs.declared.objects.Write.{Write}
use Rattle.cluster_history.specs.History.{History, After, after_all}
use Rattle.folder_events.specs.Laws.{IsValid}
use Rattle.lawful_events.specs.Asks.{IsUsersWrite}

-- Each of the writes is a user's, after the history and the writes before it.
abbrev pub AreUsersWrites : History → List Write → Type 0
AreUsersWrites h [] = Unit {0}
AreUsersWrites h (w ∷ writes) = IsUsersWrite h w × AreUsersWrites (After w h) writes

-- The history goes on from the old one by users' writes, one after the other.
pub record GoesOnByUsers (old new : History) : Type 0 where
  pub writes : List Write
  pub users : AreUsersWrites old writes
  pub extends : new ≡ after_all old writes

-- The test passes each valid catalog.
abbrev pub Accepts : (List ℕ → Bool) → Type 0
Accepts is_valid = (text : List ℕ) → IsValid text → is_valid text ≡ true
