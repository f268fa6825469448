-- What a settle comes to.
use Rattle.std.specs.Prelude.{◌≡◌, ◌≢◌, ◌≤◌, ◌<◌, ◌+◌, true, false, ℕ, List, Option, Some, None}
use Rattle.cluster_objects.specs.declared.objects.Write.{Write}
use Rattle.cluster_history.specs.History.{After, History, slot}
use Rattle.cluster_history.specs.Views.{View}
use Rattle.object_store.specs.Puts.{Agrees}
use Rattle.controller_rules.specs.Enabled.{IsFirst, IsQuiet}
use Rattle.controller_rules.specs.declared.roles.Role.TheVariants.{Resolver, Installer, Phases}
use Rattle.run_rules.specs.declared.outcomes.Outcome.{Outcome}
use Rattle.run_rules.specs.declared.outcomes.Outcome.TheVariants.{Fault, Settled}
use Rattle.run_rules.specs.States.{IsLeft, IsReopened, Outside, present}

-- The write of a turn: the first one of the first role that has one, of resolver, installer and phases.
pub data IsTurn (view : View) (w : Write) : Type 0 where
  ByResolver : IsFirst Resolver view (Some w) → IsTurn view w
  ByInstaller : IsFirst Resolver view None → IsFirst Installer view (Some w) → IsTurn view w
  ByPhases : IsFirst Resolver view None → IsFirst Installer view None → IsFirst Phases view (Some w) → IsTurn view w

-- So many turns, each with its write in the present view: the history before the first of them and after the last.
pub data Turns (outside : Outside) (namespace : List ℕ) : ℕ → History → History → Type 0 where
  NoTurn : (h : History) → Turns outside namespace 0 h h
  Turn : (n : ℕ) (w : Write) (h new : History) → IsTurn (present h namespace) w → Agrees h w
      → outside.has_room h w ≡ true → Turns outside namespace n (After w h) new → Turns outside namespace (1 + n) h new

-- A settle of at most so many turns: the history before and afterwards, and what the line says.
pub data Settles (outside : Outside) (namespace : List ℕ) (turns : ℕ) (h : History) : History → Outcome → Type 0 where
  -- no role has a write
  Rests : (n : ℕ) (new : History) → n ≤ turns → Turns outside namespace n h new → IsQuiet (present new namespace)
      → Settles outside namespace turns h new (Settled n true)
  -- each turn made a write, and some role still has one
  Ends : (new : History) (w : Write) → Turns outside namespace turns h new → IsTurn (present new namespace) w
      → Settles outside namespace turns h new (Settled turns false)
  -- after some turns no view can be taken
  LookFails : (n : ℕ) (mid new : History) → n ≤ turns → Turns outside namespace n h mid → IsReopened outside mid new
      → Settles outside namespace turns h new Fault
  -- the key of a turn's write has another version than the write expects
  Blocked : (n : ℕ) (new : History) (w : Write) → n ≤ turns → Turns outside namespace n h new
      → IsTurn (present new namespace) w → w.expect ≢ (slot new w.key).version
      → Settles outside namespace turns h new (Settled n false)
  -- the answer to a turn's write is lost
  Loses : (n : ℕ) (mid : History) (w : Write) (new : History) → n < turns → Turns outside namespace n h mid
      → IsTurn (present mid namespace) w → IsLeft outside mid w new → Settles outside namespace turns h new Fault

-- An event that gives no number of turns has 100,000.
abbrev pub turns_of : Option ℕ → ℕ
turns_of None = 100000
turns_of (Some turns) = turns
