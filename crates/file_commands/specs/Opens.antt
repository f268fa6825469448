-- What a cluster's file stands for, as whoever opens it finds it.
use Rattle.std.specs.Prelude.{◌≡◌, Bool, true, ℕ, List, Result, Ok, Err, IfOk}
use Rattle.cluster_history.specs.History.{History, IsHistory}
use Rattle.cluster_file.specs.Files.{Standing, Stands, Damaged, stands}

-- a history, or the place from which on the bytes stand for none
abbrev pub found_in : Standing → Result History ℕ
found_in (Stands h place) = Ok h
found_in (Damaged at) = Err at

-- Where the disk tells what it holds, what is found is what the bytes stand for. Else it may be any history, and damage at any place.
pub record Opens (tells : Bool) (content : List ℕ) (found : Result History ℕ) : Type 0 where
  pub told : tells ≡ true → found ≡ found_in (stands content)
  pub history : IfOk found IsHistory
