-- The moments of a history.
use Rattle.std.specs.Prelude.{◌≤◌, ℕ}
use Rattle.cluster_history.specs.History.{History, base_of, position}

-- The history had this length: it is at least the base's, and at most that of now.
pub record HadLength (h : History) (length : ℕ) : Type 0 where
  pub since : (base_of h).length ≤ length
  pub until : length ≤ position h
