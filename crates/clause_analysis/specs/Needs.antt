-- What of a trail is needed.
use Rattle.std.specs.Prelude.{◌≡◌, ℕ, ◌+◌, ◌<◌, ◌≤◌, Bool, true, not, ◌&&◌, ◌||◌, List, [], ◌∷◌, length, drop, slice_set}
use Rattle.std.specs.List.{filter}
use Rattle.op_constraints.specs.declared.Lit.{Lit}
use Rattle.op_constraints.specs.Meets.{at}
use Rattle.clause_trail.specs.declared.Entry.{Entry}
use Rattle.clause_analysis.specs.Caused.{is_decided}
use Rattle.clause_analysis.specs.declared.needs.Rest.{Rest}
use Rattle.clause_analysis.specs.declared.needs.Rest.TheVariants.{Needed, Alone}

-- the variables of the literals are needed too
abbrev pub with_marked : List Bool → List Lit → List Bool
with_marked needed [] = needed
with_marked needed (l ∷ ls) = with_marked (slice_set needed l.var true) ls

-- the entries whose variables are needed
abbrev pub needed_of : List Bool → List Entry → List Entry
needed_of needed entries = filter (λ e. at needed e.lit.var) entries

-- no decision is newer than the newest entry that is needed
abbrev pub begins : List Bool → List Entry → Bool
begins needed [] = true
begins needed (e ∷ es) = at needed e.lit.var || (not (is_decided e.cause) && begins needed es)

-- the entry at this depth is a decision
pub record IsDecision (entries : List Entry) (depth : ℕ) : Type 0 where
  pub entry : Entry
  pub there : drop depth entries ≡ entry ∷ drop (depth + 1) entries
  pub decided : is_decided entry.cause ≡ true

-- the entry at this depth is a decision, and nothing is needed from the first depth on to it
pub record IsStart (needed : List Bool) (entries : List Entry) (from start : ℕ) : Type 0 where
  pub above : from ≤ start + 1
  pub within : start < length entries
  pub decision : IsDecision entries start
  pub quiet : needed_of needed (drop from entries) ≡ needed_of needed (drop (start + 1) entries)

-- what is said of the rest of a level from this depth on
abbrev pub IsRest : List Bool → List Entry → ℕ → Rest → Type 0
IsRest needed entries from (Needed depth) = Unit {0}
IsRest needed entries from (Alone start) = IsStart needed entries from start

-- nothing is needed from the first depth on to the second, after a decision, where a level ends in which something is needed
pub record IsBack (needed : List Bool) (entries : List Entry) (from back : ℕ) : Type 0 where
  pub last : ℕ
  pub after : back ≡ last + 1
  pub decision : IsDecision entries last
  pub above : from ≤ back
  pub within : back ≤ length entries
  pub quiet : needed_of needed (drop from entries) ≡ needed_of needed (drop back entries)
  pub level : begins needed (drop back entries) ≡ true
