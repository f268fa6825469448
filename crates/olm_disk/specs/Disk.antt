-- What the calls of a disk do to its file, and what a crash may leave between two syncs that succeed.
use Rattle.std.specs.Prelude.{◌≡◌, ◌≤◌, ◌<◌, ◌⊎◌, ◌+◌, ◌∷◌, ◌++◌, [], ℕ, List, Bool, false, min, max, length, take, drop, nat_le, nat_lt, ◌&&◌, slice_index}
use Rattle.std.specs.List.{list_any}

-- What was asked of the disk since the last sync that succeeded: the least and the greatest length that the file had or that a failed call may have given it, and the written ranges, each from a place up to one, those of failed calls too.
pub record Pending : Type 0 where
  pub least : ℕ
  pub greatest : ℕ
  pub ranges : List (ℕ × ℕ)

abbrev pub nothing_pending : List ℕ → Pending
nothing_pending content = record { least = length content; greatest = length content; ranges = [] }

-- after a write of so many bytes, whether it succeeded or failed
abbrev pub pending_write : ℕ → ℕ → Pending → Pending
pending_write at count p = record { least = p.least; greatest = max p.greatest (at + count); ranges = (at, at + count) ∷ p.ranges }

-- after a cut to this length, whether it succeeded or failed
abbrev pub pending_cut : ℕ → Pending → Pending
pending_cut len p = record p { least = min p.least len }

-- the place is in one of the ranges
abbrev pub is_in : List (ℕ × ℕ) → ℕ → Bool
is_in ranges place = list_any (λ range. nat_le range.0 place && nat_lt place range.1) ranges

-- A crash may leave this image where a read gives this content: any length from the least to the greatest, any bytes in the ranges and past the least length, and the same bytes elsewhere.
pub record MayLeave (content : List ℕ) (p : Pending) (image : List ℕ) : Type 0 where
  pub shortest : p.least ≤ length image
  pub longest : length image ≤ p.greatest
  pub stays : (place : ℕ) → place < p.least → is_in p.ranges place ≡ false → slice_index image place ≡ slice_index content place

-- The piece stands from this place on. The rest is as before.
abbrev pub written : ℕ → List ℕ → List ℕ → List ℕ
written at piece content = take at content ++ piece ++ drop (at + length piece) content

-- A write that failed, or that a crash cut short: any bytes in the range and past the old end, the same elsewhere.
pub record Torn (at count : ℕ) (old new : List ℕ) : Type 0 where
  pub shortest : length old ≤ length new
  pub longest : length new ≤ max (length old) (at + count)
  pub stays : (place : ℕ) → place < length old → (place < at) ⊎ (at + count ≤ place) → slice_index new place ≡ slice_index old place

-- A cut that failed: the bytes before its place stay, and the length is from that place to the old one.
pub record PartlyCut (len : ℕ) (old new : List ℕ) : Type 0 where
  pub shortest : len ≤ length new
  pub longest : length new ≤ length old
  pub front : take len new ≡ take len old

-- The clock goes on during a call. A crash since a time before the call might have left what it might have left then, or what it may leave now; and where the clock moved, the earlier moments are still counted.
pub record Elapses (before now : ℕ) (past since : ℕ → List ℕ → Type 0) (left : List ℕ → Type 0) : Type 0 where
  pub later : before ≤ now
  pub nothing_else : (t : ℕ) (image : List ℕ) → t ≤ before → since t image → past t image ⊎ left image
  pub still : before < now → (t : ℕ) (image : List ℕ) → past t image → since t image

-- A crash at any moment from old to new leaves a file that has P.
pub record LeavesOnly {D : Type 0} (moment : D → ℕ) (left_since : D → ℕ → List ℕ → Type 0) (old new : D) (P : List ℕ → Type 0) : Type 0 where
  pub later : moment old ≤ moment new
  pub each : (image : List ℕ) → left_since new (moment old) image → P image
  pub before : (t : ℕ) (image : List ℕ) → t ≤ moment old → left_since new t image → left_since old t image ⊎ P image
