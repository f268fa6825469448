-- What a call does to something outside that may fail.
use Rattle.std.specs.Prelude.{◌≡◌, ℕ, ◌+◌, ◌-◌, ◌^◌, ◌≤◌, min, List, ◌++◌, ⊤, Option, None, Some, Bool, true, false}
pub use Rattle.std.specs.Io.KnownBytes.{Appends}

-- One more. A count stands still at the end of its type.
abbrev pub one_more : ℕ → ℕ
one_more count = min (2 ^ 64 - 1) (count + 1)

-- A count of faults rose, or it stands at the end of its type.
abbrev pub Rose : ℕ → ℕ → Type 0
Rose before now = one_more before ≤ now

-- The count of faults doesn't fall, and the call failed only where it rose.
pub record HasCause (before now : ℕ) (Failed : Type 0) : Type 0 where
  pub later : before ≤ now
  pub rose : Failed → Rose before now

-- The bytes that are held, where they are told, grew by a front of the piece.
abbrev pub AppendsFront : Option (List ℕ) → Option (List ℕ) → List ℕ → Type 0
AppendsFront None new piece = ⊤
AppendsFront (Some xs) None piece = ⊥
AppendsFront (Some xs) (Some ys) piece = (front : List ℕ) × (rest : List ℕ) × (piece ≡ front ++ rest) × (ys ≡ xs ++ front)

-- They grew by the whole piece where the call is done, and else by a front of it.
abbrev pub Puts : Bool → Option (List ℕ) → Option (List ℕ) → List ℕ → Type 0
Puts true old new piece = Appends old new piece
Puts false old new piece = AppendsFront old new piece

-- The text is the one that is told. Where none is told it may be any.
abbrev pub IsTold : Option (List ℕ) → List ℕ → Type 0
IsTold None text = ⊤
IsTold (Some xs) text = xs ≡ text
