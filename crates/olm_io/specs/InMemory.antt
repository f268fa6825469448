-- What a source and a sink in memory are seen as.
use Rattle.std.specs.Prelude.{ℕ, List, Bool, nat_eq}
use Rattle.std.specs.List.{list_any}

-- A source: the bytes that are left, the number of the next call, how often a call has failed, and the numbers of the calls that fail.
pub record MemSourceState : Type 0 where
  pub left : List ℕ
  pub call : ℕ
  pub faults : ℕ
  pub fails : List ℕ

-- A sink: the bytes that were put, and the same.
pub record MemSinkState : Type 0 where
  pub held : List ℕ
  pub call : ℕ
  pub faults : ℕ
  pub fails : List ℕ

-- The call of this number is one of those that fail.
abbrev pub is_listed : List ℕ → ℕ → Bool
is_listed fails call = list_any (λ number. nat_eq number call) fails
