-- A text, and the place up to which it was read.
use Rattle.std.specs.Prelude.{ℕ, List}

pub record Reading : Type 0 where
  pub text : List ℕ
  pub at : ℕ
