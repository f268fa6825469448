-- Two variables as a set.
use Rattle.std.specs.Prelude.{ℕ, ◌==◌, cond, List, [], ◌∷◌}

-- both, or the one where they are the same
abbrev pub both_once : ℕ → ℕ → List ℕ
both_once v w = cond (v == w) (v ∷ []) (v ∷ w ∷ [])
