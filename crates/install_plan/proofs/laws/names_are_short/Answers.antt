use Rattle.std.proofs.Common.{◌≡◌, ◌≤◌, ℕ, List, length, take, arith}
use Rattle.std.proofs.lemmas.Grind.{common_steps}
use Rattle.install_plan.specs.Subscribing.{name_limit, new_name}
use Rattle.install_plan.proofs.laws.names_are_short.Goals as goal

short_take : (n : ℕ) (text : List ℕ) → length (take n text) ≤ n
short_take n text = grind (arith, common_steps)

pub returns : goal.returns
returns c = record { short = λ taken. short_take name_limit _ }
