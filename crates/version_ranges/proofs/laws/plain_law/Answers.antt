use Rattle.std.proofs.Common.{◌≡◌, ◌∷◌, [], Bool, true, false, refl}
use Rattle.std.specs.Prelude.{◌&&◌, ◌||◌}
use Rattle.version_ranges.proofs.Plain.{plain_reading, plain_term}
use Rattle.version_ranges.proofs.laws.plain_law.Goals as goal

-- one test, as a list of one list of one test
alone : (b : Bool) → ((b && true) || false) ≡ b
alone true = refl
alone false = refl

pub returns : goal.returns
returns c = λ run word operator bound h k.
    ((plain_term operator bound ∷ []) ∷ [], plain_reading run word operator bound h k, λ version. alone _)
