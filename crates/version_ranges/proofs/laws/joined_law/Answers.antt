use Rattle.std.proofs.Common.{◌≡◌, ◌++◌, ◌∷◌, [], Ok, suc, length, ap, ◌∙◌, arith, append_assoc}
use Rattle.std.proofs.lemmas.List.Folds.{list_any-append}
use Rattle.std.specs.List.{list_all}
use Rattle.version_ranges.specs.Conditions.{meets}
use Rattle.version_ranges.specs.Reading.{reading}
use Rattle.version_ranges.proofs.Joined.{alternatives_joined, alternatives_moved}
use Rattle.version_ranges.proofs.laws.joined_law.Goals as goal

pub returns : goal.returns
returns c = λ left right x y h k.
    let whole : reading (left ++ 124 ∷ 124 ∷ right) ≡ Ok (x ++ y) =
    alternatives_joined (suc (length left)) 0 0 left right x y (omega arith) (λ q. alternatives_moved (suc (length right)) 0 q right y (omega arith) k) h in
    (ap reading (append_assoc left (124 ∷ 124 ∷ []) right) ∙ whole, λ version. list_any-append (list_all (λ term. meets term version)) x y)
