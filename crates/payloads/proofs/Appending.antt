-- What is appended part by part.
use Rattle.std.proofs.Common.{◌++◌, List, ℕ, Result, Ok, Err, ap, ◌∙◌, append_assoc}
use Rattle.std.specs.Prelude.{OnOk}
use Rattle.std.proofs.lemmas.Bool.{and_from}
use Rattle.payloads.specs.Form.{Form, ◌⊗◌, seen_as}
use Rattle.payloads.specs.Reading.{Appends}

-- one part, and then others
pub behind : {A B : Type 0} {f : Form A} {g : Form B} {x : A} {y : B} {old middle new : List ℕ} → Appends f x old middle → Appends g y middle new → Appends (f ⊗ g) (x, y) old new
behind {f = f} {g = g} {x = x} {y = y} {old = old} first second = record {
  fits = and_from (f.fits x) (g.fits y) first.fits second.fits;
  bytes = second.bytes ∙ ap (λ (l : List ℕ). l ++ g.spell y) first.bytes ∙ append_assoc old (f.spell x) (g.spell y);
}

-- The last part was written, and the parts so far go on to it.
pub parts_written : {A B C T E : Type 0} (last : Form C) (z : C) (form : Form A) (to : A → B) (from : B → A) (y : B) (old before new : List ℕ) (r : Result T E)
    → OnOk r (Appends last z before new) → (Appends last z before new → Appends form (from y) old new) → OnOk r (Appends (seen_as form to from) y old new)
parts_written last z form to from y old before new (Ok u) h parts = let all = parts h in record { fits = all.fits; bytes = all.bytes }
parts_written last z form to from y old before new (Err e) h parts = h
