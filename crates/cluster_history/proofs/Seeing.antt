-- What was seen stays, whatever is written later.
use Rattle.std.proofs.Common.{◌≡◌, ◌≤◌, ◌+◌, ◌-◌, List, [], ◌∷◌, ℕ, suc, refl, ap, ◌∙◌, arith}
use Rattle.cluster_history.specs.History.{History, After, after_all, position, earlier, first_writes}
use Rattle.cluster_objects.specs.declared.objects.Write.{Write}

-- the newest write is none of the first ones
pub first-after : (w : Write) (h : History) (a : ℕ) → a ≤ position h → first_writes a (After w h) ≡ first_writes a h
first-after w h a le = ap (λ n. earlier n (After w h)) more
  where
    more : position h + 1 - a ≡ suc (position h - a)
    more = omega (arith, le)

pub longer : (h : History) (later : List Write) → position h ≤ position (after_all h later)
longer h [] = omega arith
longer h (w ∷ later) = omega (arith, longer (After w h) later)

pub first-after_all : (h : History) (later : List Write) (a : ℕ) → a ≤ position h → first_writes a (after_all h later) ≡ first_writes a h
first-after_all h [] a le = refl
first-after_all h (w ∷ later) a le = first-after_all (After w h) later a (omega (arith, le)) ∙ first-after w h a le
