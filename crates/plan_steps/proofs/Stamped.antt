-- A stamp is found where it stands at all.
use Rattle.std.proofs.Common.{◌≡◌, ◌+◌, ◌||◌, Bool, true, false, cond, eqb, not, List, [], ◌∷◌, ℕ, refl, sym, ap, ◌∙◌, zero-add, arith}
use Rattle.std.specs.List.{list_any}
use Rattle.std.proofs.lemmas.Bool.{eqb-true, false_from_ne_true}
use Rattle.std.proofs.lemmas.List.Sums.{sum_by-cons}
use Rattle.cluster_objects.specs.Stamps.{same_stamp, times}
use Rattle.cluster_objects.specs.declared.keys.Stamp.{Stamp}

one_more : (n : ℕ) → eqb (1 + n) 0 ≡ false
one_more n = false_from_ne_true (eqb (1 + n) 0) (λ h. omega (arith, eqb-true (1 + n) 0 h))

counted : (b rest : Bool) (n : ℕ) → rest ≡ not (eqb n 0) → (b || rest) ≡ not (eqb (cond b 1 0 + n) 0)
counted true rest n h = sym (ap not (one_more n))
counted false rest n h = h ∙ ap (λ m. not (eqb m 0)) (sym (zero-add n))

pub any_times : (stamp : Stamp) (stamps : List Stamp) → list_any (same_stamp stamp) stamps ≡ not (eqb (times stamp stamps) 0)
unfolding times
any_times stamp [] = refl
any_times stamp (x ∷ xs) =
    counted (same_stamp stamp x) (list_any (same_stamp stamp) xs) (times stamp xs) (any_times stamp xs)
    ∙ ap (λ n. not (eqb n 0)) (sym (sum_by-cons (λ y. cond (same_stamp stamp y) 1 0) x xs))
