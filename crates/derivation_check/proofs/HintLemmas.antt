-- The clause of an earlier lemma.
use Rattle.std.proofs.Common.{◌≡◌, ℕ, zero, suc, ◌≤◌, ◌<◌, List, [], ◌∷◌, length, take, refl, sym, ap, arith, Option, Some, None, Bool, Ok, Err, get_or, slice_get}
use Rattle.std.specs.Option.{ok_or}
use Rattle.op_constraints.specs.declared.Lit.{Lit}
use Rattle.op_constraints.specs.declared.Constraint.{Constraint}
use Rattle.derivations.specs.declared.Lemma.{Lemma}
use Rattle.derivations.specs.declared.Hint.TheVariants.{Lemma as LemmaHint}
use Rattle.derivations.specs.declared.LogCause.TheVariants.{NoSuchHint}
use Rattle.derivations.specs.Follows.{clause_of, clauses}
use Rattle.derivation_check.specs.declared.scan.Left.TheVariants.{Nothing}
use Rattle.derivation_check.specs.Scan.{scanned, left_of}

get_clause : (lemmas : List Lemma) (number at : ℕ) (x : Lemma) → at < number → at < length lemmas → slice_get (take number (clauses lemmas)) at ≡ Some (get_or lemmas at x).lits
get_clause [] number at x h l = absurd (omega arith)
get_clause (k ∷ ks) zero at x h l = absurd (omega arith)
get_clause (k ∷ ks) (suc n) zero x h l = refl
get_clause (k ∷ ks) (suc n) (suc at) x h l = get_clause ks n at x (omega arith) (omega arith)

no_clause : (cs : List (List Lit)) (number at : ℕ) → number ≤ at → slice_get (take number cs) at ≡ None
no_clause cs zero at h = refl
no_clause [] (suc n) at h = refl
no_clause (c ∷ cs) (suc n) zero h = absurd (omega arith)
no_clause (c ∷ cs) (suc n) (suc at) h = no_clause cs n at (omega arith)

pub earlier_left : (problem : List (List Constraint)) (lemmas : List Lemma) (number at : ℕ) (x : Lemma) (known : List (Option Bool)) → at < number → number ≤ length lemmas → Ok (scanned known Nothing (get_or lemmas at x).lits) ≡ left_of known (clause_of problem (take number (clauses lemmas)) (LemmaHint at))
earlier_left problem lemmas number at x known h l = ap (λ o. left_of known (ok_or o NoSuchHint)) (sym (get_clause lemmas number at x h (omega arith)))

pub later_left : (problem : List (List Constraint)) (lemmas : List Lemma) (number at : ℕ) (known : List (Option Bool)) → number ≤ at → Err NoSuchHint ≡ left_of known (clause_of problem (take number (clauses lemmas)) (LemmaHint at))
later_left problem lemmas number at known h = ap (λ o. left_of known (ok_or o NoSuchHint)) (sym (no_clause (clauses lemmas) number at h))
