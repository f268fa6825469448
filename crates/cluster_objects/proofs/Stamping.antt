-- Stamps that compare alike are one, and how often one stands in a list.
use Rattle.std.proofs.Common.{◌≡◌, ◌≢◌, ◌+◌, Bool, true, cond, ◌&&◌, List, [], ◌∷◌, ◌++◌, ℕ, eqb, refl, sym, ap}
use Rattle.std.specs.Cmp.Lexicographic.{same_text as told}
use Rattle.std.proofs.lemmas.Cmp.{nat_list_eq_equiv}
use Rattle.std.specs.List.{count_by}
use Rattle.std.proofs.lemmas.Bool.{and_parts, and_from, eqb-true, eq-eqb, false_from_ne_true}
use Rattle.std.proofs.lemmas.List.Sums.{sum_by-append}
use Rattle.cluster_objects.specs.Keys.{same_text}
use Rattle.cluster_objects.specs.Stamps.{same_stamp, times}
use Rattle.cluster_objects.specs.declared.keys.Stamp.{Stamp}

pub same_text-true : (a b : List ℕ) → same_text a b ≡ true → a ≡ b
same_text-true a b h = told a b (sym h)

pub same_text-refl : (a : List ℕ) → same_text a a ≡ true
same_text-refl a = nat_list_eq_equiv.refl a

pub same_stamp-true : (a b : Stamp) → same_stamp a b ≡ true → a ≡ b
same_stamp-true a b h =
    let one = and_parts (same_text a.namespace b.namespace) (eqb a.plan b.plan && eqb a.step b.step) h in
    let two = and_parts (eqb a.plan b.plan) (eqb a.step b.step) one.1 in
    let ns : a.namespace ≡ b.namespace = same_text-true a.namespace b.namespace one.0 in
    let pl : a.plan ≡ b.plan = eqb-true a.plan b.plan two.0 in
    let st : a.step ≡ b.step = eqb-true a.step b.step two.1 in
    λ i. record { namespace = ns i; plan = pl i; step = st i }

pub same_stamp-refl : (a : Stamp) → same_stamp a a ≡ true
same_stamp-refl a = and_from _ _ (same_text-refl a.namespace) (and_from _ _ (eq-eqb a.plan a.plan refl) (eq-eqb a.step a.step refl))

pub times-append : (s : Stamp) (xs ys : List Stamp) → times s (xs ++ ys) ≡ times s xs + times s ys
unfolding times
times-append s xs ys = sum_by-append (λ x. cond (same_stamp s x) 1 0) xs ys

pub times-none : (s : Stamp) → times s [] ≡ 0
unfolding times
times-none s = refl

pub times-same : (s : Stamp) → times s (s ∷ []) ≡ 1
unfolding times
times-same s = ap (λ b. count_by (λ (x : Bool). x) (b ∷ [])) (same_stamp-refl s)

pub times-other : (s t : Stamp) → s ≢ t → times s (t ∷ []) ≡ 0
unfolding times
times-other s t apart = ap (λ b. count_by (λ (x : Bool). x) (b ∷ [])) (false_from_ne_true (same_stamp s t) (λ e. apart (same_stamp-true s t e)))
