-- What is granted, case by case, and how the lease that is written follows the one that was there.
use Rattle.std.proofs.Common.{◌≡◌, ◌≤◌, ◌<◌, ◌+◌, ◌-◌, ◌^◌, ◌&&◌, ◌==◌, Bool, true, false, cond, ℕ, Option, Some, None, refl, sym, ap, subst, ◌∙◌, inl, inr, nat_le, arith}
use Rattle.std.specs.Prelude.{nat_lt}
use Rattle.std.proofs.lemmas.Bool.{and_parts, eqb-true, leb-true, leb-false}
use Rattle.cluster_objects.specs.declared.groups.LeaseStatus.{LeaseStatus}
use Rattle.lease_fence.specs.Grants.{granted, holds, lease_written, newly, next_term, renewed}
use Rattle.lease_fence.specs.Leases.{term_in}
use Rattle.lease_fence.specs.Order.{IsNextLease, IsRenewalOf, LeaseLater}
use Rattle.lease_fence.specs.declared.terms.Grant.{Grant}
use Rattle.lease_fence.specs.declared.terms.Grant.TheVariants as grant
use Rattle.lease_fence.specs.declared.terms.Term.{Term}
use Rattle.lease_fence.specs.declared.terms.Term.TheVariants as terms

held_is : (held : Term) (term : ℕ) → holds held term ≡ true → held ≡ terms.Held term
held_is terms.Free term e = absurd cc
held_is (terms.Held x) term e = ap terms.Held (eqb-true x term e)
held_is terms.Lost term e = absurd cc

-- what holds in each case holds of what is granted where a lease is there
pub by_cases : (old : LeaseStatus) (holder : ℕ) (held : Term) (moment keep : ℕ) (P : Grant → Type 0)
    → (old.until ≤ moment → P (grant.NewTerm (newly (Some old) holder moment keep)))
    → (moment < old.until → old.holder ≡ holder → held ≡ terms.Held old.term → P (grant.Renewal (renewed old moment keep)))
    → (moment < old.until → P (grant.Held old.until)) → P (granted (Some old) holder held moment keep)
by_cases old holder held moment keep P over own other = by_time (nat_le old.until moment) refl
  where
    by_own : moment < old.until → (b : Bool) → (holds held old.term && old.holder == holder) ≡ b → P (cond b (grant.Renewal (renewed old moment keep)) (grant.Held old.until))
    by_own before true is =
        let both = and_parts (holds held old.term) (old.holder == holder) is in
        own before (eqb-true old.holder holder both.1) (held_is held old.term both.0)
    by_own before false is = other before

    by_time : (b : Bool) → nat_le old.until moment ≡ b → P (cond b (grant.NewTerm (newly (Some old) holder moment keep)) (cond (holds held old.term && old.holder == holder) (grant.Renewal (renewed old moment keep)) (grant.Held old.until)))
    by_time true is = over (leb-true old.until moment is)
    by_time false is = by_own (leb-false old.until moment is) (holds held old.term && old.holder == holder) refl

some_is : (x y : LeaseStatus) → ◌≡◌ {A = Option LeaseStatus} (Some x) (Some y) → x ≡ y
some_is x y e = cc

pub renewal_is : (old : LeaseStatus) (moment keep : ℕ) → IsRenewalOf old (renewed old moment keep)
renewal_is old moment keep = record { term = refl; holder = refl; until = omega arith }

-- the lease that is written is the next one
pub next_is : (there : Option LeaseStatus) (holder : ℕ) (held : Term) (moment keep : ℕ) (lease : LeaseStatus) → lease_written (granted there holder held moment keep) ≡ Some lease → IsNextLease there lease
next_is None holder held moment keep lease e = ap (λ (x : LeaseStatus). x.term) (sym (some_is (newly None holder moment keep) lease e))
next_is (Some old) holder held moment keep lease e =
    by_cases old holder held moment keep (λ g. lease_written g ≡ Some lease → IsNextLease (Some old) lease)
    (λ over is. inl (ap (λ (x : LeaseStatus). x.term) (sym (some_is (newly (Some old) holder moment keep) lease is))))
    (λ before own holding is. inr (subst (IsRenewalOf old) (some_is (renewed old moment keep) lease is) (renewal_is old moment keep)))
    (λ before is. absurd cc)
    e

-- before its time is over, a lease is written only for its holder, who keeps its term
pub kept_is : (old : LeaseStatus) (holder : ℕ) (held : Term) (moment keep : ℕ) (lease : LeaseStatus) → moment < old.until → lease_written (granted (Some old) holder held moment keep) ≡ Some lease
    → (holder ≡ old.holder) × (held ≡ terms.Held old.term) × IsRenewalOf old lease
kept_is old holder held moment keep lease early e =
    by_cases old holder held moment keep (λ g. lease_written g ≡ Some lease → (holder ≡ old.holder) × (held ≡ terms.Held old.term) × IsRenewalOf old lease)
    (λ over is. absurd (omega (arith, over, early)))
    (λ before own holding is. (sym own, holding, subst (IsRenewalOf old) (some_is (renewed old moment keep) lease is) (renewal_is old moment keep)))
    (λ before is. absurd cc)
    e

renewal_same : (x y : LeaseStatus) → grant.Renewal x ≡ grant.Renewal y → x ≡ y
renewal_same x y e = cc

-- a renewal is for the holder that holds the term
pub renewed_is : (old : LeaseStatus) (holder : ℕ) (held : Term) (moment keep : ℕ) (lease : LeaseStatus) → granted (Some old) holder held moment keep ≡ grant.Renewal lease
    → (lease.holder ≡ holder) × (held ≡ terms.Held lease.term) × IsRenewalOf old lease
renewed_is old holder held moment keep lease e =
    by_cases old holder held moment keep (λ g. g ≡ grant.Renewal lease → (lease.holder ≡ holder) × (held ≡ terms.Held lease.term) × IsRenewalOf old lease)
    (λ over is. absurd cc)
    (λ before own holding is.
    let same = renewal_same (renewed old moment keep) lease is in
    (ap (λ (x : LeaseStatus). x.holder) (sym same) ∙ own, holding ∙ ap (λ (x : LeaseStatus). terms.Held x.term) same, subst (IsRenewalOf old) same (renewal_is old moment keep)))
    (λ before is. absurd cc)
    e

-- there is a new term only where the time is over
pub over_is : (old : LeaseStatus) (holder : ℕ) (held : Term) (moment keep : ℕ) (lease : LeaseStatus) → granted (Some old) holder held moment keep ≡ grant.NewTerm lease → old.until ≤ moment
over_is old holder held moment keep lease e =
    by_cases old holder held moment keep (λ g. g ≡ grant.NewTerm lease → old.until ≤ moment)
    (λ over is. over)
    (λ before own holding is. absurd cc)
    (λ before is. absurd cc)
    e

-- ---- terms

no_less : (old : LeaseStatus) → old.term ≤ next_term (Some old)
no_less old = by_test (nat_lt old.term (2 ^ 64 - 1))
  where
    by_test : (b : Bool) → old.term ≤ cond b (old.term + 1) old.term
    by_test true = omega arith
    by_test false = omega arith

next_term_later : (old : Option LeaseStatus) (lease : LeaseStatus) → IsNextLease old lease → term_in old ≤ lease.term
next_term_later None lease next = omega arith
next_term_later (Some old) lease (inl next) = omega (arith, next, no_less old)
next_term_later (Some old) lease (inr renewal) = omega (arith, renewal.term)

pub term_later : (old new : Option LeaseStatus) → LeaseLater old new → term_in old ≤ term_in new
term_later old new (inl same) = subst (λ (x : Option LeaseStatus). term_in old ≤ term_in x) (sym same) (omega arith)
term_later old new (inr (lease, is, next)) = subst (λ (x : Option LeaseStatus). term_in old ≤ term_in x) (sym is) (next_term_later old lease next)
