-- Whether a worker may act.
use Rattle.std.proofs.Common.{◌≡◌, Bool, true, false, cond, ℕ, refl, sym, subst}
use Rattle.cluster_history.specs.History.{History}
use Rattle.lease_fence.specs.declared.terms.Term.{Term}
use Rattle.lease_fence.specs.declared.terms.Term.TheVariants as terms
use Rattle.run_rules.specs.Acting.{is_fenced, is_stale, present_term}
use Rattle.run_rules.specs.declared.workers.Worker.{Worker}
use Rattle.controller.specs.Answers.{IsFence, term_judged}
use Rattle.controller.specs.declared.answers.Fence.TheVariants as fence

-- a worker that requested nothing isn't stale
pub free_is_fresh : (held : Term) (found : ℕ) → is_fenced held ≡ false → is_stale held found ≡ false
free_is_fresh terms.Free found free = refl
free_is_fresh (terms.Held term) found free = absurd (let bad : true ≡ false = free in cc)
free_is_fresh terms.Lost found free = absurd (let bad : true ≡ false = free in cc)

by_test : (h : History) (worker : Worker) (stale : Bool) → is_stale worker.term (present_term h worker) ≡ stale
    → IsFence h worker (cond stale (fence.Stale (present_term h worker)) fence.Fresh)
by_test h worker true is = (is, refl)
by_test h worker false is = is

-- what the present term says of the worker
pub judged_now : (h : History) (worker : Worker) (found : ℕ) → found ≡ present_term h worker
    → IsFence h worker (term_judged worker.term found)
judged_now h worker found same =
    subst (λ (n : ℕ). IsFence h worker (term_judged worker.term n)) (sym same)
    (by_test h worker (is_stale worker.term (present_term h worker)) refl)
