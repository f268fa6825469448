-- An act that puts a write isn't stale.
use Rattle.std.proofs.Common.{◌≡◌, ◌==◌, Bool, true, false, not, ℕ, refl, sym, ap, ◌∙◌}
use Rattle.std.proofs.lemmas.Bool.{eqb-true}
use Rattle.cluster_objects.specs.declared.keys.Key.{Key}
use Rattle.cluster_history.specs.History.{History}
use Rattle.lease_fence.specs.declared.terms.Term.TheVariants as terms
use Rattle.run_rules.specs.Acting.{Acts, Conflicts, HasNoView, HasNone, IsStale, Loses, Makes, TermFails, is_stale, present_term}
use Rattle.run_rules.specs.declared.outcomes.Outcome.{Outcome}
use Rattle.run_rules.specs.declared.outcomes.Outcome.TheVariants.{Arrived, Conflict, Done, Fault, HeldUntil, Idle, Leased, Looked, NoView, NoWorker, Put, Refused, Restarted, Settled, Stale}
use Rattle.run_rules.specs.States.{Outside}
use Rattle.run_rules.specs.declared.workers.Worker.{Worker}

abbrev is_put : Outcome → Bool
is_put (Done key version) = false
is_put (Refused reason) = false
is_put (Arrived number) = false
is_put (Looked length) = false
is_put (Put key version) = true
is_put Idle = false
is_put NoView = false
is_put (Conflict found) = false
is_put (Stale term) = false
is_put (Settled writes quiet) = false
is_put (Leased term until) = false
is_put (HeldUntil until) = false
is_put Restarted = false
is_put NoWorker = false
is_put Fault = false

none : {T : Type 0} → false ≡ true → T
none h = absurd (let bad : false ≡ true = h in cc)

-- what put a write wasn't stale
fresh : (outside : Outside) (h new : History) (worker : Worker) (outcome : Outcome) → Acts outside h worker new outcome
    → is_put outcome ≡ true → is_stale worker.term (present_term h worker) ≡ false
fresh outside h new worker outcome (HasNoView e) put = none put
fresh outside h new worker outcome (IsStale view holds stale) put = none put
fresh outside h new worker outcome (HasNone view may first) put = none put
fresh outside h new worker outcome (Conflicts view w may first other) put = none put
fresh outside h new worker outcome (Makes view w may first same room) put = may.fresh
fresh outside h new worker outcome (Loses view w left may first is) put = none put
fresh outside h new worker outcome (TermFails view left holds fenced again) put = none put

denied : (b : Bool) → not b ≡ false → b ≡ true
denied true h = refl
denied false h = absurd (let bad : true ≡ false = h in cc)

pub held_term : (outside : Outside) (h new : History) (worker : Worker) (held : ℕ) (key : Key) (version : ℕ)
    → worker.term ≡ terms.Held held → Acts outside h worker new (Put key version) → present_term h worker ≡ held
held_term outside h new worker held key version holds acts =
    let there = present_term h worker in
    let not_stale = ap (λ t. is_stale t there) (sym holds) ∙ fresh outside h new worker (Put key version) acts refl in
    sym (eqb-true held there (denied (held == there) not_stale))
