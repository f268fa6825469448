use Rattle.std.proofs.Common.{◌≡◌, ◌++◌, drop, filter, not}
use Rattle.user_events.specs.Wishes.{is_claim_of}
use Rattle.user_events.proofs.releasing.without_claims_of.Given as goal

abbrev pub invariant-loop-claim : goal.invariant-loop-claim
invariant-loop-claim l =
    l.others.items ++ filter (λ claim. not (is_claim_of l.namespace claim)) (drop l.claim-index l.claims) ≡ filter (λ claim. not (is_claim_of l.namespace claim)) l.claims
