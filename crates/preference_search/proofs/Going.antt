-- What comes of a turn of the search, said of its fields.
use Rattle.std.proofs.Common.{◌≡◌, ℕ, ◌+◌, ◌≤◌, ◌<◌, Bool, List, [], ◌∷◌, ◌++◌, length, get_or, sym, ap, ◌∙◌, subst, arith, Some, Result, Ok, Err, IfOk, append_assoc}
use Rattle.std.specs.List.{AllByRecursion}
use Rattle.op_constraints.specs.declared.Constraint.{Constraint}
use Rattle.op_constraints.specs.Walks.{waiting, member, IsBefore}
use Rattle.op_constraints.specs.WalkInvariant.{Stands}
use Rattle.op_constraints.proofs.Steps.{walk-length}
use Rattle.op_constraints.proofs.Taking.{picked-within}
use Rattle.op_constraints.proofs.Standing.{few_distinct}
use Rattle.op_constraints.specs.Kept.{IsKept}
use Rattle.op_constraints.specs.declared.TheConstants.{VAR_LIMIT}
use Rattle.derivations.specs.declared.Lemma.{Lemma}
use Rattle.derivations.specs.declared.Refutation.{Refutation}
use Rattle.preference_search.specs.declared.search.Search.{Search}
use Rattle.preference_search.specs.declared.search.Turn.{Turn}
use Rattle.preference_search.specs.declared.search.Turn.TheVariants.{Onward, Found, Refused, Spent}
use Rattle.preference_search.specs.declared.search.Pass.{Pass}
use Rattle.preference_search.specs.declared.search.Pass.TheVariants.{Denied, Turned}
use Rattle.preference_search.specs.Lists.{IsNext}
use Rattle.preference_search.specs.Searching.{IsAt, IsTrying}
use Rattle.preference_search.specs.State.{Comes, Advanced, PassedOver, IsPast}
use Rattle.op_constraints.proofs.Extending.{before-number}
use Rattle.preference_search.proofs.Turning.{IsBackAt, get-member, offered-at}

pub at-same : (problem : List (List Constraint)) (budget : ℕ) (log log' : List Lemma) (numbers numbers' chosen chosen' : List ℕ) (bits bits' : List Bool) (steps steps' : List (ℕ × ℕ × Refutation)) (after count : ℕ)
    → log' ≡ log → numbers' ≡ numbers → chosen' ≡ chosen → bits' ≡ bits → steps' ≡ steps
    → IsAt problem budget log numbers chosen bits steps after count
    → IsAt problem budget log' numbers' chosen' bits' steps' after count
at-same problem budget log log' numbers numbers' chosen chosen' bits bits' steps steps' after count l n c b s a =
    let L : List Lemma → Type 0 = λ x. IsAt problem budget x numbers' chosen' bits' steps' after count in
    let N : List ℕ → Type 0 = λ x. IsAt problem budget log x chosen' bits' steps' after count in
    let C : List ℕ → Type 0 = λ x. IsAt problem budget log numbers x bits' steps' after count in
    let B : List Bool → Type 0 = λ x. IsAt problem budget log numbers chosen x steps' after count in
    let S : List (ℕ × ℕ × Refutation) → Type 0 = λ x. IsAt problem budget log numbers chosen bits x after count in
    subst L (sym l) (subst N (sym n) (subst C (sym c) (subst B (sym b) (subst S (sym s) a))))

pub trying-same : (problem : List (List Constraint)) (budget : ℕ) (log log' : List Lemma) (numbers numbers' chosen chosen' : List ℕ) (bits bits' : List Bool) (steps steps' : List (ℕ × ℕ × Refutation)) (k : ℕ)
    → log' ≡ log → numbers' ≡ numbers → chosen' ≡ chosen → bits' ≡ bits → steps' ≡ steps
    → IsTrying problem budget log numbers chosen bits steps k
    → IsTrying problem budget log' numbers' chosen' bits' steps' k
trying-same problem budget log log' numbers numbers' chosen chosen' bits bits' steps steps' k l n c b s a =
    let L : List Lemma → Type 0 = λ x. IsTrying problem budget x numbers' chosen' bits' steps' k in
    let N : List ℕ → Type 0 = λ x. IsTrying problem budget log x chosen' bits' steps' k in
    let C : List ℕ → Type 0 = λ x. IsTrying problem budget log numbers x bits' steps' k in
    let B : List Bool → Type 0 = λ x. IsTrying problem budget log numbers chosen x steps' k in
    let S : List (ℕ × ℕ × Refutation) → Type 0 = λ x. IsTrying problem budget log numbers chosen bits x k in
    subst L (sym l) (subst N (sym n) (subst C (sym c) (subst B (sym b) (subst S (sym s) a))))

pub back-same : (problem : List (List Constraint)) (budget : ℕ) (log log' : List Lemma) (numbers numbers' chosen chosen' : List ℕ) (bits bits' : List Bool) (steps steps' : List (ℕ × ℕ × Refutation)) (k : ℕ) (d : Refutation)
    → log' ≡ log → numbers' ≡ numbers → chosen' ≡ chosen → bits' ≡ bits → steps' ≡ steps
    → IsBackAt problem budget log numbers chosen bits steps k d
    → IsBackAt problem budget log' numbers' chosen' bits' steps' k d
back-same problem budget log log' numbers numbers' chosen chosen' bits bits' steps steps' k d l n c b s a =
    let L : List Lemma → Type 0 = λ x. IsBackAt problem budget x numbers' chosen' bits' steps' k d in
    let N : List ℕ → Type 0 = λ x. IsBackAt problem budget log x chosen' bits' steps' k d in
    let C : List ℕ → Type 0 = λ x. IsBackAt problem budget log numbers x bits' steps' k d in
    let B : List Bool → Type 0 = λ x. IsBackAt problem budget log numbers chosen x steps' k d in
    let S : List (ℕ × ℕ × Refutation) → Type 0 = λ x. IsBackAt problem budget log numbers chosen bits x k d in
    subst L (sym l) (subst N (sym n) (subst C (sym c) (subst B (sym b) (subst S (sym s) a))))

-- Ranges

pub chosen-some : (problem : List (List Constraint)) (bits : List Bool) (chosen numbers : List ℕ) → Stands problem bits chosen numbers → length numbers ≤ length chosen
chosen-some problem bits chosen numbers s = let size = walk-length problem numbers chosen s.walked in omega (arith, size)

pub chosen-within : (problem : List (List Constraint)) (bits : List Bool) (chosen numbers : List ℕ) → Stands problem bits chosen numbers → AllByRecursion (λ v. v < length bits) chosen
chosen-within problem bits chosen numbers s =
    let P : ℕ → Type 0 = λ n. AllByRecursion (λ v. v < n) chosen in subst P (sym s.size) s.within

pub member-within : (problem : List (List Constraint)) (bits : List Bool) (chosen numbers members : List ℕ) (owner place k v : ℕ) → Stands problem bits chosen numbers → IsNext problem chosen owner place members → k < length members → v ≡ get_or members k v → v < length bits
member-within problem bits chosen numbers members owner place k v s n h is =
    let low = picked-within problem chosen members n.rest k v s.closed n.waits h is in
    let size = s.size in omega (arith, low, size)

-- What comes of a turn

pub comes-later : (problem : List (List Constraint)) (budget : ℕ) (P Q : List ℕ → Type 0) (s : Search) (turn : Turn) → ((later : List ℕ) → P later → Q later) → Comes problem budget P s turn → Comes problem budget Q s turn
comes-later problem budget P Q s Onward h c = (c.0, h s.numbers.items c.1)
comes-later problem budget P Q s Found h c = c
comes-later problem budget P Q s (Refused r) h c = c
comes-later problem budget P Q s Spent h c = c

pub past-next : (numbers ks later : List ℕ) (k : ℕ) → numbers ≡ ks ++ k ∷ [] → later ≡ ks ++ (k + 1) ∷ [] → IsPast numbers later
past-next numbers ks later k e f = record { front = ks; low = k; high = k + 1; rest = []; was = e; is = f; larger = omega arith }

pub past-before : (numbers first later rest : List ℕ) → first ≡ numbers ++ rest → IsPast numbers later → IsBefore first later
past-before numbers first later rest e p =
    let parts : first ≡ p.front ++ p.low ∷ (p.rest ++ rest) = e ∙ (ap (λ ns. ns ++ rest) p.was ∙ append_assoc p.front (p.low ∷ p.rest) rest) in
    let P : List ℕ → Type 0 = λ ns. IsBefore ns later in
    let Q : List ℕ → Type 0 = λ ns. IsBefore (p.front ++ p.low ∷ (p.rest ++ rest)) ns in
    subst P (sym parts) (subst Q (sym p.is) (before-number p.front p.low p.high (p.rest ++ rest) [] p.larger))

passed-pass : (problem : List (List Constraint)) (budget : ℕ) (numbers ks : List ℕ) (k : ℕ) (s : Search) (pass : Pass) → numbers ≡ ks ++ k ∷ [] → Advanced problem budget ks (k + 1) s pass → PassedOver problem budget numbers s pass
passed-pass problem budget numbers ks k s (Denied d) e a = (a.0, (k, [], e ∙ ap (λ ns. ns ++ k ∷ []) (sym a.1)))
passed-pass problem budget numbers ks k s (Turned turn) e a =
    comes-later problem budget (λ later. later ≡ ks ++ (k + 1) ∷ []) (IsPast numbers) s turn (λ later f. past-next numbers ks later k e f) a

pub passed-result : {E : Type 0} (problem : List (List Constraint)) (budget : ℕ) (numbers ks : List ℕ) (k : ℕ) (s : Search) (r : Result Pass E) → numbers ≡ ks ++ k ∷ [] → IfOk r (λ pass. Advanced problem budget ks (k + 1) s pass) → IfOk r (λ pass. PassedOver problem budget numbers s pass)
passed-result problem budget numbers ks k s (Ok pass) e a = passed-pass problem budget numbers ks k s pass e a
passed-result problem budget numbers ks k s (Err error) e a = tt

advanced-pass : (problem : List (List Constraint)) (budget : ℕ) (numbers ns : List ℕ) (k : ℕ) (s : Search) (pass : Pass) → ns ≡ numbers → Advanced problem budget ns k s pass → Advanced problem budget numbers k s pass
advanced-pass problem budget numbers ns k s pass e a =
    let P : List ℕ → Type 0 = λ xs. Advanced problem budget xs k s pass in subst P e a

pub advanced-result : {E : Type 0} (problem : List (List Constraint)) (budget : ℕ) (numbers ns : List ℕ) (k : ℕ) (s : Search) (r : Result Pass E) → ns ≡ numbers → IfOk r (λ pass. (number : ℕ) → Advanced problem budget ns number s pass) → IfOk r (λ pass. Advanced problem budget numbers k s pass)
advanced-result problem budget numbers ns k s (Ok pass) e a = advanced-pass problem budget numbers ns k s pass e (a k)
advanced-result problem budget numbers ns k s (Err error) e a = tt

-- More ranges

pub numbers-few : (problem : List (List Constraint)) (bits : List Bool) (chosen numbers : List ℕ) → Stands problem bits chosen numbers → IsKept problem → length numbers ≤ VAR_LIMIT
numbers-few problem bits chosen numbers s k =
    let some = chosen-some problem bits chosen numbers s in
    let few = few_distinct (length problem) chosen s.once s.within in
    let limit = k.few_variables in
    omega (arith, some, few, limit)

pub offered-low : (problem : List (List Constraint)) (chosen cs members : List ℕ) (owner place k v : ℕ) → cs ≡ chosen → IsNext problem cs owner place members → member (waiting problem chosen) k ≡ Some v → k < length members
offered-low problem chosen cs members owner place k v e n m =
    (get-member members k v (offered-at problem cs members n.rest k v n.waits (ap (λ vs. member (waiting problem vs) k) e ∙ m))).0

pub numbers-within : (problem : List (List Constraint)) (bits : List Bool) (chosen numbers : List ℕ) → Stands problem bits chosen numbers → length numbers ≤ length problem
numbers-within problem bits chosen numbers s =
    let some = chosen-some problem bits chosen numbers s in
    let few = few_distinct (length problem) chosen s.once s.within in
    omega (arith, some, few)
