-- There is no first fault exactly where the certificate is accepted.
use Rattle.std.proofs.Common.{◌≡◌, ℕ, zero, suc, ◌+◌, ◌==◌, Bool, true, false, cond, List, [], ◌∷◌, ◌++◌, length, map, take, refl, sym, ap, ◌∙◌, subst, arith, inl, inr, Option, Some, None, eq-eqb, slice_get, unwrap_or}
use Rattle.std.specs.Option.{option_and_then, option_map, option_or}
use Rattle.std.specs.List.{list_all, AllByRecursion}
use Rattle.std.proofs.lemmas.Bool.{cases_Bool, and_parts, and_from, eqb-true, cond-true}
use Rattle.op_constraints.specs.declared.Lit.{Lit}
use Rattle.op_constraints.specs.declared.Constraint.{Constraint}
use Rattle.op_constraints.specs.Meets.{constraint_at, is_true_of, Meets}
use Rattle.op_constraints.specs.Walks.{is_among, mandatory, waiting, member, walk_from, walk}
use Rattle.op_constraints.proofs.WalkLaws.{under}
use Rattle.derivations.specs.declared.Lemma.{Lemma as LemmaOf}
use Rattle.derivations.specs.declared.Refutation.{Refutation}
use Rattle.derivations.specs.declared.Certificate.{Certificate}
use Rattle.derivations.specs.declared.Finding.{Finding}
use Rattle.derivations.specs.declared.Finding.TheVariants.{Chosen as ChosenFinding, Refused as RefusedFinding, Undecided as UndecidedFinding}
use Rattle.derivations.specs.declared.LogCause.{LogCause}
use Rattle.derivations.proofs.Sound.{or_none, map_none}
use Rattle.derivations.specs.Follows.{clauses, fault_of, log_fault}
use Rattle.derivations.specs.Accepted.{denies, Refutes, pairs_from, IsStep, IsShownBest, IsShown, IsAccepted}
use Rattle.derivation_check.specs.declared.CertFault.{CertFault}
use Rattle.derivation_check.specs.declared.CertFault.TheVariants.{WrongSize, Lemma, Walk, NotMet, Missing, Extra, Denies, Step, WholeDenies, WholeStep}
use Rattle.derivation_check.specs.Faults.{size_fault, is_ended, after_member, walk_fault, broken_of, met_fault, is_pair, pairs_fault, pair_of, deniable, all_deny, denies_fault, steps_fault, set_of, chosen_fault, refused_fault, finding_fault, first_fault}

both_none : {A : Type 0} (o p : Option A) → o ≡ None → p ≡ None → option_or o p ≡ None
both_none None p e f = f
both_none (Some x) p e f = absurd (let bad : Some x ≡ None = e in cc)

none_map : {A B : Type 0} (f : A → B) (o : Option A) → o ≡ None → option_map f o ≡ None
none_map f None e = refl
none_map f (Some x) e = absurd (let bad : Some x ≡ None = e in cc)

cond_none : {A : Type 0} (b : Bool) (o : Option A) (f : A) → cond b o (Some f) ≡ None → (b ≡ true) × (o ≡ None)
cond_none true o f e = (refl, e)
cond_none false o f e = absurd (let bad : Some f ≡ None = e in cc)

-- The walk

ended : (w : List (List ℕ)) (f : CertFault) → cond (is_ended w) None (Some f) ≡ None → w ≡ []
ended [] f e = refl
ended (members ∷ lists) f e = absurd (let bad : Some f ≡ None = e in cc)

after_none : (o : Option ℕ) (position : ℕ) (rest : ℕ → Option CertFault) → after_member o position rest ≡ None → (v : ℕ) × (o ≡ Some v) × (rest v ≡ None)
after_none None position rest e = absurd (let bad : Some (Walk position) ≡ None = e in cc)
after_none (Some v) position rest e = (v, refl, e)

walk_ends : (problem : List (List Constraint)) (chosen : List ℕ) (position : ℕ) (numbers : List ℕ) → walk_fault problem chosen position numbers ≡ None → (end : List ℕ) × (walk_from problem chosen numbers ≡ Some end) × (waiting problem end ≡ [])
walk_ends problem chosen position [] e = (chosen, refl, ended (waiting problem chosen) (Walk position) e)
walk_ends problem chosen position (number ∷ numbers) e =
    let (v, is, rest) = after_none (member (waiting problem chosen) number) position (λ v. walk_fault problem (chosen ++ v ∷ []) (position + 1) numbers) e in
    let (end, walked, full) = walk_ends problem (chosen ++ v ∷ []) (position + 1) numbers rest in
    (end, ap (λ o. option_and_then (λ v. walk_from problem (chosen ++ v ∷ []) numbers) o) is ∙ walked, full)

walk_fine : (problem : List (List Constraint)) (chosen : List ℕ) (position : ℕ) (numbers end : List ℕ) → walk_from problem chosen numbers ≡ Some end → waiting problem end ≡ [] → walk_fault problem chosen position numbers ≡ None
walk_fine problem chosen position [] end w full =
    let same : chosen ≡ end = cc in
    ap (λ lists. cond (is_ended lists) None (Some (Walk position))) (ap (λ vs. waiting problem vs) same ∙ full)
walk_fine problem chosen position (number ∷ numbers) end w full =
    let (v, is, rest) = under (λ v. walk_from problem (chosen ++ v ∷ []) numbers) (member (waiting problem chosen) number) end w in
    ap (λ o. after_member o position (λ v. walk_fault problem (chosen ++ v ∷ []) (position + 1) numbers)) is
    ∙ walk_fine problem (chosen ++ v ∷ []) (position + 1) numbers end rest full

-- The constraints

broken_none : (set : ℕ → Bool) (v place : ℕ) (cs : List Constraint) → broken_of set v place cs ≡ None → (k : ℕ) (c : Constraint) → slice_get cs k ≡ Some c → is_true_of set v c ≡ true
broken_none set v place [] e k c at = absurd (let bad : None ≡ Some c = at in cc)
broken_none set v place (d ∷ ds) e zero c at =
    let same : d ≡ c = cc in
    subst (λ (b : Constraint). is_true_of set v b ≡ true) same (cond_none (is_true_of set v d) (broken_of set v (place + 1) ds) place e).0
broken_none set v place (d ∷ ds) e (suc k) c at =
    broken_none set v (place + 1) ds (cond_none (is_true_of set v d) (broken_of set v (place + 1) ds) place e).1 k c at

none_broken : (set : ℕ → Bool) (v place : ℕ) (cs : List Constraint) → ((k : ℕ) (c : Constraint) → slice_get cs k ≡ Some c → is_true_of set v c ≡ true) → broken_of set v place cs ≡ None
none_broken set v place [] f = refl
none_broken set v place (c ∷ cs) f =
    cond-true (is_true_of set v c) (broken_of set v (place + 1) cs) (Some place) (f zero c refl)
    ∙ none_broken set v (place + 1) cs (λ k d at. f (suc k) d at)

met_none : (set : ℕ → Bool) (n : ℕ) (css : List (List Constraint)) → met_fault set n css ≡ None → (v place : ℕ) (c : Constraint) → constraint_at css v place ≡ Some c → is_true_of set (n + v) c ≡ true
met_none set n [] e v place c at = absurd (let bad : None ≡ Some c = at in cc)
met_none set n (cs ∷ css) e zero place c at =
    let parts = or_none (option_map (λ place. NotMet n place) (broken_of set n 0 cs)) (met_fault set (n + 1) css) e in
    let same : n ≡ n + 0 = omega arith in
    subst (λ (k : ℕ). is_true_of set k c ≡ true) same
    (broken_none set n 0 cs (map_none (λ place. NotMet n place) (broken_of set n 0 cs) parts.0) place c at)
met_none set n (cs ∷ css) e (suc v) place c at =
    let parts = or_none (option_map (λ place. NotMet n place) (broken_of set n 0 cs)) (met_fault set (n + 1) css) e in
    let same : (n + 1) + v ≡ n + suc v = omega arith in
    subst (λ (k : ℕ). is_true_of set k c ≡ true) same (met_none set (n + 1) css parts.1 v place c at)

none_met : (set : ℕ → Bool) (n : ℕ) (css : List (List Constraint)) → ((v place : ℕ) (c : Constraint) → constraint_at css v place ≡ Some c → is_true_of set (n + v) c ≡ true) → met_fault set n css ≡ None
none_met set n [] f = refl
none_met set n (cs ∷ css) f =
    both_none (option_map (λ place. NotMet n place) (broken_of set n 0 cs)) (met_fault set (n + 1) css)
    (none_map (λ place. NotMet n place) (broken_of set n 0 cs)
    (none_broken set n 0 cs (λ k c at. let same : n + 0 ≡ n = omega arith in subst (λ (k : ℕ). is_true_of set k c ≡ true) same (f zero k c at))))
    (none_met set (n + 1) css (λ v place c at. let same : n + suc v ≡ (n + 1) + v = omega arith in subst (λ (k : ℕ). is_true_of set k c ≡ true) same (f (suc v) place c at)))

pub met_same : (problem : List (List Constraint)) (set : ℕ → Bool) → met_fault set 0 problem ≡ None → Meets problem set
met_same problem set e v place c at =
    let same : 0 + v ≡ v = omega arith in subst (λ (k : ℕ). is_true_of set k c ≡ true) same (met_none set 0 problem e v place c at)

same_met : (problem : List (List Constraint)) (set : ℕ → Bool) → Meets problem set → met_fault set 0 problem ≡ None
same_met problem set m =
    none_met set 0 problem (λ v place c at. let same : v ≡ 0 + v = omega arith in subst (λ (k : ℕ). is_true_of set k c ≡ true) same (m v place c at))

-- The pairs

pair_same : (p q : ℕ × ℕ) → is_pair p q ≡ true → q ≡ p
pair_same p q e =
    let parts = and_parts (p.0 == q.0) (p.1 == q.1) e in
    let first : q.0 ≡ p.0 = sym (eqb-true p.0 q.0 parts.0) in
    let second : q.1 ≡ p.1 = sym (eqb-true p.1 q.1 parts.1) in
    ap (λ a. (a, q.1)) first ∙ ap (λ b. (p.0, b)) second

pub pairs_same : (position : ℕ) (wanted given : List (ℕ × ℕ)) → pairs_fault position wanted given ≡ None → given ≡ wanted
pairs_same position [] [] e = refl
pairs_same position [] (pair ∷ given) e = absurd (let bad : Some (Extra position) ≡ None = e in cc)
pairs_same position (pair ∷ wanted) [] e = absurd (let bad : Some (Missing pair.0 pair.1) ≡ None = e in cc)
pairs_same position (pair ∷ wanted) (next ∷ given) e =
    elim (cases_Bool (is_pair pair next)) [
      | inl here ↦ (let e' = rw here at e in ap (λ p. p ∷ given) (pair_same pair next here) ∙ ap (λ ps. pair ∷ ps) (pairs_same (position + 1) wanted given e'))
      | inr other ↦ (let e' = rw other at e in absurd (let bad : Some (Missing pair.0 pair.1) ≡ None = e' in cc))
    ]

pairs_fine : (position : ℕ) (pairs : List (ℕ × ℕ)) → pairs_fault position pairs pairs ≡ None
pairs_fine position [] = refl
pairs_fine position (pair ∷ pairs) =
    cond-true (is_pair pair pair) (pairs_fault (position + 1) pairs pairs) (Some (Missing pair.0 pair.1))
    (and_from (pair.0 == pair.0) (pair.1 == pair.1) (eq-eqb pair.0 pair.0 refl) (eq-eqb pair.1 pair.1 refl))
    ∙ pairs_fine (position + 1) pairs

-- The steps

denied_some : (o : Option (List ℕ)) (lits : List Lit) → all_deny o lits ≡ true → (vs : List ℕ) × (o ≡ Some vs) × (list_all (λ l. denies vs l) lits ≡ true)
denied_some None lits e = absurd (let bad : false ≡ true = e in cc)
denied_some (Some vs) lits e = (vs, refl, e)

mapped : (chosen : List ℕ) (o : Option ℕ) (vs : List ℕ) → option_map (λ candidate. candidate ∷ chosen) o ≡ Some vs → (candidate : ℕ) × (o ≡ Some candidate) × (vs ≡ candidate ∷ chosen)
mapped chosen None vs e = absurd (let bad : None ≡ Some vs = e in cc)
mapped chosen (Some candidate) vs e = (candidate, refl, (let same : vs ≡ candidate ∷ chosen = cc in same))

step_shown : (problem : List (List Constraint)) (log : List LemmaOf) (numbers : List ℕ) (step : ℕ × ℕ × Refutation) → all_deny (deniable problem numbers step.0 step.1) step.2.lits ≡ true → fault_of problem (clauses log) step.2.lits step.2.hints ≡ None → IsStep problem log numbers step
step_shown problem log numbers step d f =
    let (vs, is, all) = denied_some (deniable problem numbers step.0 step.1) step.2.lits d in
    let (chosen, walked, rest) = under (λ chosen. option_map (λ candidate. candidate ∷ chosen) (member (waiting problem chosen) step.1)) (walk problem (take step.0 numbers)) vs is in
    let (candidate, offered, same) = mapped chosen (member (waiting problem chosen) step.1) vs rest in
    record {
      chosen = chosen;
      candidate = candidate;
      walked = walked;
      offered = offered;
      refutes = (subst (λ (us : List ℕ). list_all (λ l. denies us l) step.2.lits ≡ true) same all, f);
    }

shown_step : (problem : List (List Constraint)) (log : List LemmaOf) (numbers : List ℕ) (step : ℕ × ℕ × Refutation) → IsStep problem log numbers step → all_deny (deniable problem numbers step.0 step.1) step.2.lits ≡ true
shown_step problem log numbers step s =
    ap (λ o. all_deny (option_and_then (λ chosen. option_map (λ candidate. candidate ∷ chosen) (member (waiting problem chosen) step.1)) o) step.2.lits) s.walked
    ∙ (ap (λ o. all_deny (option_map (λ candidate. candidate ∷ s.chosen) o) step.2.lits) s.offered
    ∙ s.refutes.0)

steps_shown : (problem : List (List Constraint)) (log : List LemmaOf) (numbers : List ℕ) (steps : List (ℕ × ℕ × Refutation)) → denies_fault problem numbers steps ≡ None → steps_fault problem log steps ≡ None → AllByRecursion (IsStep problem log numbers) steps
steps_shown problem log numbers [] d f = tt
steps_shown problem log numbers (step ∷ steps) d f =
    let denied = cond_none (all_deny (deniable problem numbers step.0 step.1) step.2.lits) (denies_fault problem numbers steps) (Denies step.0 step.1) d in
    let name : LogCause → CertFault = λ cause. Step step.0 step.1 cause in
    let parts = or_none (option_map name (fault_of problem (clauses log) step.2.lits step.2.hints)) (steps_fault problem log steps) f in
    (step_shown problem log numbers step denied.0 (map_none name (fault_of problem (clauses log) step.2.lits step.2.hints) parts.0), steps_shown problem log numbers steps denied.1 parts.1)

shown_denies : (problem : List (List Constraint)) (log : List LemmaOf) (numbers : List ℕ) (steps : List (ℕ × ℕ × Refutation)) → AllByRecursion (IsStep problem log numbers) steps → denies_fault problem numbers steps ≡ None
shown_denies problem log numbers [] a = refl
shown_denies problem log numbers (step ∷ steps) a =
    cond-true (all_deny (deniable problem numbers step.0 step.1) step.2.lits) (denies_fault problem numbers steps) (Some (Denies step.0 step.1)) (shown_step problem log numbers step a.0)
    ∙ shown_denies problem log numbers steps a.1

shown_steps : (problem : List (List Constraint)) (log : List LemmaOf) (numbers : List ℕ) (steps : List (ℕ × ℕ × Refutation)) → AllByRecursion (IsStep problem log numbers) steps → steps_fault problem log steps ≡ None
shown_steps problem log numbers [] a = refl
shown_steps problem log numbers (step ∷ steps) a =
    let name : LogCause → CertFault = λ cause. Step step.0 step.1 cause in
    both_none (option_map name (fault_of problem (clauses log) step.2.lits step.2.hints)) (steps_fault problem log steps)
    (none_map name (fault_of problem (clauses log) step.2.lits step.2.hints) a.0.refutes.1)
    (shown_steps problem log numbers steps a.1)

-- The findings

chosen_shown : (problem : List (List Constraint)) (log : List LemmaOf) (numbers : List ℕ) (steps : List (ℕ × ℕ × Refutation)) → chosen_fault problem log numbers steps ≡ None → IsShownBest problem log numbers steps
chosen_shown problem log numbers steps e =
    let w = walk_fault problem (mandatory problem) 0 numbers in
    let m = met_fault (set_of problem numbers) 0 problem in
    let p = pairs_fault 0 (pairs_from 0 numbers) (map pair_of steps) in
    let d = denies_fault problem numbers steps in
    let s = steps_fault problem log steps in
    let first = or_none w (option_or m (option_or p (option_or d s))) e in
    let second = or_none m (option_or p (option_or d s)) first.1 in
    let third = or_none p (option_or d s) second.1 in
    let fourth = or_none d s third.1 in
    let (end, walked, full) = walk_ends problem (mandatory problem) 0 numbers first.0 in
    let same : set_of problem numbers ≡ is_among end = ap (λ o. is_among (unwrap_or o [])) walked in
    record {
      succeeds = record { chosen = end; walked = walked; full = full; met = subst (λ (set : ℕ → Bool). Meets problem set) same (met_same problem (set_of problem numbers) second.0) };
      complete = pairs_same 0 (pairs_from 0 numbers) (map pair_of steps) third.0;
      each = steps_shown problem log numbers steps fourth.0 fourth.1;
    }

shown_chosen : (problem : List (List Constraint)) (log : List LemmaOf) (numbers : List ℕ) (steps : List (ℕ × ℕ × Refutation)) → IsShownBest problem log numbers steps → chosen_fault problem log numbers steps ≡ None
shown_chosen problem log numbers steps s =
    let same : is_among s.succeeds.chosen ≡ set_of problem numbers = sym (ap (λ o. is_among (unwrap_or o [])) s.succeeds.walked) in
    let w = walk_fault problem (mandatory problem) 0 numbers in
    let m = met_fault (set_of problem numbers) 0 problem in
    let p = pairs_fault 0 (pairs_from 0 numbers) (map pair_of steps) in
    let d = denies_fault problem numbers steps in
    let f = steps_fault problem log steps in
    both_none w (option_or m (option_or p (option_or d f))) (walk_fine problem (mandatory problem) 0 numbers s.succeeds.chosen s.succeeds.walked s.succeeds.full)
    (both_none m (option_or p (option_or d f)) (same_met problem (set_of problem numbers) (subst (λ (set : ℕ → Bool). Meets problem set) same s.succeeds.met))
    (both_none p (option_or d f) (ap (λ ps. pairs_fault 0 (pairs_from 0 numbers) ps) s.complete ∙ pairs_fine 0 (pairs_from 0 numbers))
    (both_none d f (shown_denies problem log numbers steps s.each) (shown_steps problem log numbers steps s.each))))

refused_shown : (problem : List (List Constraint)) (log : List LemmaOf) (refutation : Refutation) → refused_fault problem log refutation ≡ None → Refutes problem log (mandatory problem) refutation
refused_shown problem log refutation e =
    let name : LogCause → CertFault = λ cause. WholeStep cause in
    let parts = cond_none (list_all (λ l. denies (mandatory problem) l) refutation.lits) (option_map name (fault_of problem (clauses log) refutation.lits refutation.hints)) WholeDenies e in
    (parts.0, map_none name (fault_of problem (clauses log) refutation.lits refutation.hints) parts.1)

shown_refused : (problem : List (List Constraint)) (log : List LemmaOf) (refutation : Refutation) → Refutes problem log (mandatory problem) refutation → refused_fault problem log refutation ≡ None
shown_refused problem log refutation r =
    let name : LogCause → CertFault = λ cause. WholeStep cause in
    cond-true (list_all (λ l. denies (mandatory problem) l) refutation.lits) (option_map name (fault_of problem (clauses log) refutation.lits refutation.hints)) (Some WholeDenies) r.0
    ∙ none_map name (fault_of problem (clauses log) refutation.lits refutation.hints) r.1

finding_shown : (problem : List (List Constraint)) (log : List LemmaOf) (finding : Finding) → finding_fault problem log finding ≡ None → IsShown problem log finding
finding_shown problem log (ChosenFinding numbers steps) e = chosen_shown problem log numbers steps e
finding_shown problem log (RefusedFinding refutation) e = refused_shown problem log refutation e
finding_shown problem log UndecidedFinding e = tt

shown_finding : (problem : List (List Constraint)) (log : List LemmaOf) (finding : Finding) → IsShown problem log finding → finding_fault problem log finding ≡ None
shown_finding problem log (ChosenFinding numbers steps) s = shown_chosen problem log numbers steps s
shown_finding problem log (RefusedFinding refutation) s = shown_refused problem log refutation s
shown_finding problem log UndecidedFinding s = refl

pub no_fault_accepted : (problem : List (List Constraint)) (certificate : Certificate) → first_fault problem certificate ≡ None → IsAccepted problem certificate
no_fault_accepted problem certificate e =
    let s = size_fault problem certificate.vars in
    let l = option_map (λ fault. Lemma fault) (log_fault problem [] certificate.log.lemmas) in
    let f = finding_fault problem certificate.log.lemmas certificate.finding in
    let first = or_none s (option_or l f) e in
    let second = or_none l f first.1 in
    record {
      size = eqb-true certificate.vars (length problem) (cond_none (certificate.vars == length problem) None (WrongSize certificate.vars (length problem)) first.0).0;
      log = map_none (λ fault. Lemma fault) (log_fault problem [] certificate.log.lemmas) second.0;
      finding = finding_shown problem certificate.log.lemmas certificate.finding second.1;
    }

pub accepted_no_fault : (problem : List (List Constraint)) (certificate : Certificate) → IsAccepted problem certificate → first_fault problem certificate ≡ None
accepted_no_fault problem certificate a =
    let s = size_fault problem certificate.vars in
    let l = option_map (λ fault. Lemma fault) (log_fault problem [] certificate.log.lemmas) in
    let f = finding_fault problem certificate.log.lemmas certificate.finding in
    both_none s (option_or l f)
    (cond-true (certificate.vars == length problem) None (Some (WrongSize certificate.vars (length problem))) (eq-eqb certificate.vars (length problem) a.size))
    (both_none l f (none_map (λ fault. Lemma fault) (log_fault problem [] certificate.log.lemmas) a.log) (shown_finding problem certificate.log.lemmas certificate.finding a.finding))
