-- What the checker's answers mean.
use Rattle.std.proofs.Common.{◌≡◌, ◌↔◌, ℕ, Bool, true, false, List, [], refl, sym, ◌∙◌, subst, Option, Some, None, Result}
use Rattle.std.specs.Prelude.{IsOk, OnOk}
use Rattle.op_constraints.specs.declared.Constraint.{Constraint}
use Rattle.op_constraints.specs.Meets.{Meets}
use Rattle.derivations.specs.declared.Lemma.{Lemma}
use Rattle.derivations.specs.declared.LogFault.{LogFault}
use Rattle.derivations.specs.declared.Certificate.{Certificate}
use Rattle.derivations.specs.Follows.{clauses, log_fault}
use Rattle.derivations.specs.Accepted.{IsAccepted}
use Rattle.derivations.specs.Laws.{AllHold, IsRight}
use Rattle.derivations.proofs.Sound.{log_fault-hold}
use Rattle.derivations.proofs.Best.{accepted_right}
use Rattle.derivation_check.specs.declared.CertFault.{CertFault}
use Rattle.derivation_check.specs.declared.Verdict.{Verdict}
use Rattle.derivation_check.specs.Faults.{unless, first_fault}
use Rattle.derivation_check.proofs.AcceptedLemmas.{no_fault_accepted, accepted_no_fault}

held : (problem : List (List Constraint)) (lemmas : List Lemma) (o : Option LogFault) → log_fault problem [] lemmas ≡ o → OnOk {E = LogFault} (unless {T = Unit {0}} o tt) ((set : ℕ → Bool) → Meets problem set → AllHold set (clauses lemmas))
held problem lemmas None e = λ set m. log_fault-hold problem [] lemmas set e m tt
held problem lemmas (Some fault) e = tt

-- an answer of Ok to a log
pub log_held : (problem : List (List Constraint)) (lemmas : List Lemma) (r : Result (Unit {0}) LogFault) → r ≡ unless {T = Unit {0}} (log_fault problem [] lemmas) tt → OnOk r ((set : ℕ → Bool) → Meets problem set → AllHold set (clauses lemmas))
log_held problem lemmas r e =
    subst (λ (s : Result (Unit {0}) LogFault). OnOk s ((set : ℕ → Bool) → Meets problem set → AllHold set (clauses lemmas))) (sym e)
    (held problem lemmas (log_fault problem [] lemmas) refl)

accepted_at : (problem : List (List Constraint)) (certificate : Certificate) (v : Verdict) (o : Option CertFault) → first_fault problem certificate ≡ o → IsOk {E = CertFault} (unless o v) ↔ IsAccepted problem certificate
accepted_at problem certificate v None e = (λ _. no_fault_accepted problem certificate e, λ _. refl)
accepted_at problem certificate v (Some fault) e =
    (λ bad. absurd (let no : false ≡ true = bad in cc), λ a. absurd (let both : Some fault ≡ None = sym e ∙ accepted_no_fault problem certificate a in cc))

-- an answer of Ok to a certificate is acceptance
pub accepted_iff : (problem : List (List Constraint)) (certificate : Certificate) (v : Verdict) (r : Result Verdict CertFault) → r ≡ unless (first_fault problem certificate) v → IsOk r ↔ IsAccepted problem certificate
accepted_iff problem certificate v r e =
    subst (λ (s : Result Verdict CertFault). IsOk s ↔ IsAccepted problem certificate) (sym e) (accepted_at problem certificate v (first_fault problem certificate) refl)

right_at : (problem : List (List Constraint)) (certificate : Certificate) (v : Verdict) (o : Option CertFault) → first_fault problem certificate ≡ o → OnOk {E = CertFault} (unless o v) (IsRight problem certificate.finding)
right_at problem certificate v None e = accepted_right problem certificate (no_fault_accepted problem certificate e)
right_at problem certificate v (Some fault) e = tt

-- and what is accepted is right
pub right_if : (problem : List (List Constraint)) (certificate : Certificate) (v : Verdict) (r : Result Verdict CertFault) → r ≡ unless (first_fault problem certificate) v → OnOk r (IsRight problem certificate.finding)
right_if problem certificate v r e =
    subst (λ (s : Result Verdict CertFault). OnOk s (IsRight problem certificate.finding)) (sym e) (right_at problem certificate v (first_fault problem certificate) refl)
