-- The first fault of a certificate, in the order in which a checker looks for it.
use Rattle.std.specs.Prelude.{ℕ, ◌+◌, ◌==◌, Bool, true, false, cond, ◌&&◌, List, [], ◌∷◌, ◌++◌, length, map, take, Option, Some, None, Result, Ok, Err, unwrap_or}
use Rattle.std.specs.Option.{option_and_then, option_map, option_or}
use Rattle.std.specs.List.{list_all}
use Rattle.op_constraints.specs.declared.Lit.{Lit}
use Rattle.op_constraints.specs.declared.Constraint.{Constraint}
use Rattle.op_constraints.specs.Meets.{is_true_of}
use Rattle.op_constraints.specs.Walks.{is_among, mandatory, waiting, member, walk}
use Rattle.derivations.specs.declared.Lemma.{Lemma as LemmaOf}
use Rattle.derivations.specs.declared.Refutation.{Refutation}
use Rattle.derivations.specs.declared.Certificate.{Certificate}
use Rattle.derivations.specs.declared.Finding.{Finding}
use Rattle.derivations.specs.declared.Finding.TheVariants.{Chosen as ChosenFinding, Refused as RefusedFinding, Undecided as UndecidedFinding}
use Rattle.derivations.specs.Follows.{clauses, fault_of, log_fault}
use Rattle.derivations.specs.Accepted.{denies, pairs_from}
use Rattle.derivation_check.specs.declared.CertFault.{CertFault}
use Rattle.derivation_check.specs.declared.CertFault.TheVariants.{WrongSize, Lemma, Walk, NotMet, Missing, Extra, Denies, Step, WholeDenies, WholeStep}
use Rattle.derivation_check.specs.declared.Verdict.{Verdict}
use Rattle.derivation_check.specs.declared.Verdict.TheVariants.{Chosen, Refused, Undecided}

-- the value, or the fault where there is one
abbrev pub unless : {T E : Type 0} → Option E → T → Result T E
unless None value = Ok value
unless (Some fault) value = Err fault

-- the certificate's number of variables isn't the problem's
abbrev pub size_fault : List (List Constraint) → ℕ → Option CertFault
size_fault problem found = cond (found == length problem) None (Some (WrongSize found (length problem)))

abbrev pub is_ended : List (List ℕ) → Bool
is_ended [] = true
is_ended (members ∷ lists) = false

-- what comes after a number's member; a number that has none is at fault
abbrev pub after_member : Option ℕ → ℕ → (ℕ → Option CertFault) → Option CertFault
after_member None position rest = Some (Walk position)
after_member (Some v) position rest = rest v

-- the first number that isn't in its list, or that no list waits for; where a list waits at the end, the end
abbrev pub walk_fault : List (List Constraint) → List ℕ → ℕ → List ℕ → Option CertFault
walk_fault problem chosen position [] = cond (is_ended (waiting problem chosen)) None (Some (Walk position))
walk_fault problem chosen position (number ∷ numbers) =
    after_member (member (waiting problem chosen) number) position (λ v. walk_fault problem (chosen ++ v ∷ []) (position + 1) numbers)

-- the number, counted from this one on, of the first constraint that isn't true of the set
abbrev pub broken_of : (ℕ → Bool) → ℕ → ℕ → List Constraint → Option ℕ
broken_of set v place [] = None
broken_of set v place (c ∷ cs) = cond (is_true_of set v c) (broken_of set v (place + 1) cs) (Some place)

-- the first constraint that isn't true of the set, of the variables from this one on
abbrev pub met_fault : (ℕ → Bool) → ℕ → List (List Constraint) → Option CertFault
met_fault set v [] = None
met_fault set v (cs ∷ css) = option_or (option_map (λ place. NotMet v place) (broken_of set v 0 cs)) (met_fault set (v + 1) css)

-- two pairs are one
abbrev pub is_pair : ℕ × ℕ → ℕ × ℕ → Bool
is_pair p q = (p.0 == q.0) && (p.1 == q.1)

-- the pair is the next one given
abbrev pub is_next : List (ℕ × ℕ) → ℕ × ℕ → Bool
is_next [] pair = false
is_next (next ∷ given) pair = is_pair pair next

-- the first wanted pair that isn't the next one given; else the position of what is given beyond them
abbrev pub pairs_fault : ℕ → List (ℕ × ℕ) → List (ℕ × ℕ) → Option CertFault
pairs_fault position [] [] = None
pairs_fault position [] (pair ∷ given) = Some (Extra position)
pairs_fault position (pair ∷ wanted) [] = Some (Missing pair.0 pair.1)
pairs_fault position (pair ∷ wanted) (next ∷ given) = cond (is_pair pair next) (pairs_fault (position + 1) wanted given) (Some (Missing pair.0 pair.1))

abbrev pub pair_of : ℕ × ℕ × Refutation → ℕ × ℕ
pair_of step = (step.0, step.1)

-- the candidate of a step and what was chosen before its choice; none where there is no such candidate
abbrev pub deniable : List (List Constraint) → List ℕ → ℕ → ℕ → Option (List ℕ)
deniable problem numbers choice number =
    option_and_then (λ chosen. option_map (λ candidate. candidate ∷ chosen) (member (waiting problem chosen) number)) (walk problem (take choice numbers))

-- each literal is a denial of one of these
abbrev pub all_deny : Option (List ℕ) → List Lit → Bool
all_deny None lits = false
all_deny (Some vs) lits = list_all (λ l. denies vs l) lits

-- the first step with a literal that denies anything else
abbrev pub denies_fault : List (List Constraint) → List ℕ → List (ℕ × ℕ × Refutation) → Option CertFault
denies_fault problem numbers [] = None
denies_fault problem numbers (step ∷ steps) =
    cond (all_deny (deniable problem numbers step.0 step.1) step.2.lits) (denies_fault problem numbers steps) (Some (Denies step.0 step.1))

-- the first step whose refutation doesn't follow
abbrev pub steps_fault : List (List Constraint) → List LemmaOf → List (ℕ × ℕ × Refutation) → Option CertFault
steps_fault problem log [] = None
steps_fault problem log (step ∷ steps) =
    option_or (option_map (λ cause. Step step.0 step.1 cause) (fault_of problem (clauses log) step.2.lits step.2.hints)) (steps_fault problem log steps)

-- all that the walk chose
abbrev pub set_of : List (List Constraint) → List ℕ → ℕ → Bool
set_of problem numbers = is_among (unwrap_or (walk problem numbers) [])

-- the first fault of a walk and its refutations
abbrev pub chosen_fault : List (List Constraint) → List LemmaOf → List ℕ → List (ℕ × ℕ × Refutation) → Option CertFault
chosen_fault problem log numbers steps =
    option_or (walk_fault problem (mandatory problem) 0 numbers)
    (option_or (met_fault (set_of problem numbers) 0 problem)
    (option_or (pairs_fault 0 (pairs_from 0 numbers) (map pair_of steps))
    (option_or (denies_fault problem numbers steps) (steps_fault problem log steps))))

-- the first fault of a refusal's refutation
abbrev pub refused_fault : List (List Constraint) → List LemmaOf → Refutation → Option CertFault
refused_fault problem log refutation =
    cond (list_all (λ l. denies (mandatory problem) l) refutation.lits)
    (option_map (λ cause. WholeStep cause) (fault_of problem (clauses log) refutation.lits refutation.hints))
    (Some WholeDenies)

abbrev pub finding_fault : List (List Constraint) → List LemmaOf → Finding → Option CertFault
finding_fault problem log (ChosenFinding numbers steps) = chosen_fault problem log numbers steps
finding_fault problem log (RefusedFinding refutation) = refused_fault problem log refutation
finding_fault problem log UndecidedFinding = None

-- the first fault of a certificate: its size, its log, its finding
abbrev pub first_fault : List (List Constraint) → Certificate → Option CertFault
first_fault problem certificate =
    option_or (size_fault problem certificate.vars)
    (option_or (option_map (λ fault. Lemma fault) (log_fault problem [] certificate.log.lemmas))
    (finding_fault problem certificate.log.lemmas certificate.finding))

-- what an accepted certificate is told as
abbrev pub verdict_of : Certificate → Finding → Verdict
verdict_of certificate (ChosenFinding numbers steps) = Chosen (length numbers)
verdict_of certificate (RefusedFinding refutation) = Refused
verdict_of certificate UndecidedFinding = Undecided (length certificate.log.lemmas)

abbrev pub walk_of : Finding → List ℕ
walk_of (ChosenFinding numbers steps) = numbers
walk_of (RefusedFinding refutation) = []
walk_of UndecidedFinding = []

abbrev pub steps_of : Finding → List (ℕ × ℕ × Refutation)
steps_of (ChosenFinding numbers steps) = steps
steps_of (RefusedFinding refutation) = []
steps_of UndecidedFinding = []
