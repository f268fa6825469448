-- A refusal's refutation, read against the set of the mandatory variables.
use Rattle.std.proofs.Common.{◌≡◌, ℕ, Bool, true, false, List, sym, ap, ◌∙◌, Option, Some}
use Rattle.std.specs.Option.{option_map}
use Rattle.std.specs.List.{list_all}
use Rattle.std.proofs.lemmas.Bool.{cond-true, cond-false}
use Rattle.op_constraints.specs.declared.Lit.{Lit}
use Rattle.op_constraints.specs.declared.Constraint.{Constraint}
use Rattle.op_constraints.specs.Walks.{is_among, mandatory, begun, Walked}
use Rattle.derivations.specs.declared.Lemma.{Lemma as LemmaOf}
use Rattle.derivations.specs.declared.LogCause.{LogCause}
use Rattle.derivations.specs.declared.Refutation.{Refutation}
use Rattle.derivations.specs.Accepted.{denies}
use Rattle.derivations.specs.Follows.{clauses, fault_of}
use Rattle.derivation_check.specs.declared.CertFault.TheVariants.{WholeDenies, WholeStep}
use Rattle.derivation_check.specs.Denials.{denies_in}
use Rattle.derivation_check.specs.Faults.{refused_fault}

-- the test by the walk's set is the one by the mandatory variables
whole_denies : (problem : List (List Constraint)) (set : ℕ → Bool) (walk : Walked) (lits : List Lit) (b : Bool) → set ≡ is_among walk.chosen → walk ≡ begun problem → b ≡ list_all (λ l. denies_in set l) lits → list_all (λ l. denies (mandatory problem) l) lits ≡ b
whole_denies problem set walk lits b s w e =
    sym (e ∙ ap (λ (t : ℕ → Bool). list_all (λ l. denies_in t l) lits) (s ∙ ap (λ (v : Walked). is_among v.chosen) w))

pub denies_more : (problem : List (List Constraint)) (log : List LemmaOf) (refutation : Refutation) (set : ℕ → Bool) (walk : Walked) (b : Bool) → set ≡ is_among walk.chosen → walk ≡ begun problem → b ≡ list_all (λ l. denies_in set l) refutation.lits → b ≡ false → Some WholeDenies ≡ refused_fault problem log refutation
denies_more problem log refutation set walk b s w e f =
    sym (cond-false (list_all (λ l. denies (mandatory problem) l) refutation.lits)
    (option_map (λ cause. WholeStep cause) (fault_of problem (clauses log) refutation.lits refutation.hints)) (Some WholeDenies)
    (whole_denies problem set walk refutation.lits b s w e ∙ f))

pub denies_right : (problem : List (List Constraint)) (log : List LemmaOf) (refutation : Refutation) (set : ℕ → Bool) (walk : Walked) (b : Bool) (o : Option LogCause) → set ≡ is_among walk.chosen → walk ≡ begun problem → b ≡ list_all (λ l. denies_in set l) refutation.lits → b ≡ true → fault_of problem (clauses log) refutation.lits refutation.hints ≡ o → option_map (λ cause. WholeStep cause) o ≡ refused_fault problem log refutation
denies_right problem log refutation set walk b o s w e t f =
    sym (cond-true (list_all (λ l. denies (mandatory problem) l) refutation.lits)
    (option_map (λ cause. WholeStep cause) (fault_of problem (clauses log) refutation.lits refutation.hints)) (Some WholeDenies)
    (whole_denies problem set walk refutation.lits b s w e ∙ t)
    ∙ ap (λ q. option_map (λ cause. WholeStep cause) q) f)
