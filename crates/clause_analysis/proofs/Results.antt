-- What the walk ends in.
use Rattle.std.proofs.Common.{◌≡◌, ℕ, zero, suc, ◌+◌, nat_lt, Bool, true, false, ◌||◌, List, [], ◌∷◌, length, map, take, drop, refl, sym, ap, ◌∙◌, subst, arith, inl, inr, Some}
use Rattle.std.specs.List.{list_all}
use Rattle.std.proofs.lemmas.Bool.{cases_Bool, or_cases, or_left, or_right, and_parts, both_ways}
use Rattle.op_constraints.specs.declared.Lit.{Lit}
use Rattle.op_constraints.specs.declared.Constraint.{Constraint}
use Rattle.op_constraints.specs.Meets.{at}
use Rattle.op_constraints.specs.Kept.{is_distinct}
use Rattle.derivations.specs.declared.Hint.{Hint}
use Rattle.derivations.specs.declared.Refutation.{Refutation}
use Rattle.derivations.specs.Clauses.{denial, is_same, is_in}
use Rattle.derivations.specs.Follows.{left, forced, is_nothing, is_clause, fault_of}
use Rattle.derivations.specs.Accepted.{is_tautology}
use Rattle.clause_trail.specs.declared.Cause.{Cause}
use Rattle.clause_trail.specs.declared.Cause.TheVariants.{Assumed, Decided, Forced}
use Rattle.clause_trail.specs.declared.Entry.{Entry}
use Rattle.clause_trail.specs.Trails.{literals, IsUnknown, IsOrdered}
use Rattle.clause_trail.specs.Scans.{AllSettled}
use Rattle.clause_trail.proofs.Literals.{same_lit, same_itself}
use Rattle.clause_analysis.specs.declared.Learnt.{Learnt}
use Rattle.clause_analysis.specs.Caused.{is_assumed, is_decided, assumed, Stands, AllStand}
use Rattle.clause_analysis.specs.Needs.{needed_of, IsStart, IsBack}
use Rattle.clause_analysis.specs.Analysed.{IsRefuted, IsLearnt}
use Rattle.clause_analysis.proofs.Needed.{needed_in, drop-in, take-later, take-last, newer_unknown, ordered-drop, stand-drop, taken}
use Rattle.clause_analysis.proofs.Resolving.{IsRefuting}
use Rattle.clause_analysis.proofs.Forcing.{denials, is_one, follows, denied_in, unmet, but_one, denied_unknown, forces}
use Rattle.clause_analysis.proofs.Staying.{staying, no_given, no_earlier, no_tautology}

assumed-in : (es : List Entry) (m : Lit) → list_all (λ e. is_assumed e.cause) es ≡ true → is_in (literals es) m ≡ true → is_in (assumed es) m ≡ true
assumed-in [] m a h = h
assumed-in (e ∷ es) m a h =
    let parts = and_parts (is_assumed e.cause) (list_all (λ e. is_assumed e.cause) es) a in
    let here : is_assumed e.cause ≡ true = parts.0 in
    elim (or_cases (is_same e.lit m) (is_in (literals es) m) h) [
      | inl same ↦ rw here (or_left (is_same e.lit m) (is_in (assumed es) m) same)
      | inr rest ↦ rw here (or_right (is_same e.lit m) (is_in (assumed es) m) (assumed-in es m parts.1 rest))
    ]

assumed-drop : (d : ℕ) (es : List Entry) (m : Lit) → is_in (assumed (drop d es)) m ≡ true → is_in (assumed es) m ≡ true
assumed-drop zero es m h = h
assumed-drop (suc d) [] m h = h
assumed-drop (suc d) (e ∷ es) m h =
    let rest = assumed-drop d es m h in
    elim (cases_Bool (is_assumed e.cause)) [
      | inl here ↦ rw here (or_right (is_same e.lit m) (is_in (assumed es) m) rest)
      | inr other ↦ rw other rest
    ]

-- the walk ends where all that is left is assumed
pub refuted_is : (problem : List (List Constraint)) (earlier : List (List Lit)) (size : ℕ) (entries : List Entry) (d : ℕ) (needed : List Bool) (hints : List Hint) (r : Refutation)
    → size ≡ length problem
    → IsOrdered size entries
    → list_all (λ e. is_assumed e.cause) (drop d entries) ≡ true
    → r.lits ≡ denials (needed_of needed (drop d entries))
    → r.hints ≡ hints
    → IsRefuting problem earlier (literals (needed_of needed (drop d entries))) (literals (take d entries)) hints
    → IsRefuted problem earlier entries r
refuted_is problem earlier size entries d needed hints r same o all lits is refuting =
    let es : List Entry = drop d entries in
    let clause : List Lit = denials (needed_of needed es) in
    record {
      follows =
          ap (λ ls. fault_of problem earlier ls r.hints) lits
          ∙ (ap (λ hs. fault_of problem earlier clause hs) is
          ∙ follows problem earlier size needed es (literals (take d entries)) hints same (ordered-drop size d entries o) (λ m i. newer_unknown size d entries m o i) refuting);
      denies = subst (λ (ls : List Lit). list_all (λ l. is_in (assumed entries) (denial l)) ls ≡ true) (sym lits)
          (denied_in (needed_of needed es) (assumed entries) (λ m i. let both = needed_in needed es m i in assumed-drop d entries m (assumed-in es m all both.0)));
    }

settled_there : (problem : List (List Constraint)) (earlier : List (List Lit)) (e : Entry) (older : List Entry) (cause : Cause) → is_decided cause ≡ true → Stands problem earlier older e.lit cause → AllSettled problem earlier (literals older)
settled_there problem earlier e older Assumed d h = absurd (let bad : false ≡ true = d in cc)
settled_there problem earlier e older Decided d h = h
settled_there problem earlier e older (Forced reason) d h = absurd (let bad : false ≡ true = d in cc)

-- when the decision was made, each clause was settled
settled_at : (problem : List (List Constraint)) (earlier : List (List Lit)) (entries : List Entry) (needed : List Bool) (from start : ℕ) → IsStart needed entries from start → AllStand problem earlier entries → AllSettled problem earlier (literals (drop (start + 1) entries))
settled_at problem earlier entries needed from start s a =
    let stands = subst (λ (es : List Entry). AllStand problem earlier es) s.decision.there (stand-drop problem earlier start entries a) in
    settled_there problem earlier s.decision.entry (drop (start + 1) entries) s.decision.entry.cause s.decision.decided stands.0

not_both : (cause : Cause) → is_decided cause ≡ true → is_assumed cause ≡ false
not_both Assumed d = sym d
not_both Decided d = refl
not_both (Forced reason) d = refl

not_assumed : (problem : List (List Constraint)) (earlier : List (List Lit)) (older : List Entry) (l : Lit) (cause : Cause) → (list_all (λ e. is_assumed e.cause) older ≡ true → ⊥) → Stands problem earlier older l cause → is_assumed cause ≡ false
not_assumed problem earlier older l Assumed n s = absurd (n s)
not_assumed problem earlier older l Decided n s = refl
not_assumed problem earlier older l (Forced reason) n s = refl

some_decided : (d : ℕ) (entries : List Entry) (e : Entry) (older : List Entry) → drop d entries ≡ e ∷ older → is_decided e.cause ≡ true → list_all (λ f. is_assumed f.cause) entries ≡ true → ⊥
some_decided zero [] e older there is all = let bad : [] ≡ e ∷ older = there in cc
some_decided zero (f ∷ fs) e older there is all =
    let same : f ≡ e = cc in
    let parts = and_parts (is_assumed f.cause) (list_all (λ g. is_assumed g.cause) fs) all in
    both_ways (is_assumed e.cause) (not_both e.cause is) (subst (λ (g : Entry). is_assumed g.cause ≡ true) same parts.0)
some_decided (suc d) [] e older there is all = let bad : [] ≡ e ∷ older = there in cc
some_decided (suc d) (f ∷ fs) e older there is all =
    let parts = and_parts (is_assumed f.cause) (list_all (λ g. is_assumed g.cause) fs) all in
    some_decided d fs e older there is parts.1

-- nothing newer than a decision is assumed
assumed_older : (problem : List (List Constraint)) (earlier : List (List Lit)) (d : ℕ) (entries : List Entry) (e : Entry) (older : List Entry) → drop d entries ≡ e ∷ older → is_decided e.cause ≡ true → AllStand problem earlier entries → assumed older ≡ assumed entries
assumed_older problem earlier zero [] e older there is a = absurd (let bad : [] ≡ e ∷ older = there in cc)
assumed_older problem earlier zero (f ∷ fs) e older there is a =
    let none : is_assumed e.cause ≡ false = not_both e.cause is in
    sym (ap assumed there ∙ rw none refl)
assumed_older problem earlier (suc d) [] e older there is a = absurd (let bad : [] ≡ e ∷ older = there in cc)
assumed_older problem earlier (suc d) (f ∷ fs) e older there is a =
    let none : is_assumed f.cause ≡ false = not_assumed problem earlier fs f.lit f.cause (some_decided d fs e older there is) a.0 in
    assumed_older problem earlier d fs e older there is a.1 ∙ rw none refl

denied_there : (fs : List Entry) (m : Lit) → is_in (literals fs) m ≡ true → is_in (denials fs) (denial m) ≡ true
denied_there [] m i = absurd (let bad : false ≡ true = i in cc)
denied_there (f ∷ fs) m i =
    elim (or_cases (is_same f.lit m) (is_in (literals fs) m) i) [
      | inl same ↦ or_left (is_same (denial f.lit) (denial m)) (is_in (denials fs) (denial m)) (subst (λ (k : Lit). is_same (denial f.lit) (denial k) ≡ true) (same_lit f.lit m same) (same_itself (denial f.lit)))
      | inr rest ↦ or_right (is_same (denial f.lit) (denial m)) (is_in (denials fs) (denial m)) (denied_there fs m rest)
    ]

distinct_vars : (problem : List (List Constraint)) (ls : List Lit) → is_clause problem ls ≡ true → is_distinct (map (λ k. k.var) ls) ≡ true
distinct_vars problem ls one = let parts = and_parts (list_all (λ v. nat_lt v (length problem)) (map (λ k. k.var) ls)) (is_distinct (map (λ k. k.var) ls)) one in parts.1

-- the walk ends at the only entry that is needed of its level
pub learnt_is : (problem : List (List Constraint)) (earlier : List (List Lit)) (size : ℕ) (entries : List Entry) (d start : ℕ) (needed : List Bool) (e : Entry) (hints : List Hint) (learnt : Learnt)
    → size ≡ length problem
    → IsOrdered size entries
    → AllStand problem earlier entries
    → drop d entries ≡ e ∷ drop (d + 1) entries
    → at needed e.lit.var ≡ true
    → IsStart needed entries (d + 1) start
    → IsBack needed entries (start + 1) learnt.back
    → learnt.lemma.lits ≡ denials (needed_of needed (drop d entries))
    → learnt.lemma.hints ≡ hints
    → learnt.forced ≡ denial e.lit
    → IsRefuting problem earlier (literals (needed_of needed (drop d entries))) (literals (take d entries)) hints
    → IsLearnt problem earlier entries learnt
learnt_is problem earlier size entries d start needed e hints learnt same o a there here s b lits is forces_is refuting =
    let es : List Entry = drop d entries in
    let back : ℕ = learnt.back in
    let settled_part : List Entry = drop (start + 1) entries in
    let kept : List Entry = drop back entries in
    let at_start : needed_of needed es ≡ e ∷ needed_of needed settled_part = taken needed entries d e there here ∙ ap (λ fs. e ∷ fs) s.quiet in
    let at_back : needed_of needed es ≡ e ∷ needed_of needed kept = at_start ∙ ap (λ fs. e ∷ fs) b.quiet in
    let row_start : learnt.lemma.lits ≡ denials (e ∷ needed_of needed settled_part) = lits ∙ ap denials at_start in
    let row_back : learnt.lemma.lits ≡ denials (e ∷ needed_of needed kept) = lits ∙ ap denials at_back in
    let next : suc d ≡ d + 1 = omega arith in
    let last : is_in (literals (take (suc d) entries)) e.lit ≡ true = take-last d entries e (drop (d + 1) entries) there in
    let known_start : IsUnknown (literals settled_part) e.lit = newer_unknown size (start + 1) entries e.lit o (take-later (suc d) (start + 1) entries e.lit (omega (arith, s.above)) last) in
    let known_back : IsUnknown (literals kept) e.lit = newer_unknown size back entries e.lit o (take-later (suc d) back entries e.lit (omega (arith, s.above, b.above)) last) in
    let in_start : (m : Lit) → is_in (literals (needed_of needed settled_part)) m ≡ true → is_in (literals settled_part) m ≡ true = λ m i. let both = needed_in needed settled_part m i in both.0 in
    let in_back : (m : Lit) → is_in (literals (needed_of needed kept)) m ≡ true → is_in (literals kept) m ≡ true = λ m i. let both = needed_in needed kept m i in both.0 in
    let settled = settled_at problem earlier entries needed (d + 1) start s a in
    let l : Lit = denial e.lit in
    let unknown : IsUnknown (literals settled_part) l = denied_unknown (literals settled_part) e.lit known_start in
    let false_but_one = but_one e (needed_of needed settled_part) (literals settled_part) in_start in
    let others : list_all (λ k. is_same k l || is_in (literals settled_part) (denial k)) learnt.lemma.lits ≡ true = subst (λ (ls : List Lit). list_all (λ k. is_same k l || is_in (literals settled_part) (denial k)) ls ≡ true) (sym row_start) false_but_one in
    let one = is_one problem size needed es same (ordered-drop size d entries o) in
    let distinct : is_tautology learnt.lemma.lits ≡ false = subst (λ (ls : List Lit). is_tautology ls ≡ false) (sym lits) (no_tautology (denials (needed_of needed es)) (distinct_vars problem (denials (needed_of needed es)) one)) in
    let first : is_in learnt.lemma.lits l ≡ true = subst (λ (ls : List Lit). is_in ls l ≡ true) (sym row_back) (or_left (is_same l l) (is_in (denials (needed_of needed kept)) l) (same_itself l)) in
    let rest : (m : Lit) → is_in (literals (needed_of needed kept)) m ≡ true → is_in learnt.lemma.lits (denial m) ≡ true = λ m i. subst (λ (ls : List Lit). is_in ls (denial m) ≡ true) (sym row_back) (or_right (is_same l (denial m)) (is_in (denials (needed_of needed kept)) (denial m)) (denied_there (needed_of needed kept) m i)) in
    record {
      follows =
          ap (λ ls. fault_of problem earlier ls learnt.lemma.hints) lits
          ∙ (ap (λ hs. fault_of problem earlier (denials (needed_of needed es)) hs) is
          ∙ follows problem earlier size needed es (literals (take d entries)) hints same (ordered-drop size d entries o) (λ m i. newer_unknown size d entries m o i) refuting);
      unmet = subst (λ (ls : List Lit). is_nothing (left (literals entries) ls) ≡ true) (sym lits)
          (unmet (needed_of needed es) (literals entries) (λ m i. let both = needed_in needed es m i in drop-in d entries m both.0));
      irredundant = (
        distinct,
        no_given problem earlier (literals settled_part) learnt.lemma.lits l others unknown settled,
        no_earlier problem earlier (literals settled_part) learnt.lemma.lits l others unknown settled,
        tt,
      );
      some = omega (arith, b.above);
      within = b.within;
      assumed_stay = ap (λ n. assumed (drop n entries)) b.after ∙ assumed_older problem earlier b.last entries b.decision.entry (drop (b.last + 1) entries) b.decision.there b.decision.decided a;
      stand = staying problem earlier learnt.lemma.lits size needed l kept first rest (ordered-drop size back entries o) (denied_unknown (literals kept) e.lit known_back) b.level (stand-drop problem earlier back entries a);
      forces = ap (λ ls. forced (literals kept) ls) row_back ∙ (forces e (needed_of needed kept) (literals kept) known_back in_back ∙ ap (λ m. Some m) (sym forces_is));
    }
