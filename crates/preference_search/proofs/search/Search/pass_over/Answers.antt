use Rattle.std.proofs.Common.{◌≡◌, ℕ, ◌+◌, ◌-◌, List, [], ◌∷◌, ◌++◌, length, take, set, true, false, refl, sym, ap, ◌∙◌, subst, arith}
use Rattle.op_constraints.specs.Walks.{mandatory}
use Rattle.derivations.specs.declared.Lemma.{Lemma}
use Rattle.derivations.specs.declared.Refutation.{Refutation}
use Rattle.derivations.specs.Clauses.{is_in, negative}
use Rattle.derivations.specs.Accepted.{Refutes}
use Rattle.preference_search.specs.declared.search.Search.{Search}
use Rattle.preference_search.specs.Searching.{IsLog}
use Rattle.preference_search.proofs.Turning.{trying-next, number-small, back-denied, cut-enough, root-refutes, offered-left}
use Rattle.preference_search.proofs.Going.{trying-same, back-same, chosen-some, chosen-within}
use Rattle.preference_search.proofs.search.Search.pass_over.Goals as goal

pub leave-requires-clause-some : goal.leave-requires-clause-some
leave-requires-clause-some c = let s = c.args.self.now in chosen-some c.args.problem.now s.bits.items s.chosen.items s.numbers.items c.requires.here.stands

pub leave-requires-clause-within : goal.leave-requires-clause-within
leave-requires-clause-within c = let s = c.args.self.now in chosen-within c.args.problem.now s.bits.items s.chosen.items s.numbers.items c.requires.here.stands

log-same : (s t : Search) → s.log ≡ t.log → s.log.lemmas ≡ t.log.lemmas
log-same s t e = ap (λ l. l.lemmas) e

pub try_next-requires-clause-trying : goal.try_next-requires-clause-trying
try_next-requires-clause-trying c =
    let s = c.args.self.now in
    let t = c.leave.new.self in
    let k = c.in-Some.last.0 in
    let v = c.in-Some.last.1 in
    let d = c.args.denial in
    let step : ℕ × ℕ × Refutation = (length t.numbers.items, k, d) in
    let named : is_in d.lits (negative v) ≡ true = ap (λ ls. is_in ls (negative v)) (sym c.as_slice.ensures) ∙ sym c.if-names.ensures in
    trying-same c.args.problem.now c.args.budget s.log.lemmas t.log.lemmas t.numbers.items t.numbers.items t.chosen.items t.chosen.items (set s.bits.items v false) t.bits.items (s.steps.items ++ step ∷ []) (t.steps.items ++ step ∷ []) (k + 1)
    (log-same t s c.in-Some.ensures.log) refl refl c.in-Some.ensures.bits (ap (λ xs. xs ++ step ∷ []) c.in-Some.ensures.steps)
    (trying-next c.args.problem.now c.args.budget s.log.lemmas s.numbers.items t.numbers.items s.chosen.items t.chosen.items s.bits.items s.steps.items k v c.requires.after c.requires.count (length t.numbers.items) d
    c.requires.here c.requires.enough c.requires.denial c.in-Some.ensures.numbers c.in-Some.ensures.chosen named refl)

pub try_next-requires-clause-low : goal.try_next-requires-clause-low
try_next-requires-clause-low c =
    let s = c.args.self.now in
    let t = c.leave.new.self in
    number-small c.args.problem.now c.args.budget s.log.lemmas s.numbers.items t.numbers.items s.chosen.items s.bits.items s.steps.items c.in-Some.last.0 c.requires.after c.requires.count c.requires.here c.in-Some.ensures.numbers

pub try_next-requires-clause-walked : goal.try_next-requires-clause-walked
try_next-requires-clause-walked c =
    let s = c.args.self.now in
    let t = c.leave.new.self in
    record {
      candidate = c.in-Some.last.1;
      offered = offered-left c.args.problem.now s.bits.items s.numbers.items t.numbers.items s.chosen.items t.chosen.items c.in-Some.last.0 c.in-Some.last.1 c.requires.here.stands c.in-Some.ensures.numbers c.in-Some.ensures.chosen;
    }

pub cut-requires : goal.cut-requires
cut-requires c =
    let s = c.args.self.now in
    let t = c.leave.new.self in
    let enough = cut-enough c.args.problem.now c.args.budget s.log.lemmas s.numbers.items t.numbers.items s.chosen.items s.bits.items s.steps.items c.in-Some.last.0 c.requires.after c.requires.count c.requires.here c.in-Some.ensures.numbers in
    omega (arith, enough, ap length c.in-Some.ensures.steps)

pub returns-in-None : goal.returns-in-None
returns-in-None c =
    let s = c.args.self.now in
    let t = c.leave.new.self in
    let same : t.log.lemmas ≡ s.log.lemmas = log-same t s c.in-None.ensures.log in
    let P : List Lemma → Type 0 = λ l. IsLog c.args.problem.now c.args.budget l in
    let Q : List Lemma → Type 0 = λ l. Refutes c.args.problem.now l (mandatory c.args.problem.now) c.args.denial in
    record {
      sound = subst P (sym same) c.requires.here.sound;
      refutes = subst Q (sym same) (root-refutes c.args.problem.now c.args.budget s.log.lemmas s.numbers.items s.chosen.items s.bits.items s.steps.items c.requires.after c.requires.count c.args.denial
          c.requires.here c.requires.denial c.in-None.ensures.none);
    }

pub returns-else-names : goal.returns-else-names
returns-else-names c =
    let s = c.args.self.now in
    let t = c.leave.new.self in
    let u = c.cut.new.self in
    let k = c.in-Some.last.0 in
    let v = c.in-Some.last.1 in
    let d = c.args.denial in
    let n = length s.steps.items - k in
    let unnamed : is_in d.lits (negative v) ≡ false = ap (λ ls. is_in ls (negative v)) (sym c.as_slice.ensures) ∙ sym c.if-names.ensures in
    let enough = cut-enough c.args.problem.now c.args.budget s.log.lemmas s.numbers.items t.numbers.items s.chosen.items s.bits.items s.steps.items k c.requires.after c.requires.count c.requires.here c.in-Some.ensures.numbers in
    let size : n + k ≡ length s.steps.items = omega (arith, enough) in
    let steps : u.steps.items ≡ take n s.steps.items = c.cut.ensures.steps ∙ ap (λ xs. take (length xs - k) xs) c.in-Some.ensures.steps in
    let back = back-same c.args.problem.now c.args.budget s.log.lemmas u.log.lemmas t.numbers.items u.numbers.items t.chosen.items u.chosen.items (set s.bits.items v false) u.bits.items (take n s.steps.items) u.steps.items (k + 1) d
    (log-same u t c.cut.ensures.log ∙ log-same t s c.in-Some.ensures.log) c.cut.ensures.numbers c.cut.ensures.chosen (c.cut.ensures.bits ∙ c.in-Some.ensures.bits) steps
    (back-denied c.args.problem.now c.args.budget s.log.lemmas s.numbers.items t.numbers.items s.chosen.items t.chosen.items s.bits.items s.steps.items k v c.requires.after c.requires.count n d
    c.requires.here c.requires.enough c.requires.denial c.in-Some.ensures.numbers c.in-Some.ensures.chosen unnamed size) in (
      record {
        after = k + 1;
        count = length u.log.lemmas + length u.numbers.items;
        here = back.here;
        enough = omega arith;
        denial = back.denial;
      },
      (k, [], c.in-Some.ensures.numbers ∙ ap (λ ns. ns ++ k ∷ []) (sym c.cut.ensures.numbers)),
    )
