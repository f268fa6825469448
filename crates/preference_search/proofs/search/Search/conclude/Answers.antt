use Rattle.std.proofs.Common.{◌≡◌, ℕ, ◌+◌, ◌-◌, List, [], ◌∷◌, ◌++◌, length, map, drop, suc, refl, sym, ap, ◌∙◌, subst, arith}
use Rattle.std.proofs.lemmas.List.{drop_all}
use Rattle.derivations.specs.declared.Hint.{Hint}
use Rattle.derivations.specs.declared.Hint.TheVariants.{Given}
use Rattle.derivations.specs.declared.Refutation.{Refutation}
use Rattle.derivations.specs.Clauses.{negative}
use Rattle.derivations.specs.Follows.{Follows}
use Rattle.preference_search.specs.Searching.{ArePassedOver}
use Rattle.preference_search.proofs.Hints.{AreOut, out-begun, lemma-follows}
use Rattle.preference_search.proofs.Passing.{passed-last, passed-up, steps-enough}
use Rattle.preference_search.proofs.Turning.{conclude-step}
use Rattle.preference_search.proofs.search.Search.conclude.Goals as goal

pub loop-left-init : goal.loop-left-init
loop-left-init c =
    let s = c.args.self.now in
    let members = c.args.members.now in
    let P : List ℕ → Type 0 = λ out. AreOut c.args.problem.now s.log.lemmas s.chosen.items out c.new-hints.result.items in
    let Q : List Hint → Type 0 = λ hs. AreOut c.args.problem.now s.log.lemmas s.chosen.items [] hs in
    record {
      passed = c.requires.passed;
      out = subst P (sym (drop_all (length members) members (omega arith))) (subst Q (sym c.new-hints.ensures.items) (out-begun c.args.problem.now s.log.lemmas s.chosen.items));
      low = omega arith;
      log = refl;
      numbers = refl;
      chosen = refl;
      bits = refl;
    }

pub unreachable-requires : goal.unreachable-requires
unreachable-requires c =
    let s = c.args.self.now in
    let size = steps-enough c.args.problem.now s.log.lemmas s.numbers.items c.loop-left.left c.loop-left.self.steps.items c.loop-left.invariant.passed in
    omega (arith, size, c.in-None.ensures.cases, c.loop-left.self.steps.ok, c.loop-left-test.true)

pub loop-left-preserved : goal.loop-left-preserved
loop-left-preserved c =
    let s = c.args.self.now in
    let problem = c.args.problem.now in
    let members = c.args.members.now in
    let k = c.loop-left.left - 1 in
    let one : c.loop-left.left ≡ k + 1 = omega (arith, c.loop-left-test.true) in
    let next : c.loop-left.left ≡ suc k = omega (arith, c.loop-left-test.true) in
    let before = c.pop.new.self.items in
    let step : ℕ × ℕ × Refutation = (c.in-Some.field-0-0, c.in-Some.field-0-1, c.in-Some.step) in
    let P : List (ℕ × ℕ × Refutation) → Type 0 = λ xs. ArePassedOver problem s.log.lemmas (s.numbers.items ++ c.loop-left.left ∷ []) xs in
    let Q : ℕ → Type 0 = λ n. ArePassedOver problem s.log.lemmas (s.numbers.items ++ n ∷ []) (before ++ step ∷ []) in
    let R : ℕ → Type 0 = λ n. AreOut problem s.log.lemmas s.chosen.items (drop n members) c.loop-left.hints.items in
    let H : List Hint → Type 0 = λ hs. AreOut problem s.log.lemmas s.chosen.items (drop k members) hs in
    let last = passed-last problem s.log.lemmas s.numbers.items s.chosen.items k before step c.requires.stands.walked (subst Q one (subst P c.in-Some.ensures.items c.loop-left.invariant.passed)) in
    record {
      passed = last.before;
      out = subst H (sym c.in_ok-add_step-in-Some.ensures)
          (conclude-step problem s.log.lemmas s.numbers.items s.chosen.items members c.requires.next.rest k before step c.loop-left.hints.items c.requires.next.waits last
          (subst R next c.loop-left.invariant.out));
      low = (let low = c.loop-left.invariant.low in omega (arith, low));
      log = c.loop-left.invariant.log;
      numbers = c.loop-left.invariant.numbers;
      chosen = c.loop-left.invariant.chosen;
      bits = c.loop-left.invariant.bits;
    }

pub returns-clause-follows : goal.returns-clause-follows
returns-clause-follows c =
    let s = c.args.self.now in
    let problem = c.args.problem.now in
    let members = c.args.members.now in
    let none : c.loop-left.left ≡ 0 = omega (arith, c.loop-left-test.false) in
    let R : ℕ → Type 0 = λ n. AreOut problem s.log.lemmas s.chosen.items (drop n members) c.loop-left.hints.items in
    let F : List Hint → Type 0 = λ hs. Follows problem s.log.lemmas (map negative s.chosen.items) hs in
    let pushed : c.push.new.self.items ≡ c.loop-left.hints.items ++ Given c.args.owner c.args.place [] ∷ [] =
    c.in_ok-push.ensures.items ∙ ap (λ ms. c.loop-left.hints.items ++ Given c.args.owner c.args.place ms ∷ []) c.new.ensures in
    subst F (sym pushed)
    (lemma-follows problem s.log.lemmas s.chosen.items members c.args.owner c.args.place c.loop-left.hints.items
    c.requires.stands.within c.requires.stands.once c.requires.next.owned c.requires.next.at (subst R none c.loop-left.invariant.out))

pub returns-clause-passed : goal.returns-clause-passed
returns-clause-passed c =
    let s = c.args.self.now in
    let none : c.loop-left.left ≡ 0 = omega (arith, c.loop-left-test.false) in
    let Q : ℕ → Type 0 = λ n. ArePassedOver c.args.problem.now s.log.lemmas (s.numbers.items ++ n ∷ []) c.loop-left.self.steps.items in
    passed-up c.args.problem.now s.log.lemmas s.numbers.items c.loop-left.self.steps.items (subst Q none c.loop-left.invariant.passed)
