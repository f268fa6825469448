use Rattle.std.proofs.Common.{◌≡◌, ℕ, ◌+◌, [], ◌∷◌, ◌++◌, length, set, true, ap, subst, arith}
use Rattle.preference_search.specs.Searching.{IsAt}
use Rattle.preference_search.proofs.Turning.{at-taken}
use Rattle.preference_search.proofs.Going.{at-same, member-within}
use Rattle.preference_search.proofs.search.Search.advance.Goals as goal

pub take-requires : goal.take-requires
take-requires c =
    let s = c.args.self.now in
    member-within c.args.problem.now s.bits.items s.chosen.items s.numbers.items c.args.next.members.now c.args.next.owner c.args.next.place c.args.tried c.index-members-tried.result
    c.requires.trying.stands c.requires.next c.if-tried-members.true c.index-members-tried.is

pub returns-then-tried-members : goal.returns-then-tried-members
returns-then-tried-members c =
    let s = c.args.self.now in
    let t = c.take.new.self in
    let k = c.args.tried in
    let v = c.index-members-tried.result in
    let problem = c.args.problem.now in
    let budget = c.args.budget in
    let logs = ap (λ l. l.lemmas) c.in_ok-take.ensures.log in
    let sum : length s.log.lemmas + length (s.numbers.items ++ k ∷ []) ≡ length t.log.lemmas + length t.numbers.items = omega (arith, ap length logs, ap length c.in_ok-take.ensures.numbers) in
    let P : ℕ → Type 0 = λ n. IsAt problem budget t.log.lemmas t.numbers.items t.chosen.items t.bits.items t.steps.items 0 n in (
      subst P sum
          (at-same problem budget s.log.lemmas t.log.lemmas (s.numbers.items ++ k ∷ []) t.numbers.items (s.chosen.items ++ v ∷ []) t.chosen.items (set s.bits.items v true) t.bits.items s.steps.items t.steps.items 0
          (length s.log.lemmas + length (s.numbers.items ++ k ∷ []))
          logs c.in_ok-take.ensures.numbers c.in_ok-take.ensures.chosen c.in_ok-take.ensures.bits c.in_ok-take.ensures.steps
          (at-taken problem budget s.log.lemmas s.numbers.items s.chosen.items s.bits.items s.steps.items k v c.args.next.owner c.args.next.place c.args.next.members.now
          c.requires.trying c.requires.next c.requires.few c.if-tried-members.true c.index-members-tried.is)),
      c.in_ok-take.ensures.numbers,
    )
