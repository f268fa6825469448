use Rattle.std.proofs.Common.{sym, vec_len, arith}
use Rattle.std.proofs.lemmas.Bool.{eqb-true}
use Rattle.preference_search.proofs.Turning.{root-closed}
use Rattle.preference_search.proofs.search.Search.close.Goals as goal

pub returns-then-is_empty : goal.returns-then-is_empty
returns-then-is_empty c = λ number.
    let s = c.args.self.now in
    record {
      sound = c.requires.sound;
      refutes = root-closed c.args.problem.now s.log.lemmas s.numbers.items s.chosen.items s.bits.items c.args.refutation
          (let none = eqb-true (vec_len s.numbers) 0 (sym c.if-is_empty.ensures) in omega (arith, none, s.numbers.ok)) c.requires.stands c.requires.lits c.requires.follows;
    }
