use Rattle.std.proofs.Common.{arith}
use Rattle.derivations.proofs.Numbers.{all_read, reached}
use Rattle.derivations.proofs.reading.tokens.value_of.Goals as goal

pub returns-in-None-clause-none : goal.returns-in-None-clause-none
returns-in-None-clause-none c =
    omega (arith, c.in-None.ensures.none, reached c.digits.value _ c.digits.digit-index c.args.digits.now (omega arith) c.digits.invariant.rest)

pub returns-clause-some : goal.returns-clause-some
returns-clause-some c = (all_read c.digits.value _ c.digits.digit-index c.args.digits.now (omega arith) c.digits.invariant.rest, omega arith)
