use Rattle.std.proofs.Common.{◌∙◌, sym, None, Some, arith}
use Rattle.olm_cli.proofs.Digits.{all_read, one_digit}
use Rattle.olm_cli.proofs.words.number_of.Goals as goal

pub returns-in-None : goal.returns-in-None
returns-in-None c = sym (one_digit c.digits.value c.digits.digit-index c.args.digits.now None (omega arith) c.in-None.ensures.value) ∙ c.digits.invariant.rest

pub digits-preserved : goal.digits-preserved
digits-preserved c =
    record {
      bound = c.in-Some.ensures.bound;
      rest = sym (one_digit c.digits.value c.digits.digit-index c.args.digits.now (Some c.in-Some.longer) (omega arith) c.in-Some.ensures.value) ∙ c.digits.invariant.rest;
    }

pub returns : goal.returns
returns c = sym (all_read c.digits.value c.digits.digit-index c.args.digits.now (omega arith)) ∙ c.digits.invariant.rest
