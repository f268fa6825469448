use Rattle.std.proofs.Common.{Some, ap, sym, ◌∙◌}
use Rattle.std.specs.Str.{is_utf8}
use Rattle.std.proofs.lemmas.Str.{is_utf8-from_IsUtf8}
use Rattle.payloads.specs.Form.{bytes_form, text_form}
use Rattle.payloads.proofs.Combinators.{passing_holds, passing_fails}
use Rattle.payloads.proofs.TextTests.{is_utf8_false}
use Rattle.payloads.proofs.basic.TextStored.read_from.Goals as goal

pub returns-in-Ok-from_str : goal.returns-in-Ok-from_str
unfolding text_form
returns-in-Ok-from_str c =
    let cases = c.in-Ok.ensures.cases in
    passing_holds is_utf8 bytes_form c.args.bytes.now (c.in_ok-front.front.now, c.in_ok-front.rest.now) c.in_ok-front.ensures (is_utf8-from_IsUtf8 c.in_ok-front.front.now cases.1)
    ∙ ap (λ text. Some (text, c.in_ok-front.rest.now)) (sym (c.in-Ok-from_str.ensures ∙ cases.0))

pub returns-in-Err : goal.returns-in-Err
unfolding text_form
returns-in-Err c =
    passing_fails is_utf8 bytes_form c.args.bytes.now (c.in_ok-front.front.now, c.in_ok-front.rest.now) c.in_ok-front.ensures (is_utf8_false c.in_ok-front.front.now c.in-Err.ensures.cases.0)
