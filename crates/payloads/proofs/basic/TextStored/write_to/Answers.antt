use Rattle.std.specs.Str.{is_utf8}
use Rattle.std.proofs.lemmas.Str.{is_utf8-from_IsUtf8}
use Rattle.std.proofs.Common.{ap, ◌∙◌}
use Rattle.payloads.specs.Form.{bytes_form, text_form}
use Rattle.payloads.proofs.TextTests.{appends_passing}
use Rattle.payloads.proofs.basic.TextStored.write_to.Goals as goal

pub returns : goal.returns
unfolding text_form
returns c =
    appends_passing is_utf8 bytes_form c.as_slice.result.now c.args.self.now c.args.out.now.items c.write_bytes.new.out.items c.write_bytes.result c.as_slice.ensures.bytes
    (ap is_utf8 c.as_slice.ensures.bytes ∙ is_utf8-from_IsUtf8 c.args.self.now c.as_slice.ensures.utf8)
    c.write_bytes.ensures
