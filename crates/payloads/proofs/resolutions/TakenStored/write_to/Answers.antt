use Rattle.payloads.specs.Form.{name_form, option_form}
use Rattle.payloads.specs.Resolutions.{taken_form}
use Rattle.payloads.proofs.Appending.{behind, parts_written}
use Rattle.payloads.proofs.resolutions.TakenStored.write_to.Goals as goal

pub returns : goal.returns
unfolding taken_form
returns c =
    parts_written (option_form name_form) c.args.self.now.replaces _ _ _ c.args.self.now c.args.out.now.items c.write_to-6.new.out.items c.write_to-7.new.out.items c.write_to-7.result c.write_to-7.ensures
    (λ end. behind c.in_ok-write_to.ensures (behind c.in_ok-write_to-2.ensures (behind c.in_ok-write_to-3.ensures (behind c.in_ok-write_to-4.ensures (behind c.in_ok-write_to-5.ensures (behind c.in_ok-write_to-6.ensures end))))))
