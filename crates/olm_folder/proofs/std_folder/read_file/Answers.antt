use Rattle.olm_folder.proofs.Untold.{some_file}
use Rattle.olm_folder.proofs.std_folder.read_file.Goals as goal

pub returns : goal.returns
returns g c = some_file c.args.path.now c.args.limit c.read_all.ensures.answer.0 c.read_all.result c.read_all.ensures.answer.2
