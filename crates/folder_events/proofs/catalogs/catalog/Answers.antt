use Rattle.fbc_read.specs.Bodies.{input_limit}
use Rattle.folder_events.proofs.Answering.{fault_answers, text_answers}
use Rattle.folder_events.proofs.Lengths.{body_within}
use Rattle.folder_events.proofs.catalogs.catalog.Goals as goal

pub write_valid-requires-clause-within : goal.write_valid-requires-clause-within
write_valid-requires-clause-within g c = body_within (g.F.Folder.held c.args.folder.now) c.args.path.now input_limit c.in-Ok.text c.in-Ok.ensures.body

pub returns-in-Ok-clause-answer : goal.returns-in-Ok-clause-answer
returns-in-Ok-clause-answer g c =
    text_answers g.C.Cluster.fits (g.C.Cluster.limit c.args.cluster.now) (g.C.Cluster.history c.args.cluster.now) _ (g.F.Folder.held c.args.folder.now) c.args.namespace.now c.args.name.now c.args.path.now c.args.priority
    c.in-Ok.text _ c.in-Ok.ensures.body c.write_valid.ensures.answer

pub returns-in-Err-clause-answer : goal.returns-in-Err-clause-answer
returns-in-Err-clause-answer g c =
    fault_answers g.C.Cluster.fits (g.C.Cluster.limit c.args.cluster.now) (g.C.Cluster.history c.args.cluster.now) (g.F.Folder.held c.args.folder.now) c.args.namespace.now c.args.name.now c.args.path.now c.args.priority
    c.in-Err.fault _ c.in-Err.ensures.body c.fault_answer.ensures.answer
