use Rattle.clause_trail.specs.Trails.{literals}
use Rattle.clause_trail.proofs.Scanning.{many-scan}
use Rattle.clause_trail.proofs.members.too_many.Goals as goal

pub returns : goal.returns
returns c =
    many-scan (literals c.args.trail.now.entries) c.args.var c.args.place c.args.most c.args.members.now c.new.result.items c.in_ok-named.named.items c.truncate.new.self.items c.in_ok-not_all.field-0
    c.requires.distinct c.requires.many
    c.new.ensures.items c.in_ok-named.ensures c.truncate.ensures.items c.in_ok-not_all.ensures.hint c.in_ok-not_all.ensures.lits
