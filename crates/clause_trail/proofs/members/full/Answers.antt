use Rattle.clause_trail.specs.Trails.{literals}
use Rattle.clause_trail.proofs.Scanning.{full-scan}
use Rattle.clause_trail.proofs.members.full.Goals as goal

pub returns : goal.returns
returns c =
    full-scan (literals c.args.trail.now.entries) c.args.var c.args.place c.args.most c.args.members.now c.in_ok-first.first.items c.in_ok-named.named.items c.args.unknown c.in_ok-not_all.field-0
    c.requires.distinct c.requires.many c.requires.unknown c.requires.member
    c.in_ok-first.ensures.items c.in_ok-named.ensures c.in_ok-not_all.ensures.hint c.in_ok-not_all.ensures.lits
