use Rattle.std.proofs.Common.{arith}
use Rattle.clause_trail.specs.Trails.{literals}
use Rattle.clause_trail.proofs.Counting.{few-settled, known-settled}
use Rattle.clause_trail.proofs.members.scan_at_most.Goals as goal

pub returns-then-count-most-2 : goal.returns-then-count-most-2
returns-then-count-most-2 c =
    few-settled (literals c.args.trail.now.entries) c.args.var c.args.most c.args.members.now c.requires
    (omega (arith, c.count_in-count.ensures, c.if-count-most-2.true))

pub returns-in-None : goal.returns-in-None
returns-in-None c =
    known-settled (literals c.args.trail.now.entries) c.args.var c.args.most c.args.members.now
    (omega (arith, c.count_in-count.ensures, c.if-count-most.false)) c.in-None.ensures.none
