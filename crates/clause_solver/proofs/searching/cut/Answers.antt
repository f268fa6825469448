use Rattle.std.proofs.Common.{◌∙◌}
use Rattle.clause_solver.proofs.Turning.{popped, cut_next}
use Rattle.clause_solver.proofs.searching.cut.Goals as goal

pub loop-preserved : goal.loop-preserved
loop-preserved c = (
  cut_next c.loop.counter c.args.trail.now.entries c.loop.trail.entries c.pop.new.self.entries c.loop.invariant.0
      (popped c.pop.result c.loop.trail.entries c.pop.new.self.entries c.pop.ensures.none c.pop.ensures.empty c.pop.ensures.popped),
  c.pop.ensures.size ∙ c.loop.invariant.1,
)
