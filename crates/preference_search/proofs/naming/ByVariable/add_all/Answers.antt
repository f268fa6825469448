use Rattle.preference_search.proofs.Indexing.{grown-onward, all-listed}
use Rattle.preference_search.proofs.naming.ByVariable.add_all.Goals as goal

pub loop-var-preserved : goal.loop-var-preserved
loop-var-preserved g c = record {
  listed = all-listed c.loop-var.self c.add.new.self c.args.vars.now c.loop-var.var-index c.var-item.result c.args.item c.loop-var-test.true c.var-item.is
      c.loop-var.invariant.listed c.in_ok-add.ensures.grown c.in_ok-add.ensures.listed;
  grown = grown-onward c.args.self.now c.loop-var.self c.add.new.self c.loop-var.invariant.grown c.in_ok-add.ensures.grown;
}
