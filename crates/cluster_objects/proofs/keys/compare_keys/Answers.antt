use Rattle.cluster_objects.specs.Keys.{key_cmp}
use Rattle.cluster_objects.proofs.keys.compare_keys.Goals as goal

pub returns : goal.returns
unfolding key_cmp
returns c = c.cmp.ensures
