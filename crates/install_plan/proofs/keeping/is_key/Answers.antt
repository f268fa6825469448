use Rattle.std.proofs.Common.{ap, ◌∙◌, rules}
use Rattle.std.specs.Ordering.{is_eq}
use Rattle.cluster_objects.specs.Keys.{same_key}
use Rattle.install_plan.proofs.keeping.is_key.Goals as goal

pub returns : goal.returns
unfolding same_key
returns c = c.is_eq.ensures ∙ ap is_eq c.compare_keys.ensures
