use Rattle.std.proofs.Common.{◌∙◌}
use Rattle.semver.specs.Identifiers.{parts_of}
use Rattle.upgrade_graph.proofs.Placing.{placed_skips}
use Rattle.upgrade_graph.proofs.installed.skips_version.Goals as goal

pub returns : goal.returns
returns c = c.is_within.ensures ∙ placed_skips (parts_of c.args.version.now) c.args.placed.now c.requires
