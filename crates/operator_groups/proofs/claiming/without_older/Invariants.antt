use Rattle.std.proofs.Common.{◌≡◌, ◌++◌, drop}
use Rattle.operator_groups.specs.Claiming.{without_older}
use Rattle.operator_groups.proofs.claiming.without_older.Given as goal

abbrev pub invariant-entries : goal.invariant-entries
invariant-entries l =
    l.kept.items ++ without_older (drop l.entry-index l.entries) l.claim ≡ without_older l.entries l.claim
