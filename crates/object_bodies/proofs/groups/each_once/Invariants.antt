use Rattle.std.proofs.Common.{◌≡◌, ℕ, List, take}
use Rattle.name_tables.specs.Sets.{has}
use Rattle.object_bodies.specs.Statuses.{each_once}
use Rattle.object_bodies.proofs.Once.{is_named}
use Rattle.object_bodies.proofs.groups.each_once.Given as goal

abbrev pub invariant-loop-name : goal.invariant-loop-name
invariant-loop-name l = record {
  names : (name : List ℕ) → has l.seen name ≡ is_named (take l.name-index l.names) name;
  once : l.once.items ≡ each_once (take l.name-index l.names);
}
