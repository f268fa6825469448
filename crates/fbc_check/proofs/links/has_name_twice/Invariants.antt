use Rattle.std.proofs.Common.{◌≡◌, ℕ, List, take, map, false}
use Rattle.fbc_types.specs.Channels as channels
use Rattle.name_tables.specs.Sets.{has}
use Rattle.fbc_check.proofs.links.has_name_twice.Given as goal

abbrev pub invariant-entries : goal.invariant-entries
invariant-entries l =
    record {
      met : (name : List ℕ) → has l.met name ≡ channels.has_name name (map (λ entry. entry.now) (take l.entry-index l.chain));
      once : channels.has_name_twice (map (λ entry. entry.now) (take l.entry-index l.chain)) ≡ false;
    }
