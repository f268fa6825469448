use Rattle.std.proofs.Common.{◌≡◌, ◌-◌}
use Rattle.payloads.specs.Form.{read_items}
use Rattle.payloads.proofs.ItemLoops.{with_front}
use Rattle.payloads.proofs.joined.read_items_at.Given as goal

abbrev pub invariant-loop : goal.invariant-loop
invariant-loop g l = with_front l.items.items (read_items g.T.Stored.form (l.count - l.counter) l.rest) ≡ read_items g.T.Stored.form l.count l.bytes
